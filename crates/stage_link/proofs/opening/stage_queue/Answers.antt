use Rattle.stage_link.proofs.Keeping.{begins}
use Rattle.stage_link.proofs.opening.stage_queue.Goals as goal

pub ruled-requires-clause-rule : goal.ruled-requires-clause-rule
ruled-requires-clause-rule g c = begins
