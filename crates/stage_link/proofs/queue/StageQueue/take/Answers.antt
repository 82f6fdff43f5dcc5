use Rattle.stage_link.proofs.Keeping.{takes, empties}
use Rattle.crossbeam_queue.specs.Passes.{view}
use Rattle.stage_link.proofs.queue.StageQueue.take.Goals as goal

pub pop_as-requires-clause-rule : goal.pop_as-requires-clause-rule
pop_as-requires-clause-rule g c = (takes _ (view c.args.pass.now) c.requires.takes, empties _ (view c.args.pass.now) c.requires.takes)
