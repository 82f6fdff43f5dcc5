use Rattle.stage_link.proofs.Keeping.{forks}
use Rattle.crossbeam_queue.specs.Passes.{view}
use Rattle.stage_link.proofs.queue.StageQueue.split_pass.Goals as goal

pub another-requires-clause-rule : goal.another-requires-clause-rule
another-requires-clause-rule g c = forks _ (view c.args.pass.now) c.requires.takes
