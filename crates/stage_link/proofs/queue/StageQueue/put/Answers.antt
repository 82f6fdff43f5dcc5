use Rattle.stage_link.proofs.Keeping.{puts}
use Rattle.crossbeam_queue.specs.Passes.{view}
use Rattle.stage_link.proofs.queue.StageQueue.put.Goals as goal

pub push_as-requires-clause-rule : goal.push_as-requires-clause-rule
push_as-requires-clause-rule g c = (puts _ _ (view c.args.pass.now) c.args.item c.requires.puts, λ items views h at. tt)
