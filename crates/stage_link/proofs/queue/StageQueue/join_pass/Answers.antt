use Rattle.std.proofs.Common.{ap, ◌∙◌}
use Rattle.stage_link.proofs.Keeping.{merges, starts}
use Rattle.crossbeam_queue.specs.Passes.{view}
use Rattle.stage_link.proofs.queue.StageQueue.join_pass.Goals as goal

pub absorb-requires-clause-rule : goal.absorb-requires-clause-rule
absorb-requires-clause-rule g c = merges _ (view c.args.pass.now) _ (view c.args.other) c.requires.takes c.requires.puts

pub learn_as-requires-clause-rule : goal.learn_as-requires-clause-rule
learn_as-requires-clause-rule g c = starts _ (view c.absorb.new.pass) (ap (λ v. v.takes) c.absorb.ensures.rule ∙ c.requires.takes)
