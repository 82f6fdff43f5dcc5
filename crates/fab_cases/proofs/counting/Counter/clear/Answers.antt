use Rattle.std.proofs.Common.{length, ap, ◌∙◌, None}
use Rattle.std.proofs.lemmas.List.{length-replicate}
use Rattle.fab_cases.proofs.counting.Counter.clear.Goals as goal

pub invariant_of-self : goal.invariant_of-self
invariant_of-self c = record { size = ap length c.clear.ensures ∙ (length-replicate (length c.args.self.now.tally) None ∙ c.args.self.now.size) }
