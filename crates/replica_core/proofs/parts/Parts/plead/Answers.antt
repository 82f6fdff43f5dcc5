use Rattle.std.proofs.Common.{length, sym, ap, ◌∙◌}
use Rattle.replica_core.proofs.Missing.{missing_cluster}
use Rattle.replica_core.proofs.parts.Parts.plead.Goals as goal

pub plead_for-requires : goal.plead_for-requires
plead_for-requires c =
    missing_cluster c.args.self.now.roster c.self.inside.rounds.clusters c.self.inside.rounds.rounds c.in-Some.cluster
    (c.self.invariant.clusters ∙ ap (λ a. length a.roster.sizes) c.self.view_is) (sym c.in-Some.is ∙ c.missing.ensures)
