use Rattle.std.proofs.Common.{length, sym, ap, ◌∙◌}
use Rattle.replica_core.proofs.Missing.{missing_cluster}
use Rattle.replica_core.proofs.parts.Parts.would_plead.Goals as goal

pub would_plead-requires : goal.would_plead-requires
would_plead-requires c =
    missing_cluster c.self.inside.talk.roster c.self.inside.rounds.clusters c.self.inside.rounds.rounds c.in-Some.cluster
    (c.self.invariant.clusters ∙ ap (λ r. length r.sizes) (sym c.self.invariant.talks_in)) (sym c.in-Some.is ∙ c.missing.ensures)
