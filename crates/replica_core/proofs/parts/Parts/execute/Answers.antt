use Rattle.std.proofs.Common.{sym, subst, ◌∙◌}
use Rattle.std.specs.Bool.{IsTrue}
use Rattle.fab_base.specs.Limits.{IsWithinLimits}
use Rattle.fab_base.specs.Roster.{is_replica}
use Rattle.fab_machine.specs.ReplicaState.{IsReplicaState}
use Rattle.replica_core.specs.Inside.{seen}
use Rattle.replica_core.proofs.Within.{round_within}
use Rattle.replica_core.proofs.parts.Parts.execute.Goals as goal

pub note-requires-clause-upto : goal.note-requires-clause-upto
note-requires-clause-upto c =
    let p = c.self.inside in
    let view = sym c.self.view_is in
    round_within p.order.roster p.order.me (seen p.order p.rounds p.talk p.outbox.items).state p.rounds.clusters c.in-Executed.round
    (subst (λ a. IsWithinLimits a.roster) view c.requires.limits) (subst (λ a. IsTrue (is_replica a.roster a.me)) view c.requires.member)
    (subst (λ a. IsReplicaState a.roster a.me a.state) view c.requires.whole) c.self.invariant.clusters (sym c.in-Executed.is ∙ c.in_ok-round.ensures.answer)
