use Rattle.std.proofs.Common.{◌≡◌, sym, subst}
use Rattle.std.specs.Prelude.{IfOk}
use Rattle.fab_base.specs.Limits.{Roster}
use Rattle.replica_log.specs.Replayed.{IsReplayable, core_after}
use Rattle.fabric_audit.proofs.cores.core_of.Goals as goal

pub replayed-core-requires : goal.replayed-core-requires
replayed-core-requires c = subst (λ (r : Roster). IsReplayable r c.args.trace.now) (sym c.in_ok-members.ensures) c.requires.replayable

pub returns : goal.returns
returns c =
    subst (λ (r : Roster). IfOk c.replayed-core.result (λ core. core ≡ core_after r c.args.trace.now)) c.in_ok-members.ensures c.replayed-core.ensures
