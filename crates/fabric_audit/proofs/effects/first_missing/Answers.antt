use Rattle.std.proofs.Common.{sym, ap, subst, ◌∙◌}
use Rattle.std.specs.List.{All, prefix_len}
use Rattle.replica_log.specs.Replayed.{IsReplayable}
use Rattle.run_worlds.specs.Scripts.{roster_of}
use Rattle.fabric_audit.specs.Stamps.{served_by}
use Rattle.fabric_audit.proofs.Served.{missing_is, run_replayable}
use Rattle.fabric_audit.proofs.effects.first_missing.Goals as goal

pub served_by_all-requires-clause-replayable : goal.served_by_all-requires-clause-replayable
served_by_all-requires-clause-replayable c =
    subst (All (IsReplayable (roster_of c.args.transcript.now.script))) (sym c.as_slice.ensures) (run_replayable c.args.transcript.now c.requires)

pub returns : goal.returns
returns c =
    let t = c.args.transcript.now in
    c.get.ensures
    ∙ missing_is t c.in_ok-served.served c.requires
    (c.in_ok-served.ensures ∙ ap (λ l. prefix_len (served_by t.script l) t.script.requests) c.as_slice.ensures)
