use Rattle.std.proofs.Common.{◌==◌, not, sym, ap, subst, ◌∙◌, arith}
use Rattle.std.specs.List.{All, list_all}
use Rattle.run_worlds.proofs.RunLogs.{logs_of}
use Rattle.fabric_audit.specs.Counts.{all_taken, all_put, are_tried}
use Rattle.replica_log.specs.Replayed.{IsReplayable}
use Rattle.run_worlds.specs.Scripts.{roster_of}
use Rattle.fabric_audit.specs.Still.{is_still}
use Rattle.fabric_audit.proofs.Served.{run_replayable}
use Rattle.fabric_audit.proofs.Settled.{decided, undelivered, impatient}
use Rattle.fabric_audit.proofs.settling.is_settled.Goals as goal

pub are_still-requires-clause-replayable : goal.are_still-requires-clause-replayable
are_still-requires-clause-replayable c =
    subst (All (IsReplayable (roster_of c.args.transcript.now.script))) (sym c.as_slice-traces.ensures) (run_replayable c.args.transcript.now (logs_of c.args.transcript.now c.requires))

pub returns-then-transcript-gt0 : goal.returns-then-transcript-gt0
returns-then-transcript-gt0 c = impatient c.args.transcript.now c.if-transcript-gt0.true

pub returns-in_ok-are_still : goal.returns-in_ok-are_still
returns-in_ok-are_still c =
    let t = c.args.transcript.now in
    decided t c.requires (omega (arith, c.if-transcript-gt0.false)) c.in_ok-all_taken.field-0 c.in_ok-are_still.field-0
    (c.in_ok-all_taken.ensures ∙ ap (λ l. all_taken l == all_put t.script l) c.as_slice-traces.ensures) c.if-branch.true
    (c.in_ok-are_still.ensures ∙ ap (λ b. list_all (is_still t.script (not b)) c.as_slice-traces.result.now) c.in_ok-are_tried.ensures
    ∙ ap (list_all (is_still t.script (not (are_tried t)))) c.as_slice-traces.ensures)

pub returns-else-branch : goal.returns-else-branch
returns-else-branch c =
    let t = c.args.transcript.now in
    undelivered t c.requires c.in_ok-all_taken.field-0
    (c.in_ok-all_taken.ensures ∙ ap (λ l. all_taken l == all_put t.script l) c.as_slice-traces.ensures) c.if-branch.false
