use Rattle.std.proofs.Common.{ℕ, List, ◌++◌, sym, ap, subst, ◌∙◌}
use Rattle.std.specs.List.{All}
use Rattle.fab_base.specs.Limits.{Roster}
use Rattle.run_words.specs.declared.logs.Trace.{Trace}
use Rattle.run_worlds.specs.Scripts.{roster_of}
use Rattle.ledger_report.specs.Report.{head_line}
use Rattle.ledger_report.specs.Replayed.{HasLedger}
use Rattle.ledger_report.proofs.Replicas.{run_told}
use Rattle.ledger_report.proofs.Whole.{put_together}
use Rattle.ledger_report.proofs.reporting.report.Goals as goal

pub push_ledgers-requires : goal.push_ledgers-requires
push_ledgers-requires c =
    let t = c.args.transcript.now in
    let told = run_told t c.requires in
    subst (λ (r : Roster). All (HasLedger r) c.as_slice-traces.result.now) (sym c.in_ok-members.ensures)
    (subst (λ (l : List Trace). All (HasLedger (roster_of t.script)) l) (sym c.as_slice-traces.ensures) told.have_ledgers)

pub returns : goal.returns
returns c =
    let begun = ap (λ (l : List ℕ). l ++ head_line c.as_slice.result.now) c.new-text.ensures.items in
    put_together c.args.transcript.now c.args.end.now c.in_ok-members.members c.as_slice-traces.result.now c.as_slice.result.now _ _ _ _ c.requires
    c.in_ok-members.ensures c.as_slice-traces.ensures c.as_slice.ensures (c.in_ok-push_head.ensures ∙ begun) c.in_ok-longest.ensures.lines
    c.in_ok-push_longest.ensures (c.from_vec.ensures ∙ c.in_ok-push_end.ensures)
