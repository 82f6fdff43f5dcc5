-- A report as it is put together.
use Rattle.std.proofs.Common.{◌≡◌, ℕ, List, ◌++◌, length, sym, ap, ◌∙◌, append_assoc}
use Rattle.std.specs.List.{flat_map}
use Rattle.fab_base.specs.Limits.{Roster}
use Rattle.fab_base.specs.Table.{empty_state}
use Rattle.fab_rules.specs.declared.blocks.Block.{Block}
use Rattle.fab_rules.specs.Ledger.{run, start_of, state_after_blocks}
use Rattle.world_laws.specs.World.{longest}
use Rattle.run_words.specs.declared.ends.End.{End}
use Rattle.run_words.specs.declared.logs.Trace.{Trace}
use Rattle.run_words.specs.declared.logs.Transcript.{Transcript}
use Rattle.run_worlds.specs.Scripts.{roster_of, makers_of}
use Rattle.run_worlds.specs.Worlds.{ledgers_in}
use Rattle.run_worlds.specs.Endings.{IsOfLogs}
use Rattle.ledger_report.specs.Text.{table_text}
use Rattle.ledger_report.specs.Report.{head_line, replica_lines, block_lines, end_line, report_text}
use Rattle.ledger_report.specs.Replayed.{replica_text, longest_after}
use Rattle.ledger_report.specs.Walking.{run_text}
use Rattle.ledger_report.proofs.Replicas.{run_told}

is_report : (t : Transcript) (end : End) → IsOfLogs t
    → head_line t.script.sizes ++ flat_map (replica_text (roster_of t.script)) t.traces
    ++ run_text t.traces (start_of (roster_of t.script)) (longest_after (roster_of t.script) t.traces) ++ end_line end
    ≡ report_text t end
is_report t end h =
    let r = roster_of t.script in
    let told = run_told t h in
    let front = head_line t.script.sizes ++ replica_lines (length t.script.sizes) (makers_of t.script) t.traces in
    let blocks = λ (l : List Block). flat_map (block_lines t.traces) (run r l) in
    let table = λ (l : List Block). table_text (state_after_blocks (start_of r) l).entries in
    (λ i. head_line t.script.sizes ++ sym told.lines i ++ run_text t.traces (start_of r) (sym told.longest_is i) ++ end_line end)
    ∙ ap (λ x. x ++ end_line end)
    (sym (append_assoc front (blocks (longest (ledgers_in (makers_of t.script) t.traces))) (table (longest (ledgers_in (makers_of t.script) t.traces)))))

-- ---- by what each call adds

pub put_together : (t : Transcript) (end : End) (r : Roster) (traces : List Trace) (sizes head ledgers longest text : List ℕ) → IsOfLogs t
    → r ≡ roster_of t.script → traces ≡ t.traces → sizes ≡ t.script.sizes → head ≡ head_line sizes
    → ledgers ≡ head ++ flat_map (replica_text r) traces
    → longest ≡ ledgers ++ run_text traces (empty_state (length r.homes)) (longest_after r traces)
    → text ≡ longest ++ end_line end → text ≡ report_text t end
put_together t end r traces sizes head ledgers longest text run a b c d e f g =
    g
    ∙ ap (λ l. l ++ end_line end)
    (f ∙ ap (λ l. l ++ run_text traces (empty_state (length r.homes)) (longest_after r traces)) (e ∙ ap (λ l. l ++ flat_map (replica_text r) traces) d))
    ∙ (λ i. head_line (c i) ++ flat_map (replica_text (a i)) (b i)
    ++ run_text (b i) (empty_state (length (a i).homes)) (longest_after (a i) (b i)) ++ end_line end)
    ∙ is_report t end run
