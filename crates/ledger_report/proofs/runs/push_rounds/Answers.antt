use Rattle.std.proofs.Common.{ap, ◌∙◌}
use Rattle.fab_base.specs.Table.{empty_state}
use Rattle.seq_table.specs.Holding.{state_of}
use Rattle.ledger_report.proofs.Walking.{run_is, on_ok}
use Rattle.ledger_report.proofs.runs.push_rounds.Goals as goal

pub returns : goal.returns
returns c =
    let r = c.args.rounds.now in
    let told = c.as_slice.ensures.value ∙ c.in_ok-told.ensures in
    let start = c.in_ok-table.ensures.state ∙ ap empty_state c.requires.clients in
    let entries = c.as_slice-2.ensures ∙ c.in_ok-entries.ensures in
    on_ok c.push_table.result
    (λ f. run_is _ _ _ c.args.traces.now _ (state_of c.in_ok-table.table) (state_of c.push_blocks.new.table) (empty_state r.clients) _ r.rounds.blocks
    told start c.in_ok-push_blocks.ensures.state entries c.in_ok-push_blocks.ensures.lines f)
    c.push_table.ensures
