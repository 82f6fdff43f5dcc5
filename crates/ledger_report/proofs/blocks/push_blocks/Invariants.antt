-- what is done and what is left are the whole, and the table keeps its clients
use Rattle.std.proofs.Common.{◌≡◌, ◌++◌, length, drop}
use Rattle.std.specs.List.{flat_map}
use Rattle.fab_rules.specs.Ledger.{run_from, state_after_blocks}
use Rattle.seq_table.specs.Holding.{state_of}
use Rattle.ledger_report.specs.Walking.{lines_told}
use Rattle.ledger_report.proofs.blocks.push_blocks.Given as goal

abbrev pub invariant-loop-place : goal.invariant-loop-place
invariant-loop-place l = record {
  clients : length l.table.stamps ≡ l.rounds.clients;
  lines : l.text.items ++ flat_map (lines_told l.told) (run_from (state_of l.table) (drop l.place l.rounds.rounds.blocks))
      ≡ l.fn.text.items ++ flat_map (lines_told l.told) (run_from (state_of l.fn.table) l.rounds.rounds.blocks);
  state : state_after_blocks (state_of l.table) (drop l.place l.rounds.rounds.blocks) ≡ state_after_blocks (state_of l.fn.table) l.rounds.rounds.blocks;
}
