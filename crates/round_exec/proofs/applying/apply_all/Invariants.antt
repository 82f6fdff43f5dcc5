-- what is left comes to the same, and has its rooms, its keys and its places
use Rattle.std.proofs.Common.{◌≡◌, ◌++◌, ◌+◌, ◌≤◌, drop, length, vec_capacity}
use Rattle.std.specs.Map.{keys_of}
use Rattle.fab_rules.specs.Ledger.{state_after_blocks}
use Rattle.seq_table.specs.Holding.{state_of}
use Rattle.round_exec.specs.Done.{outcomes_in, rooms_for}
use Rattle.round_exec.proofs.applying.apply_all.Given as goal

abbrev pub invariant-loop-block : goal.invariant-loop-block
invariant-loop-block l = record {
  outcomes : l.outcomes.items ++ outcomes_in (state_of l.table) (drop l.block-index l.blocks) ≡ l.fn.outcomes.items ++ outcomes_in (state_of l.fn.table) l.blocks;
  state : state_after_blocks (state_of l.table) (drop l.block-index l.blocks) ≡ state_after_blocks (state_of l.fn.table) l.blocks;
  rooms : l.rooms.items ≡ rooms_for (drop l.block-index l.blocks);
  made : length l.outcomes.items ≡ length l.fn.outcomes.items + l.block-index;
  enough : length l.fn.outcomes.items + length l.blocks ≤ vec_capacity l.outcomes;
  keys : keys_of l.table.held ≡ keys_of l.fn.table.held;
  clients : length l.table.stamps ≡ length l.fn.table.stamps;
}
