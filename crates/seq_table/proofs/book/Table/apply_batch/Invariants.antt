use Rattle.std.proofs.Common.{◌≡◌, ◌≤◌, ◌++◌, drop, length, vec_capacity}
use Rattle.std.specs.Map.{keys_of}
use Rattle.fab_base.specs.Table.{outcomes_of, state_after_all}
use Rattle.seq_table.specs.Holding.{state_of}
use Rattle.seq_table.specs.Batches.{values_written}
use Rattle.seq_table.proofs.book.Table.apply_batch.Given as goal

-- what is left of the batch leads from here to the same outcomes and the same state, and there is a place for each request
abbrev pub invariant-loop-request : goal.invariant-loop-request
invariant-loop-request l = record {
  outcomes : l.outcomes.items ++ outcomes_of (state_of l.self) (drop l.request-index l.request-items) ≡ outcomes_of (state_of l.fn.self) l.request-items;
  state : state_after_all (state_of l.self) (drop l.request-index l.request-items) ≡ state_after_all (state_of l.fn.self) l.request-items;
  places : l.places.items ≡ values_written (drop l.request-index l.request-items);
  made : length l.outcomes.items ≡ l.request-index;
  enough : length l.request-items ≤ vec_capacity l.outcomes;
  keys : keys_of l.self.held ≡ keys_of l.fn.self.held;
  clients : length l.self.stamps ≡ length l.fn.self.stamps;
}
