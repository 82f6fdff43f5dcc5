use Rattle.std.proofs.Common.{◌≡◌, take, drop, length}
use Rattle.seq_table.specs.Batches.{held_for_all}
use Rattle.seq_table.proofs.held.Held.hold_for_all.Given as goal

-- what is left to do leads to the same pairs, and those that were held come first
abbrev pub invariant-loop-request : goal.invariant-loop-request
invariant-loop-request l = record {
  left : held_for_all l.self (drop l.request-index l.request-items) ≡ held_for_all l.fn.self l.request-items;
  front : take (length l.fn.self) l.self ≡ l.fn.self;
}
