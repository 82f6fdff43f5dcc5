use Rattle.std.proofs.Common.{◌≡◌, map}
use Rattle.std.specs.Map.Iter.{deref_pair}
use Rattle.seq_table.specs.Holding.{entries_of}
use Rattle.seq_table.proofs.Pairs.{listed}
use Rattle.seq_table.proofs.held.Held.entries.Given as goal

-- the entries of the pairs so far
abbrev pub invariant-loop-key : goal.invariant-loop-key
invariant-loop-key l = listed l.sorted.entries ≡ entries_of (listed (map deref_pair l.yielded))
