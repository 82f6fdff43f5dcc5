use Rattle.std.proofs.Common.{◌≡◌, take}
use Rattle.std.specs.List.{sum_by}
use Rattle.fabric_audit.specs.Counts.{copies_for}
use Rattle.fabric_audit.proofs.counting.copies.Given as goal

abbrev pub invariant-loop-wish : goal.invariant-loop-wish
invariant-loop-wish l = l.count ≡ sum_by (copies_for l.members) (take l.wish-index l.requests)
