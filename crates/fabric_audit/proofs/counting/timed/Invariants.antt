use Rattle.std.proofs.Common.{◌≡◌, ◌≤◌, take}
use Rattle.std.specs.List.{count_by}
use Rattle.fabric_audit.proofs.counting.timed.Given as goal

abbrev pub invariant-loop-moment : goal.invariant-loop-moment
invariant-loop-moment l = (l.count ≡ count_by (λ x. x.timed) (take l.moment-index l.moments)) × (l.count ≤ l.moment-index)
