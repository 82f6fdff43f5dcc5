use Rattle.std.proofs.Common.{◌≡◌, ℕ, ◌-◌, ◌<◌, false}
use Rattle.turn_lock.specs.Numbers.{has}
use Rattle.turn_lock.proofs.numbers.least_of.Given as goal

abbrev pub invariant-loop-at : goal.invariant-loop-at
invariant-loop-at l = (k : ℕ) → k < l.at → has l.numbers k ≡ false

abbrev pub decreases-loop-at : goal.decreases-loop-at
decreases-loop-at l = 256 - l.at
