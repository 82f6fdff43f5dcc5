use Rattle.std.proofs.Common.{◌≡◌, ℕ, ◌<◌, true}
use Rattle.turn_lock.specs.Numbers.{has}
use Rattle.turn_lock.proofs.numbers.has_all.Given as goal

abbrev pub invariant-loop-n : goal.invariant-loop-n
invariant-loop-n l = (k : ℕ) → 0 < k → k < l.n → has l.numbers k ≡ true
