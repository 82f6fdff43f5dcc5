use Rattle.std.proofs.Common.{◌≡◌, ℕ, ◌<◌, true, length}
use Rattle.turn_lock.specs.Numbers.{has}
use Rattle.turn_lock.proofs.numbers.first_numbers.Given as goal

abbrev pub invariant-loop-n : goal.invariant-loop-n
invariant-loop-n l = (length l.numbers ≡ 256) × ((k : ℕ) → 0 < k → k < l.n → has l.numbers k ≡ true) × ((k : ℕ) → has l.numbers k ≡ true → (0 < k) × (k < l.n))
