use Rattle.std.proofs.Common.{◌≡◌, ℕ, ◌<◌, true}
use Rattle.turn_lock.specs.Numbers.{has, united}
use Rattle.turn_lock.proofs.numbers.unite.Given as goal

abbrev pub invariant-loop-at : goal.invariant-loop-at
invariant-loop-at l = (united l.numbers l.others ≡ united l.fn.numbers l.others) × ((k : ℕ) → k < l.at → has l.others k ≡ true → has l.numbers k ≡ true)
