use Rattle.std.proofs.Common.{◌≡◌, ◌<◌, drop}
use Rattle.turn_lock.specs.Numbers.{last_from, greatest}
use Rattle.turn_lock.proofs.numbers.greatest_of.Given as goal

abbrev pub invariant-loop-at : goal.invariant-loop-at
invariant-loop-at l = (last_from l.top l.at (drop l.at l.numbers) ≡ greatest l.numbers) × (l.top < 256)
