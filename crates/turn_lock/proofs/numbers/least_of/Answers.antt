use Rattle.std.proofs.Common.{rules, arith, ◌≡◌, sym, true, false}
use Rattle.std.proofs.lemmas.List.Sums.{position_or_len_is}
use Rattle.turn_lock.specs.Numbers.{has}
use Rattle.turn_lock.proofs.SeatRows.{has_within}
use Rattle.turn_lock.proofs.numbers.least_of.Goals as goal

pub returns-then-numbers-at : goal.returns-then-numbers-at
returns-then-numbers-at c =
    let here : has c.args.numbers.now c.loop-at.at ≡ true = search rules in
    let within = has_within c.args.numbers.now c.loop-at.at here in
    sym (position_or_len_is (λ b. b) c.args.numbers.now c.loop-at.at false (omega (arith, within)) c.loop-at.invariant (λ _. here))
