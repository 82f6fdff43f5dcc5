use Rattle.std.proofs.Common.{arith, refl, sym, ◌∙◌, true≢false}
use Rattle.turn_lock.proofs.SeatRows.{has_none}
use Rattle.turn_lock.proofs.numbers.first_numbers.Goals as goal

pub loop-n-init : goal.loop-n-init
loop-n-init c = (refl, λ k a b. absurd (omega arith), λ k h. absurd (true≢false (sym h ∙ has_none 256 k)))
