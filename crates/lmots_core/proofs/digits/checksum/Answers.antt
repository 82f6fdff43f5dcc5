use Rattle.std.proofs.Common.{rules, arith, ◌≡◌, ◌≤◌, ℕ, ap, sym, ◌∙◌}
use Rattle.std.proofs.Math.Nat.{mod-eq_of_lt}
use Rattle.lmots_core.specs.Parameters.{digest_digits}
use Rattle.lmots_core.specs.Digits.{lack_of, checksum, checksum_sum}
use Rattle.lmots_core.proofs.DigitLemmas.{coef_le_top, lack_of_none, lack_of_more, lack_of_within, checksum_shifted}
use Rattle.lmots_core.proofs.digits.checksum.Goals as goal

pub loop-i-init : goal.loop-i-init
loop-i-init c = search (rules, lack_of_none)

pub overflow_sub-top_digit : goal.overflow_sub-top_digit
overflow_sub-top_digit c = rw (c.coef.ensures, c.top_digit.ensures) (coef_le_top c.args.kind c.args.digest.now c.loop-i.i)

pub overflow_add-sum : goal.overflow_add-sum
overflow_add-sum c =
    let within : lack_of c.args.kind c.args.digest.now c.loop-i.i ≤ 8160 =
    lack_of_within c.args.kind c.args.digest.now c.loop-i.i (omega arith) in
    search rules

pub loop-i-preserved : goal.loop-i-preserved
loop-i-preserved c =
    let grown = lack_of_more c.args.kind c.args.digest.now c.loop-i.i in
    let sum : c.loop-i.sum ≡ lack_of c.args.kind c.args.digest.now c.loop-i.i = c.loop-i.invariant in
    rw (sum, c.from-sum.ensures, c.top_digit.ensures, c.coef.ensures) (sym grown)

pub returns : goal.returns
unfolding checksum
returns c =
    let whole = checksum_shifted c.args.kind c.args.digest.now in
    let end : c.loop-i.i ≡ digest_digits c.args.kind = omega arith in
    let sum : c.loop-i.sum ≡ checksum_sum c.args.kind c.args.digest.now =
    c.loop-i.invariant ∙ ap (λ (n : ℕ). lack_of c.args.kind c.args.digest.now n) end in
    rw (sum, c.checksum_shift.ensures) (mod-eq_of_lt whole)
