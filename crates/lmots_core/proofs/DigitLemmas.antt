-- How great a digit and the sums over digits can be.
use Rattle.std.proofs.Common.{◌≡◌, ℕ, zero, suc, ◌+◌, ◌-◌, ◌*◌, ◌/◌, ◌%◌, ◌^◌, ◌<◌, ◌≤◌, List, refl, arith, add-one, slice_index}
use Rattle.std.proofs.Math.Nat.{suc-mul}
use Rattle.std.proofs.lemmas.Nat.{and_le_l}
use Rattle.lmots_core.specs.declared.kind.OtsKind.{OtsKind}
use Rattle.lmots_core.specs.declared.kind.OtsKind.TheVariants.{W1, W2, W4, W8}
use Rattle.lmots_core.specs.Parameters.{width, checksum_shift, top_digit, digest_digits}
use Rattle.lmots_core.specs.Digits.{coef, lack_of, checksum_sum, checksum}

pub coef_le_top : (kind : OtsKind) (bytes : List ℕ) (i : ℕ) → coef bytes i (width kind) ≤ top_digit kind
unfolding coef
coef_le_top kind bytes i =
    let byte = slice_index bytes (i * width kind / 8) / 2 ^ (8 - (width kind * (i % (8 / width kind)) + width kind)) in
    and_le_l (top_digit kind) byte

pub lack_of_none : (kind : OtsKind) (digest : List ℕ) → lack_of kind digest 0 ≡ 0
unfolding lack_of
lack_of_none kind digest = refl

pub lack_of_more : (kind : OtsKind) (digest : List ℕ) (n : ℕ)
    → lack_of kind digest (n + 1) ≡ lack_of kind digest n + (top_digit kind - coef digest n (width kind))
unfolding lack_of
lack_of_more kind digest n = rw add-one refl

-- n digits lack at most n times the greatest digit
lack_of_le : (top : ℕ) (kind : OtsKind) (digest : List ℕ) (n : ℕ) → top_digit kind ≡ top → lack_of kind digest n ≤ n * top
unfolding lack_of
lack_of_le top kind digest zero e = omega arith
lack_of_le top kind digest (suc n) e =
    let h : lack_of kind digest n ≤ n * top = lack_of_le top kind digest n e in
    let wider : suc n * top ≡ n * top + top = suc-mul n top in
    omega arith

-- the digits of a digest never lack more than W8's may
pub lack_of_within : (kind : OtsKind) (digest : List ℕ) (n : ℕ) → n ≤ digest_digits kind → lack_of kind digest n ≤ 8160
lack_of_within W1 digest n h = omega (arith, lack_of_le 1 W1 digest n refl)
lack_of_within W2 digest n h = omega (arith, lack_of_le 3 W2 digest n refl)
lack_of_within W4 digest n h = omega (arith, lack_of_le 15 W4 digest n refl)
lack_of_within W8 digest n h = omega (arith, lack_of_le 255 W8 digest n refl)

pub checksum_shifted : (kind : OtsKind) (digest : List ℕ) → checksum_sum kind digest * 2 ^ checksum_shift kind < 2 ^ 16
checksum_shifted W1 digest = omega (arith, lack_of_le 1 W1 digest 256 refl)
checksum_shifted W2 digest = omega (arith, lack_of_le 3 W2 digest 128 refl)
checksum_shifted W4 digest = omega (arith, lack_of_le 15 W4 digest 64 refl)
checksum_shifted W8 digest = omega (arith, lack_of_le 255 W8 digest 32 refl)

pub checksum_within : (kind : OtsKind) (digest : List ℕ) → checksum kind digest < 2 ^ 16
unfolding checksum
checksum_within kind digest = checksum_shifted kind digest
