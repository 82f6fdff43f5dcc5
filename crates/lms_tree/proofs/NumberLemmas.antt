-- Halving node numbers, and the numbers of siblings.
use Rattle.std.proofs.Common.{◌≡◌, ℕ, zero, suc, ◌+◌, ◌*◌, ◌/◌, ◌%◌, ◌^◌, ◌<◌, ◌≤◌, sym, ap, ◌∙◌, subst, inl, inr, arith, bit_xor, lit<}
use Rattle.std.specs.Int.Bits.{xor_zero_r}
use Rattle.std.proofs.lemmas.Nat.{xor_block}
use Rattle.std.proofs.lemmas.Bool.{cases_eq}
use Rattle.std.proofs.Math.Nat.{pow-suc, pow-succ', div-div-eq-div-mul, div-one}
use Rattle.lms_tree.specs.Tree.{sibling}

pub xor_even : (m : ℕ) → bit_xor (2 * m) 1 ≡ 2 * m + 1
xor_even m =
    let left : m * 2 ^ 1 + 0 ≡ 2 * m = omega arith in
    let right : m * 2 ^ 1 + 1 ≡ 2 * m + 1 = omega arith in
    ap (λ (n : ℕ). bit_xor n 1) (sym left) ∙ xor_block 1 m 0 0 1 (lit< tt) (lit< tt)
    ∙ ap (λ (n : ℕ). n * 2 ^ 1 + 1) (xor_zero_r m) ∙ right

pub xor_odd : (m : ℕ) → bit_xor (2 * m + 1) 1 ≡ 2 * m
xor_odd m =
    let left : m * 2 ^ 1 + 1 ≡ 2 * m + 1 = omega arith in
    let right : m * 2 ^ 1 + 0 ≡ 2 * m = omega arith in
    ap (λ (n : ℕ). bit_xor n 1) (sym left) ∙ xor_block 1 m 0 1 1 (lit< tt) (lit< tt)
    ∙ ap (λ (n : ℕ). n * 2 ^ 1 + 0) (xor_zero_r m) ∙ right

pub halved_none : (r : ℕ) → r / 2 ^ 0 ≡ r
halved_none r = div-one r

pub halved_more : (r n : ℕ) → r / 2 ^ suc n ≡ r / 2 ^ n / 2
halved_more r n = rw pow-suc (sym (div-div-eq-div-mul r (2 ^ n) 2))

-- i levels above the leaves, node numbers lie between two powers
pub halved_within : (h r i depth : ℕ) → i + depth ≡ h → 2 ^ h ≤ r → r < 2 * 2 ^ h
    → (2 ^ depth ≤ r / 2 ^ i) × (r / 2 ^ i < 2 * 2 ^ depth)
halved_within h r zero depth e low high =
    let same : depth ≡ h = omega arith in
    let P : ℕ → Type 0 = λ (d : ℕ). (2 ^ d ≤ r / 2 ^ 0) × (r / 2 ^ 0 < 2 * 2 ^ d) in
    let whole = halved_none r in
    subst P (sym same) (omega arith, omega arith)
halved_within h r (suc i) depth e low high =
    let below = halved_within h r i (suc depth) (omega arith) low high in
    let twice = pow-succ' 2 depth in
    let half = halved_more r i in
    (omega arith, omega arith)

-- the sibling of a node below the root lies between the same powers
pub sibling_within : (h r i depth : ℕ) → i + suc depth ≡ h → 2 ^ h ≤ r → r < 2 * 2 ^ h
    → (2 ^ suc depth ≤ sibling r i) × (sibling r i < 2 * 2 ^ suc depth)
sibling_within h r i depth e low high =
    let within = halved_within h r i (suc depth) e low high in
    let twice = pow-succ' 2 depth in
    elim (cases_eq (r / 2 ^ i % 2) 1) [
      | inl odd ↦
          let is : r / 2 ^ i ≡ 2 * (r / 2 ^ i / 2) + 1 = omega arith in
          let beside : sibling r i ≡ 2 * (r / 2 ^ i / 2) = ap (λ (n : ℕ). bit_xor n 1) is ∙ xor_odd (r / 2 ^ i / 2) in
          (omega arith, omega arith)
      | inr even ↦
          let is : r / 2 ^ i ≡ 2 * (r / 2 ^ i / 2) = omega arith in
          let beside : sibling r i ≡ 2 * (r / 2 ^ i / 2) + 1 = ap (λ (n : ℕ). bit_xor n 1) is ∙ xor_even (r / 2 ^ i / 2) in
          (omega arith, omega arith)
    ]
