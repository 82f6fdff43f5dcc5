-- Chains of one leaf on their way, one step on.
use Rattle.std.proofs.Common.{◌≡◌, ℕ, zero, suc, ◌+◌, ◌-◌, ◌<◌, ◌≤◌, List, [], length, slice_index, slice_set, refl, ap, sym, ◌∙◌, arith, inl, inr, add-zero, add-suc}
use Rattle.std.proofs.lemmas.List.{get_or-set_same, get_or-set_other}
use Rattle.std.proofs.lemmas.Bool.{cases_eq}
use Rattle.lmots_core.specs.Chains.{chain, chain_step}
use Rattle.lmots_core.proofs.ChainLemmas.{chain_to_more, chain_start_none}
use Rattle.sha_lanes.specs.Lanes.{vector}
use Rattle.sha2.specs.Sha256.{digest_bytes}
use Rattle.lmots_core.specs.Running.{value_in, IsOn, AreOn, IsThere, IsNext}

-- a chain in two parts
pub chain_on : (id : List ℕ) (q i from m n : ℕ) (value : List ℕ)
    → chain id q i (from + m) n (chain id q i from m value) ≡ chain id q i from (m + n) value
unfolding chain
chain_on id q i from m zero value = rw add-zero refl
chain_on id q i from m (suc n) value =
    let place : from + m + n ≡ from + (m + n) = omega arith in
    rw (add-suc, chain_on id q i from m n value) (ap (λ (p : ℕ). chain_step id q i p (chain id q i from (m + n) value)) place)

pub chain_there : (id : List ℕ) (q i from p to : ℕ) (value : List ℕ) → from ≤ p → p ≤ to
    → chain id q i p (to - p) (chain id q i from (p - from) value) ≡ chain id q i from (to - from) value
chain_there id q i from p to value a b =
    let place : p ≡ from + (p - from) = omega arith in
    let whole : p - from + (to - p) ≡ to - from = omega arith in
    ap (λ (x : ℕ). chain id q i x (to - p) (chain id q i from (p - from) value)) place
    ∙ chain_on id q i from (p - from) (to - p) value ∙ ap (λ (n : ℕ). chain id q i from n value) whole

-- what a step gives a chain that is on its way
pub stepped : (id : List ℕ) (q : ℕ) (from : List ℕ) (start : List (List ℕ)) (goals places : List ℕ) (values : List (List ℕ)) (i : ℕ) (value : List ℕ)
    → IsOn id q from start goals places values i
    → digest_bytes value 8 ≡ chain_step id q i (slice_index places i) (value_in values i)
    → IsNext id q from start i (slice_index places i) value
stepped id q from start goals places values i value on e = (
  on.0,
  e ∙ ap (chain_step id q i (slice_index places i)) on.2 ∙ sym (chain_to_more id q i (slice_index from i) (slice_index places i) (value_in start i) on.0),
)

pub committed : (id : List ℕ) (q : ℕ) (from : List ℕ) (start : List (List ℕ)) (goals places : List ℕ) (values : List (List ℕ)) (n at j : ℕ) (value : List ℕ)
    → at < n → length values ≡ n → length places ≡ n → j < slice_index goals at
    → IsNext id q from start at j value
    → AreOn id q from start goals places values n
    → AreOn id q from start goals (slice_set places at (j + 1)) (slice_set values at value) n
committed id q from start goals places values n at j value lt lv lp below next on = λ i low. elim (cases_eq i at) [
  | inl same ↦
      let p : slice_index (slice_set places at (j + 1)) at ≡ j + 1 = get_or-set_same places at (j + 1) 0 (omega arith) in
      let v : vector (slice_set values at value) at ≡ value = get_or-set_same values at value [] (omega arith) in
      let from_le : slice_index from at ≤ j + 1 = omega (arith, next.0) in
      rw (same, p, v) (from_le, omega arith, next.1)
  | inr other ↦
      let p : slice_index (slice_set places at (j + 1)) i ≡ slice_index places i = get_or-set_other places at i (j + 1) 0 other in
      let v : vector (slice_set values at value) i ≡ vector values i = get_or-set_other values at i value [] other in
      rw (p, v) (on i low)
]

pub AreOn_long : (id : List ℕ) (q : ℕ) (from : List ℕ) (start : List (List ℕ)) (goals places : List ℕ) (values : List (List ℕ)) (m n : ℕ) → m ≡ n
    → AreOn id q from start goals places values m → AreOn id q from start goals places values n
AreOn_long id q from start goals places values m n e on = λ i lt. on i (omega arith)

-- the rest of a chain that is on its way
pub arrived : (id : List ℕ) (q : ℕ) (from : List ℕ) (start : List (List ℕ)) (goals places : List ℕ) (values : List (List ℕ)) (i : ℕ) (value : List ℕ)
    → IsOn id q from start goals places values i
    → digest_bytes value 8 ≡ chain id q i (slice_index places i) (slice_index goals i - slice_index places i) (value_in values i)
    → digest_bytes value 8 ≡ chain id q i (slice_index from i) (slice_index goals i - slice_index from i) (value_in start i)
arrived id q from start goals places values i value on e =
    e ∙ ap (chain id q i (slice_index places i) (slice_index goals i - slice_index places i)) on.2
    ∙ chain_there id q i (slice_index from i) (slice_index places i) (slice_index goals i) (value_in start i) on.0 on.1

pub set_there : (id : List ℕ) (q : ℕ) (from : List ℕ) (start : List (List ℕ)) (goals places : List ℕ) (values : List (List ℕ)) (n i : ℕ) (value : List ℕ)
    → length values ≡ n → i < n
    → ((k : ℕ) → k < i → IsThere id q from start goals values k)
    → IsOn id q from start goals places values i
    → digest_bytes value 8 ≡ chain id q i (slice_index places i) (slice_index goals i - slice_index places i) (value_in values i)
    → (k : ℕ) → k < i + 1 → IsThere id q from start goals (slice_set values i value) k
set_there id q from start goals places values n i value lv lt before on e k low = elim (cases_eq k i) [
  | inl same ↦
      let v : vector (slice_set values i value) i ≡ value = get_or-set_same values i value [] (omega arith) in
      rw (same, v) (arrived id q from start goals places values i value on e)
  | inr other ↦
      let below : k < i = omega arith in
      let v : vector (slice_set values i value) k ≡ vector values k = get_or-set_other values i k value [] other in
      rw v (before k below)
]

pub set_on : (id : List ℕ) (q : ℕ) (from : List ℕ) (start : List (List ℕ)) (goals places : List ℕ) (values : List (List ℕ)) (n i : ℕ) (value : List ℕ)
    → ((k : ℕ) → i ≤ k → k < n → IsOn id q from start goals places values k)
    → (k : ℕ) → i + 1 ≤ k → k < n → IsOn id q from start goals places (slice_set values i value) k
set_on id q from start goals places values n i value on k le lt =
    let v : vector (slice_set values i value) k ≡ vector values k = get_or-set_other values i k value [] (omega arith) in
    rw v (on k (omega arith) lt)

pub begun : (id : List ℕ) (q : ℕ) (goals places : List ℕ) (values : List (List ℕ)) (n : ℕ) → ((i : ℕ) → i < n → slice_index places i ≤ slice_index goals i)
    → AreOn id q places values goals places values n
begun id q goals places values n before = λ i lt. (omega arith, before i lt, sym (chain_start_none id q i (slice_index places i) (value_in values i)))
