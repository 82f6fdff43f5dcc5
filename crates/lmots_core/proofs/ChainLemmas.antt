-- Chains one step on, chains in two parts, and the lengths of values.
use Rattle.std.proofs.Common.{◌≡◌, ℕ, zero, suc, ◌+◌, ◌-◌, ◌*◌, ◌<◌, ◌≤◌, List, [], ◌++◌, length, take, drop, refl, sym, ap, ◌∙◌, arith, add-one, add-zero, add-suc, length-append, length-drop, append_assoc, subst, inl, inr}
use Rattle.std.proofs.lemmas.Bool.{cases_lt}
use Rattle.sha2.specs.declared.Sha256.{Sha256}
use Rattle.sha2.specs.Hashers.{Holds256}
use Rattle.std.proofs.lemmas.List.{drop_at, take_all, drop-append-le, take-append-le, append-nil}
use Rattle.sha2.proofs.Facts256.{length-sha256}
use Rattle.lmots_core.specs.Chains.{chain_step, chain, joined}

pub chain_none : (id : List ℕ) (q i from : ℕ) (value : List ℕ) → chain id q i from 0 value ≡ value
unfolding chain
chain_none id q i from value = refl

pub chain_more : (id : List ℕ) (q i from steps : ℕ) (value : List ℕ)
    → chain id q i from (steps + 1) value ≡ chain_step id q i (from + steps) (chain id q i from steps value)
unfolding chain
chain_more id q i from steps value = rw add-one refl

-- one step on, counted by the place that the chain has come to
pub chain_to_more : (id : List ℕ) (q i from j : ℕ) (value : List ℕ) → from ≤ j
    → chain id q i from (j + 1 - from) value ≡ chain_step id q i j (chain id q i from (j - from) value)
chain_to_more id q i from j value h =
    let further : j + 1 - from ≡ j - from + 1 = omega arith in
    let place : from + (j - from) ≡ j = omega arith in
    rw further (chain_more id q i from (j - from) value ∙ ap (λ (p : ℕ). chain_step id q i p (chain id q i from (j - from) value)) place)

pub chain_start_none : (id : List ℕ) (q i from : ℕ) (value : List ℕ) → chain id q i from (from - from) value ≡ value
chain_start_none id q i from value = let e : from - from ≡ 0 = omega arith in rw e (chain_none id q i from value)

-- a chain from its first place
pub chain_from_first : (id : List ℕ) (q i to : ℕ) (value : List ℕ) → chain id q i 0 (to - 0) value ≡ chain id q i 0 to value
chain_from_first id q i to value = let e : to - 0 ≡ to = omega arith in ap (λ (n : ℕ). chain id q i 0 n value) e

-- one step on in a chain from its first place
pub chain_next : (id : List ℕ) (q i j : ℕ) (value : List ℕ) → chain id q i 0 (j + 1) value ≡ chain_step id q i j (chain id q i 0 j value)
chain_next id q i j value =
    let place : 0 + j ≡ j = omega arith in
    chain_more id q i 0 j value ∙ ap (λ (p : ℕ). chain_step id q i p (chain id q i 0 j value)) place

-- a chain in two parts
pub chain_add : (id : List ℕ) (q i m n : ℕ) (value : List ℕ)
    → chain id q i m n (chain id q i 0 m value) ≡ chain id q i 0 (m + n) value
unfolding chain
chain_add id q i m zero value = rw add-zero refl
chain_add id q i m (suc n) value =
    let place : 0 + (m + n) ≡ m + n = omega arith in
    rw (add-suc, chain_add id q i m n value) (ap (λ (p : ℕ). chain_step id q i p (chain id q i 0 (m + n) value)) (sym place))

pub length-chain_step : (id : List ℕ) (q i j : ℕ) (value : List ℕ) → length (chain_step id q i j value) ≡ 32
unfolding chain_step
length-chain_step id q i j value = length-sha256 _

pub length-chain : (id : List ℕ) (q i from steps : ℕ) (value : List ℕ) → length value ≡ 32 → length (chain id q i from steps value) ≡ 32
unfolding chain
length-chain id q i from zero value h = h
length-chain id q i from (suc steps) value h = length-chain_step id q i (from + steps) _

pub joined_none : (y : ℕ → List ℕ) → joined y 0 ≡ []
unfolding joined
joined_none y = refl

pub joined_more : (y : ℕ → List ℕ) (n : ℕ) → joined y (n + 1) ≡ joined y n ++ y n
unfolding joined
joined_more y n = rw add-one refl

pub length-joined : (y : ℕ → List ℕ) (n : ℕ) → ((i : ℕ) → length (y i) ≡ 32) → length (joined y n) ≡ 32 * n
unfolding joined
length-joined y zero h = refl
length-joined y (suc n) h =
    let front = length-joined y n h in
    let last = h n in
    rw length-append (omega arith)

-- joined values are the same where each of them is
pub joined_same : (y z : ℕ → List ℕ) (n : ℕ) → ((i : ℕ) → i < n → y i ≡ z i) → joined y n ≡ joined z n
unfolding joined
joined_same y z zero h = refl
joined_same y z (suc n) h =
    rw (joined_same y z n (λ i lt. h i (omega arith)), h n (omega arith)) refl

-- value i is read back from the joined values
pub value_in_joined : (y : ℕ → List ℕ) (n i : ℕ) → ((i : ℕ) → length (y i) ≡ 32) → i < n → take 32 (drop (32 * i) (joined y n)) ≡ y i
unfolding joined
value_in_joined y zero i h lt = absurd (omega arith)
value_in_joined y (suc n) i h lt =
    let size = length-joined y n h in
    let last = h n in
    elim (cases_lt i n) [
      | inl below ↦
          let front : take 32 (drop (32 * i) (joined y n ++ y n)) ≡ take 32 (drop (32 * i) (joined y n)) =
          rw (drop-append-le (32 * i) (joined y n) (y n) (omega arith))
          (take-append-le 32 (drop (32 * i) (joined y n)) (y n) (omega (arith, length-drop (32 * i) (joined y n)))) in
          front ∙ value_in_joined y n i h below
      | inr above ↦
          let here : i ≡ n = omega arith in
          rw here (ap (take 32) (drop_at (joined y n) (y n) (32 * n) size) ∙ take_all 32 (y n) (omega arith))
    ]

-- a hasher takes one more of the joined values
pub held_more : (hasher : Sha256) (front : List ℕ) (y : ℕ → List ℕ) (n : ℕ) (value : List ℕ) → value ≡ y n
    → Holds256 hasher (front ++ joined y n ++ value) → Holds256 hasher (front ++ joined y (n + 1))
held_more hasher front y n value e held =
    let whole : front ++ joined y n ++ value ≡ front ++ joined y (n + 1) =
    append_assoc front (joined y n) value ∙ ap (λ v. front ++ (joined y n ++ v)) e ∙ ap (λ l. front ++ l) (sym (joined_more y n)) in
    subst (λ l. Holds256 hasher l) whole held

pub held_none : (hasher : Sha256) (front : List ℕ) (y : ℕ → List ℕ) → Holds256 hasher front → Holds256 hasher (front ++ joined y 0)
held_none hasher front y held = subst (λ l. Holds256 hasher l) (sym (ap (λ l. front ++ l) (joined_none y) ∙ append-nil front)) held
