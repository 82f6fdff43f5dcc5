-- What the list of the senders of a value means: it rises, and has just those whose counted value it is.
use Rattle.std.proofs.Common.{◌≡◌, ℕ, zero, suc, ◌+◌, ◌<◌, ◌↔◌, Bool, true, false, cond, List, [], ◌∷◌, ◌++◌, length, Option, Some, None, inl, inr, subst, sym, ap, ◌∙◌, refl, arith}
use Rattle.std.specs.List.{filter, range_with_len, Contains}
use Rattle.std.specs.List.Sorted.{IsStrictlyIncreasing}
use Rattle.std.proofs.lemmas.List.{append-nil, get_or_past}
use Rattle.std.proofs.lemmas.Bool.{cases_lt}
use Rattle.std.proofs.lemmas.List.Elements.{Contains-push, Contains-push_cases, Contains-append_left}
use Rattle.std.proofs.lemmas.List.Kept.{IsStrictlyIncreasing-filter}
use Rattle.std.proofs.lemmas.List.FromFn.{get_or-range_with_len, length-range_with_len}
use Rattle.vote_certs.specs.Counting.{value_of, is_this, senders_below, senders_of}
use Rattle.vote_certs.proofs.Lists.{filter_more}

range_rises : (n : ℕ) → IsStrictlyIncreasing (range_with_len 0 n)
range_rises n = λ k h.
    let within : k + 1 < n = omega (arith, length-range_with_len 0 n) in
    omega (arith, get_or-range_with_len 0 n k 0 (omega arith), get_or-range_with_len 0 n (k + 1) 0 within)

pub senders_rise : {V : Type 0} (eq : V → V → Bool) (votes : List (Option V)) (value : V) → IsStrictlyIncreasing (senders_of eq votes value)
unfolding senders_below
senders_rise eq votes value = IsStrictlyIncreasing-filter _ (range_with_len 0 (length votes)) (range_rises (length votes))

in_none : (s : ℕ) → Contains [] s → ⊥
in_none s h = omega (arith, h.1)

-- what a filter of the numbers below n keeps
pub in_filter : (p : ℕ → Bool) (n s : ℕ) → Contains (filter p (range_with_len 0 n)) s → (s < n) × (p s ≡ true)
in_filter p zero s h = absurd (in_none s h)
in_filter p (suc n) s h =
    let e : suc n ≡ n + 1 = omega arith in
    let one_more = subst (λ l. Contains l s) (ap (λ m. filter p (range_with_len 0 m)) e ∙ filter_more p n) h in
    go (in_filter p n s) (p n) refl one_more
  where
    go : (Contains (filter p (range_with_len 0 n)) s → (s < n) × (p s ≡ true)) → (b : Bool) → p n ≡ b → Contains (filter p (range_with_len 0 n) ++ cond b (n ∷ []) []) s → (s < suc n) × (p s ≡ true)
    go before true is one_more = elim (Contains-push_cases (filter p (range_with_len 0 n)) n s one_more) [
      | inl among ↦ (let rest = before among in (omega (arith, rest.0), rest.1))
      | inr last ↦ (omega (arith, last), ap p (sym last) ∙ is)
    ]
    go before false is one_more = let rest = before (subst (λ l. Contains l s) (append-nil (filter p (range_with_len 0 n))) one_more) in (omega (arith, rest.0), rest.1)

filter_in : (p : ℕ → Bool) (n s : ℕ) → s < n → p s ≡ true → Contains (filter p (range_with_len 0 n)) s
filter_in p zero s below holds = absurd (omega (arith, below))
filter_in p (suc n) s below holds =
    let e : n + 1 ≡ suc n = omega arith in
    let more : Contains (filter p (range_with_len 0 n) ++ cond (p n) (n ∷ []) []) s = elim (cases_lt s n) [
      | inl before ↦ Contains-append_left (filter p (range_with_len 0 n)) (cond (p n) (n ∷ []) []) s (filter_in p n s before holds)
      | inr past ↦ (let same : n ≡ s = omega arith in
          let is : cond (p n) (n ∷ []) [] ≡ n ∷ [] = ap (λ b. cond b (n ∷ []) []) (ap p same ∙ holds) in
          subst (λ l. Contains (filter p (range_with_len 0 n) ++ l) s) (sym is) (subst (λ x. Contains (filter p (range_with_len 0 n) ++ n ∷ []) x) same (Contains-push (filter p (range_with_len 0 n)) n)))
    ] in
    subst (λ l. Contains l s) (sym (filter_more p n) ∙ ap (λ m. filter p (range_with_len 0 m)) e) more

pub sender_holds : {V : Type 0} (eq : V → V → Bool) (votes : List (Option V)) (value : V) (sender : ℕ) → Contains (senders_of eq votes value) sender → is_this eq value (value_of votes sender) ≡ true
unfolding senders_below
sender_holds eq votes value sender h = (in_filter _ (length votes) sender h).1

pub holder_sends : {V : Type 0} (eq : V → V → Bool) (votes : List (Option V)) (value : V) (sender : ℕ) → sender < length votes → is_this eq value (value_of votes sender) ≡ true → Contains (senders_of eq votes value) sender
unfolding senders_below
holder_sends eq votes value sender below holds = filter_in _ (length votes) sender below holds

-- at an equality that is true of equal values alone, and of each value and itself
is_some : {V : Type 0} (eq : V → V → Bool) → ((x y : V) → eq x y ≡ true → x ≡ y) → (value : V) (counted : Option V) → is_this eq value counted ≡ true → counted ≡ Some value
is_some eq exact value None h = cc
is_some eq exact value (Some x) h = ap Some (exact x value h)

within : {V : Type 0} (votes : List (Option V)) (value : V) (sender : ℕ) → value_of votes sender ≡ Some value → sender < length votes
within votes value sender h = elim (cases_lt sender (length votes)) [
  | inl below ↦ below
  | inr past ↦ (let none = get_or_past votes sender None past in cc)
]

pub senders_are : {V : Type 0} (eq : V → V → Bool) → ((x y : V) → eq x y ≡ true → x ≡ y) → ((x : V) → eq x x ≡ true) → (votes : List (Option V)) (value : V) (sender : ℕ) → Contains (senders_of eq votes value) sender ↔ (value_of votes sender ≡ Some value)
senders_are eq exact same votes value sender = (
  λ h. is_some eq exact value (value_of votes sender) (sender_holds eq votes value sender h),
  λ h. holder_sends eq votes value sender (within votes value sender h) (ap (is_this eq value) h ∙ same value),
)
