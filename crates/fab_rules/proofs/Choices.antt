-- The choice of a new view: its maxima are such, and one pass over the certificates finds them.
use Rattle.std.proofs.Common.{◌≡◌, ℕ, ◌<◌, ◌≤◌, Bool, true, false, ◌&&◌, cond, nat_eq, nat_lt, List, [], ◌∷◌, map, max, ◌⊎◌, inl, inr, Option, Some, None, refl, sym, ap, subst, ◌∙◌, arith}
use Rattle.std.specs.Prelude.{fold}
use Rattle.std.specs.List.{filter}
use Rattle.std.proofs.lemmas.Bool.{cases_lt}
use Rattle.std.proofs.lemmas.Bool.Decides.{nat_tests}
use Rattle.fab_base.specs.declared.messages.PreparedCert.{PreparedCert}
use Rattle.fab_base.specs.declared.messages.ViewChange.{ViewChange}
use Rattle.fab_base.specs.declared.messages.NewView.{NewView}
use Rattle.fab_base.proofs.Tests.{same, are_same, below}
use Rattle.fab_rules.specs.Lists.{In, first_of, greatest}
use Rattle.fab_rules.specs.Choice.{certificates_of, base, top, certificates_for, of_greatest_view, deciding, IsDecided, better}
use Rattle.fab_rules.proofs.Lists.{in_map, of_map, in_filter, of_filter, first_is_in, le_greatest}

eq_false : (a b : ℕ) → a < b → nat_eq a b ≡ false
eq_false a b h = grind (arith, nat_tests)

le_from_false : (a b : ℕ) → nat_lt a b ≡ false → b ≤ a
le_from_false a b h = grind (arith, nat_tests)

-- ---- the maxima

max_cases : (a b : ℕ) → (max a b ≡ a) ⊎ (max a b ≡ b)
max_cases a b = elim (cases_lt a b) [ inl l ↦ inr (omega arith) | inr l ↦ inl (omega arith) ]

-- the greatest number is one of the list, or 0
greatest_cases : (xs : List ℕ) → (greatest xs ≡ 0) ⊎ In (greatest xs) xs
greatest_cases [] = inl refl
greatest_cases (x ∷ xs) =
    elim (max_cases x (greatest xs)) [
      | inl e ↦ inr (inl (sym e))
      | inr e ↦ elim (greatest_cases xs) [ inl zero ↦ inl (e ∙ zero) | inr h ↦ inr (inr (subst (λ g. In g xs) (sym e) h)) ]
    ]

abbrev views : List PreparedCert → List ℕ
views ks = map (λ k. k.view) ks

-- where there is a certificate, one is of the greatest view
record OfGreatestView (ks : List PreparedCert) : Type 0 where
  certificate : PreparedCert
  is_in : In certificate ks
  view_is : certificate.view ≡ greatest (views ks)

of_greatest : (k : PreparedCert) (ks : List PreparedCert) → In k ks → OfGreatestView ks
of_greatest k ks h =
    elim (greatest_cases (views ks)) [
      | inl zero ↦
          (let most = le_greatest k.view (views ks) (in_map (λ c. c.view) k ks h) in
          record { certificate = k; is_in = h; view_is = omega arith })
      | inr g ↦ (let from = of_map (λ c. c.view) (greatest (views ks)) ks g in record { certificate = from.from; is_in = from.is_in; view_is = from.same })
    ]

first_some : {X : Type 0} (x : X) (xs : List X) → In x xs → (y : X) × (first_of xs ≡ Some y)
first_some x [] h = absurd h
first_some x (y ∷ xs) h = (y, refl)

-- a certificate of the slot is of no later view than the deciding one
pub is_decided : (x : NewView) (slot : ℕ) (k : PreparedCert) → In k (certificates_of x) → k.slot ≡ slot → IsDecided x slot k
is_decided x slot k h e =
    let ks : List PreparedCert = certificates_for x slot in
    let of_slot = in_filter (λ c. nat_eq c.slot slot) k (certificates_of x) h (are_same k.slot slot e) in
    let best = of_greatest k ks of_slot in
    let view : ℕ = greatest (views ks) in
    let is_best = in_filter (λ c. nat_eq c.view view) best.certificate ks best.is_in (are_same best.certificate.view view best.view_is) in
    let first = first_some best.certificate (filter (λ c. nat_eq c.view view) ks) is_best in
    let at = of_filter (λ c. nat_eq c.view view) first.0 ks (first_is_in (filter (λ c. nat_eq c.view view) ks) first.0 first.1) in
    let from = of_filter (λ c. nat_eq c.slot slot) first.0 (certificates_of x) at.0 in
    let most = le_greatest k.view (views ks) (in_map (λ c. c.view) k ks of_slot) in
    record {
      certificate = first.0;
      deciding_is = first.1;
      inside = from.0;
      slot_is = same first.0.slot slot from.1;
      no_older = omega (arith, most, same first.0.view view at.1);
    }

pub le_base : (x : NewView) (c : ViewChange) → In c x.changes → c.low ≤ base x
le_base x c h = le_greatest c.low (map (λ y. y.low) x.changes) (in_map (λ y. y.low) c x.changes h)

pub le_top : (x : NewView) (k : PreparedCert) → In k (certificates_of x) → k.slot ≤ top x
le_top x k h = omega (arith, le_greatest k.slot (map (λ y. y.slot) (certificates_of x)) (in_map (λ y. y.slot) k (certificates_of x) h))

-- ---- one pass

fold_max : {X : Type 0} (f : X → ℕ) (sofar : ℕ) (xs : List X) → fold (λ n x. max n (f x)) sofar xs ≡ max sofar (greatest (map f xs))
fold_max f sofar [] = omega arith
fold_max f sofar (x ∷ xs) = fold_max f (max sofar (f x)) xs ∙ omega arith

pub base_by_pass : (x : NewView) → fold (λ low c. max low c.low) 0 x.changes ≡ base x
base_by_pass x = fold_max (λ c. c.low) 0 x.changes ∙ omega arith

pub top_by_pass : (x : NewView) → fold (λ slot k. max slot k.slot) (base x) (certificates_of x) ≡ top x
top_by_pass x = fold_max (λ k. k.slot) (base x) (certificates_of x)

-- the first of some certificates that is of this view
abbrev first_at : ℕ → List PreparedCert → Option PreparedCert
first_at view ks = first_of (filter (λ k. nat_eq k.view view) ks)

first_at_cons : (view : ℕ) (k : PreparedCert) (ks : List PreparedCert)
    → first_at view (k ∷ ks) ≡ cond (nat_eq k.view view) (Some k) (first_at view ks)
first_at_cons view k ks = go (nat_eq k.view view)
  where
    go : (t : Bool)
        → first_of (cond t (k ∷ filter (λ c. nat_eq c.view view) ks) (filter (λ c. nat_eq c.view view) ks)) ≡ cond t (Some k) (first_at view ks)
    go true = refl
    go false = refl

skipped : (view : ℕ) (k : PreparedCert) (ks : List PreparedCert) → k.view < view → first_at view (k ∷ ks) ≡ first_at view ks
skipped view k ks l = first_at_cons view k ks ∙ ap (λ t. cond t (Some k) (first_at view ks)) (eq_false k.view view l)

taken : (view : ℕ) (k : PreparedCert) (ks : List PreparedCert) → k.view ≡ view → first_at view (k ∷ ks) ≡ Some k
taken view k ks e = first_at_cons view k ks ∙ ap (λ t. cond t (Some k) (first_at view ks)) (are_same k.view view e)

-- a certificate in front of one of a later view decides nothing
replaced : (b k : PreparedCert) (ks : List PreparedCert) → b.view < k.view → of_greatest_view (k ∷ ks) ≡ of_greatest_view (b ∷ k ∷ ks)
replaced b k ks l =
    let g : ℕ = greatest (views (k ∷ ks)) in
    let same : g ≡ greatest (views (b ∷ k ∷ ks)) = omega arith in
    sym (skipped g b (k ∷ ks) (omega arith)) ∙ ap (λ view. first_at view (b ∷ k ∷ ks)) same

-- nor does one behind another that is no older
kept : (b k : PreparedCert) (ks : List PreparedCert) → k.view ≤ b.view → of_greatest_view (b ∷ ks) ≡ of_greatest_view (b ∷ k ∷ ks)
kept b k ks l =
    let g : ℕ = greatest (views (b ∷ ks)) in
    let same : g ≡ greatest (views (b ∷ k ∷ ks)) = omega arith in
    elim (cases_lt b.view g) [
      | inl older ↦
          skipped g b ks older ∙ (sym (skipped g k ks (omega arith)) ∙ (sym (skipped g b (k ∷ ks) older) ∙ ap (λ view. first_at view (b ∷ k ∷ ks)) same))
      | inr no_older ↦
          (let e : b.view ≡ g = omega arith in
          taken g b ks e ∙ (sym (taken g b (k ∷ ks) e) ∙ ap (λ view. first_at view (b ∷ k ∷ ks)) same))
    ]

of_one : (k : PreparedCert) → Some k ≡ of_greatest_view (k ∷ [])
of_one k = sym (taken (max k.view 0) k [] (omega arith))

abbrev of_slot : ℕ → List PreparedCert → List PreparedCert
of_slot slot ks = filter (λ k. nat_eq k.slot slot) ks

pass_from : (slot : ℕ) (b : PreparedCert) (ks : List PreparedCert) → fold (better slot) (Some b) ks ≡ of_greatest_view (b ∷ of_slot slot ks)
pass_from slot b [] = of_one b
pass_from slot b (k ∷ ks) = go (pass_from slot b ks) (pass_from slot k ks) (nat_eq k.slot slot) (nat_lt b.view k.view) refl
  where
    go : fold (better slot) (Some b) ks ≡ of_greatest_view (b ∷ of_slot slot ks)
        → fold (better slot) (Some k) ks ≡ of_greatest_view (k ∷ of_slot slot ks) → (t later : Bool) → nat_lt b.view k.view ≡ later
        → fold (better slot) (cond (t && later) (Some k) (Some b)) ks ≡ of_greatest_view (b ∷ cond t (k ∷ of_slot slot ks) (of_slot slot ks))
    go same new true true e = new ∙ replaced b k (of_slot slot ks) (below b.view k.view e)
    go same new true false e = same ∙ kept b k (of_slot slot ks) (le_from_false b.view k.view e)
    go same new false later e = same

pass : (slot : ℕ) (ks : List PreparedCert) → fold (better slot) None ks ≡ of_greatest_view (of_slot slot ks)
pass slot [] = refl
pass slot (k ∷ ks) =
    let none = pass slot ks in
    let some = pass_from slot k ks in
    elim (nat_eq k.slot slot) as (λ t. fold (better slot) (cond t (Some k) None) ks ≡ of_greatest_view (cond t (k ∷ of_slot slot ks) (of_slot slot ks))) [
      | true ↦ some
      | false ↦ none
    ]

pub deciding_by_pass : (x : NewView) (slot : ℕ) → fold (better slot) None (certificates_of x) ≡ deciding x slot
deciding_by_pass x slot = pass slot (certificates_of x)
