-- What stands in a list: after appending, mapping, joining and filtering.
use Rattle.std.proofs.Common.{◌≡◌, ℕ, zero, suc, ◌+◌, ◌<◌, ◌≤◌, Bool, true, false, cond, ◌||◌, eqb, List, [], ◌∷◌, ◌++◌, map, ◌⊎◌, inl, inr, refl, sym, ap, subst, ◌∙◌, arith, Some}
use Rattle.std.specs.List.{filter, flat_map, list_all, range_with_len, Contains}
use Rattle.std.proofs.Math.Nat.{eq-or-lt_of_le}
use Rattle.std.proofs.lemmas.List.{append-nil, append_assoc}
use Rattle.fab_base.specs.Quorums.{is_member}
use Rattle.fab_base.proofs.Tests.{and_left, and_right, and_both, same}
use Rattle.fab_rules.specs.Lists.{In, IsPrefixOf, first_of, greatest}

-- ---- membership

pub in_append_left : {X : Type 0} (x : X) (xs ys : List X) → In x xs → In x (xs ++ ys)
in_append_left x [] ys h = absurd h
in_append_left x (y ∷ xs) ys (inl e) = inl e
in_append_left x (y ∷ xs) ys (inr h) = inr (in_append_left x xs ys h)

pub in_append_right : {X : Type 0} (x : X) (xs ys : List X) → In x ys → In x (xs ++ ys)
in_append_right x [] ys h = h
in_append_right x (y ∷ xs) ys h = inr (in_append_right x xs ys h)

pub in_append_cases : {X : Type 0} (x : X) (xs ys : List X) → In x (xs ++ ys) → In x xs ⊎ In x ys
in_append_cases x [] ys h = inr h
in_append_cases x (y ∷ xs) ys (inl e) = inl (inl e)
in_append_cases x (y ∷ xs) ys (inr h) = elim (in_append_cases x xs ys h) [ inl k ↦ inl (inr k) | inr k ↦ inr k ]

pub in_map : {X Y : Type 0} (f : X → Y) (x : X) (xs : List X) → In x xs → In (f x) (map f xs)
in_map f x [] h = absurd h
in_map f x (y ∷ xs) (inl e) = inl (ap f e)
in_map f x (y ∷ xs) (inr h) = inr (in_map f x xs h)

-- an item that a mapped list has it from
pub record MappedFrom {X Y : Type 0} (f : X → Y) (xs : List X) (y : Y) : Type 0 where
  pub from : X
  pub is_in : In from xs
  pub same : f from ≡ y

pub of_map : {X Y : Type 0} (f : X → Y) (y : Y) (xs : List X) → In y (map f xs) → MappedFrom f xs y
of_map f y [] h = absurd h
of_map f y (x ∷ xs) (inl e) = record { from = x; is_in = inl refl; same = e }
of_map f y (x ∷ xs) (inr h) = let r = of_map f y xs h in record { from = r.from; is_in = inr r.is_in; same = r.same }

pub in_flat_map : {X Y : Type 0} (f : X → List Y) (x : X) (y : Y) (xs : List X) → In x xs → In y (f x) → In y (flat_map f xs)
in_flat_map f x y [] h k = absurd h
in_flat_map f x y (z ∷ xs) (inl e) k = in_append_left y (f z) (flat_map f xs) (subst (λ v. In y (f v)) (sym e) k)
in_flat_map f x y (z ∷ xs) (inr h) k = in_append_right y (f z) (flat_map f xs) (in_flat_map f x y xs h k)

-- an item whose list has it
pub record JoinedFrom {X Y : Type 0} (f : X → List Y) (xs : List X) (y : Y) : Type 0 where
  pub from : X
  pub is_in : In from xs
  pub inside : In y (f from)

joined_cases : {X Y : Type 0} (f : X → List Y) (y : Y) (z : X) (xs : List X) → In y (f z) ⊎ JoinedFrom f xs y → JoinedFrom f (z ∷ xs) y
joined_cases f y z xs (inl k) = record { from = z; is_in = inl refl; inside = k }
joined_cases f y z xs (inr r) = record { from = r.from; is_in = inr r.is_in; inside = r.inside }

pub of_flat_map : {X Y : Type 0} (f : X → List Y) (y : Y) (xs : List X) → In y (flat_map f xs) → JoinedFrom f xs y
of_flat_map f y [] h = absurd h
of_flat_map f y (z ∷ xs) h =
    joined_cases f y z xs (elim (in_append_cases y (f z) (flat_map f xs) h) [ inl k ↦ inl k | inr k ↦ inr (of_flat_map f y xs k) ])

pub in_filter : {X : Type 0} (p : X → Bool) (x : X) (xs : List X) → In x xs → p x ≡ true → In x (filter p xs)
in_filter p x [] h e = absurd h
in_filter p x (y ∷ xs) (inl s) e = subst (λ t. In x (cond t (y ∷ filter p xs) (filter p xs))) (sym (ap p s ∙ e)) (inl s)
in_filter p x (y ∷ xs) (inr h) e =
    let rest = in_filter p x xs h e in
    elim (p y) as (λ t. In x (cond t (y ∷ filter p xs) (filter p xs))) [ true ↦ inr rest | false ↦ rest ]

pub of_filter : {X : Type 0} (p : X → Bool) (x : X) (xs : List X) → In x (filter p xs) → In x xs × (p x ≡ true)
of_filter p x [] h = absurd h
of_filter p x (y ∷ xs) h = go (of_filter p x xs) (p y) refl h
  where
    go : (In x (filter p xs) → In x xs × (p x ≡ true)) → (t : Bool) → p y ≡ t → In x (cond t (y ∷ filter p xs) (filter p xs))
        → In x (y ∷ xs) × (p x ≡ true)
    go rest true e (inl s) = (inl s, ap p (sym s) ∙ e)
    go rest true e (inr k) = let r = rest k in (inr r.0, r.1)
    go rest false e k = let r = rest k in (inr r.0, r.1)

-- each item passes a test that all pass
pub each_passes : {X : Type 0} (p : X → Bool) (xs : List X) (x : X) → list_all p xs ≡ true → In x xs → p x ≡ true
each_passes p [] x e h = absurd h
each_passes p (y ∷ xs) x e (inl s) = ap p (sym s) ∙ and_left (p y) (list_all p xs) e
each_passes p (y ∷ xs) x e (inr h) = each_passes p xs x (and_right (p y) (list_all p xs) e) h

pub all_pass : {X : Type 0} (p : X → Bool) (xs : List X) → ((x : X) → In x xs → p x ≡ true) → list_all p xs ≡ true
all_pass p [] each = refl
all_pass p (y ∷ xs) each = and_both (p y) (list_all p xs) (each y (inl refl)) (all_pass p xs (λ x h. each x (inr h)))

pub in_range_with_len : (a n k : ℕ) → a ≤ k → k < a + n → In k (range_with_len a n)
in_range_with_len a zero k l h = absurd (omega arith)
in_range_with_len a (suc n) k l h =
    elim (eq-or-lt_of_le l) [ inl e ↦ inl e | inr above ↦ inr (in_range_with_len (a + 1) n k (omega arith) (omega arith)) ]

pub of_range_with_len : (a n k : ℕ) → In k (range_with_len a n) → (a ≤ k) × (k < a + n)
of_range_with_len a zero k h = absurd h
of_range_with_len a (suc n) k (inl e) = (omega arith, omega arith)
of_range_with_len a (suc n) k (inr h) = let r = of_range_with_len (a + 1) n k h in (omega (arith, r.0), omega (arith, r.1))

pub in_from_is_member : (xs : List ℕ) (k : ℕ) → is_member xs k ≡ true → In k xs
in_from_is_member [] k h = cc
in_from_is_member (x ∷ xs) k h = go (in_from_is_member xs k) (eqb x k) refl h
  where
    go : (is_member xs k ≡ true → In k xs) → (t : Bool) → eqb x k ≡ t → (t || is_member xs k) ≡ true → In k (x ∷ xs)
    go rest true e q = inl (same x k e)
    go rest false e q = inr (rest q)

-- std's word for membership speaks of the place
pub in_from_contains : {X : Type 0} (xs : List X) (x : X) → Contains xs x → In x xs
in_from_contains [] x (k, l, e) = absurd (omega arith)
in_from_contains (y ∷ xs) x (zero, l, e) = inl e
in_from_contains (y ∷ xs) x (suc k, l, e) = inr (in_from_contains xs x (k, omega arith, e))

pub contains_from_in : {X : Type 0} (xs : List X) (x : X) → In x xs → Contains xs x
contains_from_in [] x h = absurd h
contains_from_in (y ∷ xs) x (inl e) = (0, omega arith, e)
contains_from_in (y ∷ xs) x (inr h) = let c = contains_from_in xs x h in (suc c.0, omega (arith, c.1), c.2)

-- ---- beginnings

pub prefix_refl : {X : Type 0} (xs : List X) → IsPrefixOf xs xs
prefix_refl xs = ([], append-nil xs)

pub prefix_more : {X : Type 0} (x : X) (xs ys : List X) → IsPrefixOf xs ys → IsPrefixOf (x ∷ xs) (x ∷ ys)
prefix_more x xs ys p = (p.0, ap (λ l. x ∷ l) p.1)

pub prefix_trans : {X : Type 0} (xs ys zs : List X) → IsPrefixOf xs ys → IsPrefixOf ys zs → IsPrefixOf xs zs
prefix_trans xs ys zs p q = (p.0 ++ q.0, sym (append_assoc xs p.0 q.0) ∙ (ap (λ l. l ++ q.0) p.1 ∙ q.1))

-- ---- the first and the greatest

pub first_is_in : {X : Type 0} (xs : List X) (x : X) → first_of xs ≡ Some x → In x xs
first_is_in [] x e = cc
first_is_in (y ∷ xs) x e = let same : y ≡ x = cc in inl same

pub le_greatest : (x : ℕ) (xs : List ℕ) → In x xs → x ≤ greatest xs
le_greatest x [] h = absurd h
le_greatest x (y ∷ xs) (inl e) = omega arith
le_greatest x (y ∷ xs) (inr h) = omega (arith, le_greatest x xs h)
