-- How many items, from the first on, pass a test.
use Rattle.std.proofs.Common.{◌≡◌, ℕ, suc, ◌+◌, ◌<◌, Bool, true, false, cond, not, ◌&&◌, List, [], ◌∷◌, length, take, drop, get_or, drop-cons, add-one, Some, inl, inr, refl, sym, ap, ◌∙◌, arith}
use Rattle.std.specs.List.{prefix_len, find, slice_get}
use Rattle.fab_rules.specs.Lists.{In}

-- the items that pass two tests are among those that pass the first
pub both_pass : {X : Type 0} (p q : X → Bool) (xs : List X)
    → prefix_len q (take (prefix_len p xs) xs) ≡ prefix_len (λ x. p x && q x) xs
both_pass p q [] = refl
both_pass p q (x ∷ xs) = go (p x) (q x) (both_pass p q xs)
  where
    go : (a b : Bool) → prefix_len q (take (prefix_len p xs) xs) ≡ prefix_len (λ y. p y && q y) xs
        → prefix_len q (take (cond a (1 + prefix_len p xs) 0) (x ∷ xs)) ≡ cond (a && q x) (1 + prefix_len (λ y. p y && q y) xs) 0
    go true b h =
        let on : 1 + prefix_len p xs ≡ suc (prefix_len p xs) = omega arith in
        ap (λ n. prefix_len q (take n (x ∷ xs))) on ∙ ap (λ n. cond (q x) (1 + n) 0) h
    go false b h = refl

-- tests that agree on each item
pub same_pass : {X : Type 0} (p q : X → Bool) (xs : List X) → ((x : X) → In x xs → p x ≡ q x) → prefix_len p xs ≡ prefix_len q xs
same_pass p q [] h = refl
same_pass p q (x ∷ xs) h =
    ap (λ b. cond b (1 + prefix_len p xs) 0) (h x (inl refl)) ∙ ap (λ n. cond (q x) (1 + n) 0) (same_pass p q xs (λ y i. h y (inr i)))

-- a test that everything passes
pub all_pass : {X : Type 0} (xs : List X) → length xs ≡ prefix_len (λ x. true) xs
all_pass [] = refl
all_pass (x ∷ xs) = let rest = all_pass xs in omega arith

-- the item behind those that pass is the first that doesn't
pub first_not : {X : Type 0} (p : X → Bool) (xs : List X) → slice_get xs (prefix_len p xs) ≡ find (λ x. not (p x)) xs
first_not p [] = refl
first_not p (x ∷ xs) = go (p x) (first_not p xs)
  where
    go : (a : Bool) → slice_get xs (prefix_len p xs) ≡ find (λ y. not (p y)) xs
        → slice_get (x ∷ xs) (cond a (1 + prefix_len p xs) 0) ≡ cond (not a) (Some x) (find (λ y. not (p y)) xs)
    go true h =
        let on : 1 + prefix_len p xs ≡ suc (prefix_len p xs) = omega arith in
        ap (slice_get (x ∷ xs)) on ∙ h
    go false h = refl

-- the next item passes too
pub one_more_passes : {X : Type 0} (p : X → Bool) (xs : List X) (i : ℕ) (x : X) (n : ℕ) → i < length xs → x ≡ get_or xs i x
    → i + prefix_len p (drop i xs) ≡ n → p x ≡ true → (i + 1) + prefix_len p (drop (i + 1) xs) ≡ n
one_more_passes p xs i x n within is before passes =
    let next : drop i xs ≡ x ∷ drop (i + 1) xs = drop-cons xs i x within ∙ (ap (λ y. y ∷ drop (suc i) xs) (sym is) ∙ rw add-one) in
    let counted : prefix_len p (drop i xs) ≡ 1 + prefix_len p (drop (i + 1) xs) =
    ap (prefix_len p) next ∙ ap (λ b. cond b (1 + prefix_len p (drop (i + 1) xs)) 0) passes in
    omega arith
