-- Sums over lists.
use Rattle.std.proofs.Common.{◌≡◌, ℕ, ◌+◌, ◌<◌, List, [], ◌∷◌, map, take, length, get_or, sum_by, inl, inr, refl, sym, ap, ◌∙◌, arith}
use Rattle.std.proofs.lemmas.List.Sums.{sum_by-cons, sum_by_more}
use Rattle.fab_rules.specs.Lists.{In}

pub sum_same : {X : Type 0} (f g : X → ℕ) (xs : List X) → ((x : X) → In x xs → f x ≡ g x) → sum_by f xs ≡ sum_by g xs
sum_same f g [] h = refl
sum_same f g (x ∷ xs) h =
    let here = h x (inl refl) in
    let rest = sum_same f g xs (λ y i. h y (inr i)) in
    let a = sum_by-cons f x xs in
    let b = sum_by-cons g x xs in
    omega arith

pub sum_both : {X : Type 0} (f g : X → ℕ) (xs : List X) → sum_by (λ x. f x + g x) xs ≡ sum_by f xs + sum_by g xs
sum_both f g [] = omega arith
sum_both f g (x ∷ xs) =
    let rest = sum_both f g xs in
    let a = sum_by-cons f x xs in
    let b = sum_by-cons g x xs in
    let c = sum_by-cons (λ y. f y + g y) x xs in
    omega arith

pub sum_none : {X : Type 0} (xs : List X) → sum_by (λ x. 0) xs ≡ 0
sum_none [] = refl
sum_none (x ∷ xs) = let rest = sum_none xs in let a = sum_by-cons (λ y. 0) x xs in omega arith

pub sum_ones : {X : Type 0} (f : X → ℕ) (xs : List X) → ((x : X) → In x xs → f x ≡ 1) → sum_by f xs ≡ length xs
sum_ones f [] h = refl
sum_ones f (x ∷ xs) h =
    let here = h x (inl refl) in
    let rest = sum_ones f xs (λ y i. h y (inr i)) in
    let a = sum_by-cons f x xs in
    omega arith

pub sum_map : {X Y : Type 0} (f : Y → ℕ) (g : X → Y) (xs : List X) → sum_by f (map g xs) ≡ sum_by (λ x. f (g x)) xs
sum_map f g [] = refl
sum_map f g (x ∷ xs) =
    let rest = sum_map f g xs in
    let a = sum_by-cons f (g x) (map g xs) in
    let b = sum_by-cons (λ y. f (g y)) x xs in
    omega arith

-- a sum of sums may be taken the other way round
pub sum_swap : {X Y : Type 0} (f : X → Y → ℕ) (xs : List X) (ys : List Y)
    → sum_by (λ x. sum_by (f x) ys) xs ≡ sum_by (λ y. sum_by (λ x. f x y) xs) ys
sum_swap f [] ys = sym (sum_none ys)
sum_swap f (x ∷ xs) ys =
    let rest = sum_swap f xs ys in
    let a = sum_by-cons (λ z. sum_by (f z) ys) x xs in
    let b = sum_same (λ y. sum_by (λ z. f z y) (x ∷ xs)) (λ y. f x y + sum_by (λ z. f z y) xs) ys (λ y i. sum_by-cons (λ z. f z y) x xs) in
    let c = sum_both (f x) (λ y. sum_by (λ z. f z y) xs) ys in
    omega arith

-- one item more, as at a step of a loop
pub sum_more : {X : Type 0} (f : X → ℕ) (xs : List X) (i : ℕ) (x : X) (sum more now : ℕ) → i < length xs → x ≡ get_or xs i x
    → sum ≡ sum_by f (take i xs) → more ≡ f x → now ≡ sum + more → now ≡ sum_by f (take (i + 1) xs)
sum_more f xs i x sum more now lt is before here after =
    after ∙ ap (λ n. n + more) before ∙ ap (λ n. sum_by f (take i xs) + n) (here ∙ ap f is) ∙ sym (sum_by_more f xs i x lt)
