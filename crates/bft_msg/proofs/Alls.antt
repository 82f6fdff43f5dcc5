-- What holds of each item of a list, where lists are joined.
use Rattle.std.specs.List.{AllByRecursion, flat_map, list_all}
use Rattle.std.proofs.Common.{◌≡◌, ℕ, ◌*◌, ◌≤◌, Bool, true, List, [], ◌∷◌, ◌++◌, length, map, arith}
use Rattle.std.proofs.Math.Nat.{suc-mul}
use Rattle.std.proofs.lemmas.List.{length-append}
use Rattle.fab_base.proofs.Tests.{and_left, and_right}

pub all_left : {X : Type 0} (P : X → Type 0) (xs ys : List X) → AllByRecursion P (xs ++ ys) → AllByRecursion P xs
all_left P [] ys h = tt
all_left P (x ∷ xs) ys h = (h.0, all_left P xs ys h.1)

pub all_right : {X : Type 0} (P : X → Type 0) (xs ys : List X) → AllByRecursion P (xs ++ ys) → AllByRecursion P ys
all_right P [] ys h = h
all_right P (x ∷ xs) ys h = all_right P xs ys h.1

pub all_append : {X : Type 0} (P : X → Type 0) (xs ys : List X) → AllByRecursion P xs → AllByRecursion P ys → AllByRecursion P (xs ++ ys)
all_append P [] ys h t = t
all_append P (x ∷ xs) ys h t = (h.0, all_append P xs ys h.1 t)

-- two facts of each
pub all_both : {X : Type 0} (P Q : X → Type 0) (xs : List X) → AllByRecursion P xs → AllByRecursion Q xs → AllByRecursion (λ x. P x × Q x) xs
all_both P Q [] h t = tt
all_both P Q (x ∷ xs) h t = ((h.0, t.0), all_both P Q xs h.1 t.1)

module _ {X Y : Type 0} (P : Y → Type 0) (p : X → Bool) where
  -- of each item that is made of one that passes a test
  pub all_map : (f : X → Y) → ((x : X) → p x ≡ true → P (f x)) → (xs : List X) → list_all p xs ≡ true → AllByRecursion P (map f xs)
  all_map f each [] h = tt
  all_map f each (x ∷ xs) h = (each x (and_left (p x) (list_all p xs) h), all_map f each xs (and_right (p x) (list_all p xs) h))

  pub all_flat_map : (f : X → List Y) → ((x : X) → p x ≡ true → AllByRecursion P (f x)) → (xs : List X) → list_all p xs ≡ true
      → AllByRecursion P (flat_map f xs)
  all_flat_map f each [] h = tt
  all_flat_map f each (x ∷ xs) h =
      all_append P (f x) (flat_map f xs) (each x (and_left (p x) (list_all p xs) h)) (all_flat_map f each xs (and_right (p x) (list_all p xs) h))

-- and how many there are, where each that passes a test gives so many at most
pub few_in_all : {X Y : Type 0} (p : X → Bool) (f : X → List Y) (most : ℕ) → ((x : X) → p x ≡ true → length (f x) ≤ most) → (xs : List X)
    → list_all p xs ≡ true → length (flat_map f xs) ≤ length xs * most
few_in_all p f most each [] h = omega arith
few_in_all p f most each (x ∷ xs) h =
    omega (
      arith,
      each x (and_left (p x) (list_all p xs) h),
      few_in_all p f most each xs (and_right (p x) (list_all p xs) h),
      length-append (f x) (flat_map f xs),
      suc-mul (length xs) most,
    )
