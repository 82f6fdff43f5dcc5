-- Lists that grow by one, and what stands in them.
use Rattle.std.proofs.Common.{◌≡◌, ℕ, zero, suc, ◌+◌, ◌<◌, Bool, true, List, [], ◌∷◌, ◌++◌, map, length, get_or, Some, refl, sym, ap, ◌∙◌, arith, append_assoc}
use Rattle.std.specs.List.{range_with_len, list_all, slice_get}
use Rattle.std.proofs.lemmas.List.FromFn.{map-range_with_len_more}
use Rattle.fab_base.specs.declared.ids.ReplicaId.{ReplicaId}
use Rattle.fab_base.proofs.Tests.{and_left, and_right, and_both}
use Rattle.script_keys.specs.Keys.{members_of}

pub map_twice : {A B C : Type 0} (g : B → C) (f : A → B) (xs : List A) → map g (map f xs) ≡ map (λ x. g (f x)) xs
map_twice g f [] = refl
map_twice g f (x ∷ xs) = ap (λ l. g (f x) ∷ l) (map_twice g f xs)

pub map_both : {A B : Type 0} (f : A → B) (xs ys : List A) → map f (xs ++ ys) ≡ map f xs ++ map f ys
map_both f [] ys = refl
map_both f (x ∷ xs) ys = ap (λ l. f x ∷ l) (map_both f xs ys)

pub all_mapped : {A B : Type 0} (p : B → Bool) (f : A → B) → ((x : A) → p (f x) ≡ true) → (xs : List A) → list_all p (map f xs) ≡ true
all_mapped p f h [] = refl
all_mapped p f h (x ∷ xs) = and_both (p (f x)) (list_all p (map f xs)) (h x) (all_mapped p f h xs)

pub passes_at : {A : Type 0} (p : A → Bool) (xs : List A) (k : ℕ) (x d : A) → list_all p xs ≡ true → k < length xs → x ≡ get_or xs k d → p x ≡ true
passes_at p [] k x d h lt e = absurd (omega arith)
passes_at p (y ∷ ys) zero x d h lt e = ap p e ∙ and_left (p y) (list_all p ys) h
passes_at p (y ∷ ys) (suc k) x d h lt e = passes_at p ys k x d (and_right (p y) (list_all p ys) h) (omega arith) e

-- the place of a number among those from a on
pub counted_at : {A : Type 0} (f : ℕ → A) (a n k : ℕ) → k < n → slice_get (map f (range_with_len a n)) k ≡ Some (f (a + k))
counted_at f a zero k lt = absurd (omega arith)
counted_at f a (suc n) zero lt = let e : a ≡ a + 0 = omega arith in ap (λ i. Some (f i)) e
counted_at f a (suc n) (suc k) lt =
    let e : a + 1 + k ≡ a + suc k = omega arith in counted_at f (a + 1) n k (omega arith) ∙ ap (λ i. Some (f i)) e
