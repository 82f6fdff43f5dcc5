-- The longest of lists that are met one after another.
use Rattle.std.proofs.Common.{◌≡◌, ℕ, ◌+◌, ◌<◌, ◌≤◌, nat_lt, Bool, true, false, cond, List, [], ◌∷◌, ◌++◌, length, map, take, get_or, refl, sym, ap, ◌∙◌, arith}
use Rattle.std.specs.Prelude.{if◌then◌else◌}
use Rattle.std.proofs.lemmas.List.{map_more}
use Rattle.std.proofs.lemmas.Bool.Decides.{nat_tests}
use Rattle.world_laws.specs.World.{longest}

-- the first of two lists, or the second one where it is longer
abbrev pub pick : {X : Type 0} → List X → List X → List X
pick a b = if nat_lt (length a) (length b) then b else a

pick_longer : {X : Type 0} (a b : List X) → length a < length b → pick a b ≡ b
pick_longer a b h = grind (arith, nat_tests)

pick_first : {X : Type 0} (a b : List X) → length b ≤ length a → pick a b ≡ a
pick_first a b h = grind (arith, nat_tests)

pub pick_none : {X : Type 0} (b : List X) → pick [] b ≡ b
pick_none [] = refl
pick_none (x ∷ xs) = pick_longer [] (x ∷ xs) (omega arith)

pick_more : {X : Type 0} (a b c : List X) → pick a (pick b c) ≡ pick (pick a b) c
pick_more a b c = grind (arith, nat_tests)

longest_more : {X : Type 0} (seen : List (List X)) (xs : List X) → longest (seen ++ xs ∷ []) ≡ pick (longest seen) xs
longest_more [] [] = refl
longest_more [] (x ∷ xs) = pick_first (x ∷ xs) [] (omega arith) ∙ sym (pick_none (x ∷ xs))
longest_more (first ∷ rest) xs = ap (pick first) (longest_more rest xs) ∙ pick_more first (longest rest) xs

seen_more : {X Y : Type 0} (f : X → List Y) (xs : List X) (i : ℕ) (x : X) → i < length xs → x ≡ get_or xs i x
    → longest (map f (take (i + 1) xs)) ≡ pick (longest (map f (take i xs))) (f x)
seen_more f xs i x l at =
    ap longest (map_more f xs i x l ∙ ap (λ y. map f (take i xs) ++ f y ∷ []) (sym at)) ∙ longest_more (map f (take i xs)) (f x)

-- a longer one takes its place
pub longer_taken : {X Y : Type 0} (f : X → List Y) (xs : List X) (i : ℕ) (x : X) → i < length xs → x ≡ get_or xs i x
    → length (longest (map f (take i xs))) < length (f x) → longest (map f (take (i + 1) xs)) ≡ f x
longer_taken f xs i x l at h = seen_more f xs i x l at ∙ pick_longer (longest (map f (take i xs))) (f x) h

-- one that isn't longer leaves it
pub longest_stays : {X Y : Type 0} (f : X → List Y) (xs : List X) (i : ℕ) (x : X) → i < length xs → x ≡ get_or xs i x
    → length (f x) ≤ length (longest (map f (take i xs))) → longest (map f (take (i + 1) xs)) ≡ longest (map f (take i xs))
longest_stays f xs i x l at h = seen_more f xs i x l at ∙ pick_first (longest (map f (take i xs))) (f x) h

-- ---- whose it is

-- where what counts is longer than another list, it is the ledger itself
pub counts : {X : Type 0} (b : Bool) (xs : List X) (n : ℕ) → n < length (cond b xs []) → cond b xs [] ≡ xs
counts true xs n h = refl
counts false xs n h = absurd (omega (arith, h))
