-- Sets of contents: what a set has after a content came.
use Rattle.std.proofs.Common.{◌≡◌, ℕ, Bool, true, false, ◌||◌, List, [], ◌∷◌, map, Bor, refl, sym, ap, ◌∙◌}
use Rattle.std.specs.List.{list_any}
use Rattle.std.specs.Str.{bytes_eq}
use Rattle.std.specs.Ordering.{nat_cmp, is_eq, match_ordering}
use Rattle.std.specs.declared.cmp.Ordering.{Ordering}
use Rattle.std.specs.declared.cmp.Ordering.TheVariants.{Less, Equal, Greater}
use Rattle.std.specs.Cmp.Lexicographic.{slice_cmp}
use Rattle.std.specs.BTreeMap.{is_at}
use Rattle.std.specs.BTreeSet.{insert_key}
use Rattle.std.proofs.lemmas.Map.Text.{is_eq-slice_cmp}
use Rattle.std.proofs.lemmas.Slice.Eq.{bytes_eq-Decides}

-- the bytes of what was borrowed
abbrev pub bytes_of : List (Bor (List ℕ)) → List (List ℕ)
bytes_of keys = map (λ k. k.now) keys

abbrev order : Bor (List ℕ) → Bor (List ℕ) → Ordering
order a b = slice_cmp nat_cmp a.now b.now

-- a look-up by bytes
pub found : (x : List ℕ) (keys : List (Bor (List ℕ))) → list_any (is_at (λ k. slice_cmp nat_cmp x k.now)) keys ≡ list_any (bytes_eq x) (bytes_of keys)
found x [] = refl
found x (k ∷ keys) =
    ap (λ b. b || list_any (is_at (λ (q : Bor (List ℕ)). slice_cmp nat_cmp x q.now)) keys) (is_eq-slice_cmp x k.now)
    ∙ ap (λ b. bytes_eq x k.now || b) (found x keys)

-- ---- truths

turned : (a b : Bool) → (a || b) ≡ (b || a)
turned true true = refl
turned true false = refl
turned false true = refl
turned false false = refl

again : (a b : Bool) → (a || b) ≡ ((a || b) || a)
again true b = refl
again false true = refl
again false false = refl

regrouped : (a b c : Bool) → (a || (b || c)) ≡ ((a || b) || c)
regrouped true b c = refl
regrouped false b c = refl

-- ---- one content more

pub gained : (x : List ℕ) (keys : List (Bor (List ℕ))) (k : Bor (List ℕ))
    → list_any (bytes_eq x) (bytes_of (insert_key order keys k)) ≡ (list_any (bytes_eq x) (bytes_of keys) || bytes_eq x k.now)
gained x [] k = turned (bytes_eq x k.now) false
gained x (y ∷ keys) k = by (order k y) refl (gained x keys k)
  where
    by : (o : Ordering) → order k y ≡ o
        → list_any (bytes_eq x) (bytes_of (insert_key order keys k)) ≡ (list_any (bytes_eq x) (bytes_of keys) || bytes_eq x k.now)
        → list_any (bytes_eq x) (bytes_of (match_ordering o (k ∷ y ∷ keys) (y ∷ keys) (y ∷ insert_key order keys k)))
        ≡ ((bytes_eq x y.now || list_any (bytes_eq x) (bytes_of keys)) || bytes_eq x k.now)
    by Less e later = turned (bytes_eq x k.now) (bytes_eq x y.now || list_any (bytes_eq x) (bytes_of keys))
    by Equal e later =
        let same : k.now ≡ y.now = (bytes_eq-Decides k.now y.now).0 (sym (is_eq-slice_cmp k.now y.now) ∙ ap is_eq e) in
        again (bytes_eq x y.now) (list_any (bytes_eq x) (bytes_of keys))
        ∙ ap (λ z. (bytes_eq x y.now || list_any (bytes_eq x) (bytes_of keys)) || bytes_eq x z) (sym same)
    by Greater e later =
        ap (λ b. bytes_eq x y.now || b) later ∙ regrouped (bytes_eq x y.now) (list_any (bytes_eq x) (bytes_of keys)) (bytes_eq x k.now)
