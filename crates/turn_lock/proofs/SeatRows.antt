-- Rows of marks.
use Rattle.std.proofs.Common.{arith, ◌≡◌, ◌≢◌, ℕ, zero, suc, ◌+◌, ◌≤◌, ◌<◌, Bool, true, false, ◌||◌, List, [], ◌∷◌, length, slice_set, replicate, refl, sym, ap, ◌∙◌, subst, true≢false, ◌⊎◌, inl, inr}
use mathlib.Core.Logic.{dite}
use native.Mathlib.Decide.{ℕ_discrete}
use Rattle.turn_lock.specs.Numbers.{has, least, last_from, greatest, united, without, only, AreFirst, HasTwo}

pub has_set : (ns : List Bool) (i k : ℕ) (b : Bool) → k ≢ i → has (slice_set ns i b) k ≡ has ns k
has_set [] i k b n = refl
has_set (x ∷ xs) zero zero b n = absurd (n refl)
has_set (x ∷ xs) zero (suc k) b n = refl
has_set (x ∷ xs) (suc i) zero b n = refl
has_set (x ∷ xs) (suc i) (suc k) b n = has_set xs i k b (λ e. n (ap suc e))

pub has_here : (ns : List Bool) (i : ℕ) (b : Bool) → i < length ns → has (slice_set ns i b) i ≡ b
has_here [] i b h = absurd (omega arith)
has_here (x ∷ xs) zero b h = refl
has_here (x ∷ xs) (suc i) b h = has_here xs i b (omega arith)

pub has_within : (ns : List Bool) (n : ℕ) → has ns n ≡ true → n < length ns
has_within [] n h = absurd (true≢false (sym h))
has_within (x ∷ xs) zero h = omega arith
has_within (x ∷ xs) (suc n) h = let r = has_within xs n h in omega arith

pub has_none : (n k : ℕ) → has (replicate n false) k ≡ false
has_none zero k = refl
has_none (suc n) zero = refl
has_none (suc n) (suc k) = has_none n k

or_true : (b : Bool) → (b || true) ≡ true
or_true true = refl
or_true false = refl

or_false : (a : Bool) → (a || false) ≡ a
or_false true = refl
or_false false = refl

or_same : (a b : Bool) → (b ≡ true → a ≡ true) → (a || b) ≡ a
or_same true b h = refl
or_same false true h = absurd (true≢false (sym (h refl)))
or_same false false h = refl

pub united_set : (xs ys : List Bool) (i : ℕ) → has ys i ≡ true → united (slice_set xs i true) ys ≡ united xs ys
united_set [] ys i h = refl
united_set (x ∷ xs) [] i h = absurd (true≢false (sym h))
united_set (x ∷ xs) (y ∷ ys) zero h = λ k. (ap (λ b. true || b) h ∙ sym (or_true x) ∙ ap (λ b. x || b) (sym h)) k ∷ united xs ys
united_set (x ∷ xs) (y ∷ ys) (suc i) h = λ k. (x || y) ∷ united_set xs ys i h k

pub united_same : (xs ys : List Bool) → ((k : ℕ) → has ys k ≡ true → has xs k ≡ true) → united xs ys ≡ xs
united_same [] ys h = refl
united_same (x ∷ xs) [] h = refl
united_same (x ∷ xs) (y ∷ ys) h = λ k. or_same x y (h zero) k ∷ united_same xs ys (λ n. h (suc n)) k

or_either : (a b : Bool) → (a || b) ≡ true → (a ≡ false) → b ≡ true
or_either true b h n = absurd (true≢false n)
or_either false b h n = h

-- of two rows of one length
pub has_left : (xs ys : List Bool) (n : ℕ) → has xs n ≡ true → has (united xs ys) n ≡ true
has_left [] ys n h = absurd (true≢false (sym h))
has_left (x ∷ xs) [] n h = h
has_left (x ∷ xs) (y ∷ ys) zero h = ap (λ b. b || y) h
has_left (x ∷ xs) (y ∷ ys) (suc n) h = has_left xs ys n h

pub has_right : (xs ys : List Bool) (n : ℕ) → length xs ≡ length ys → has ys n ≡ true → has (united xs ys) n ≡ true
has_right [] [] n e h = h
has_right [] (y ∷ ys) n e h = absurd (omega arith)
has_right (x ∷ xs) [] n e h = absurd (true≢false (sym h))
has_right (x ∷ xs) (y ∷ ys) zero e h = ap (λ b. x || b) h ∙ or_true x
has_right (x ∷ xs) (y ∷ ys) (suc n) e h = has_right xs ys n (omega arith) h

pub has_both : (xs ys : List Bool) (n : ℕ) → has (united xs ys) n ≡ true → has xs n ≡ false → has ys n ≡ true
has_both [] ys n h m = absurd (true≢false (sym h))
has_both (x ∷ xs) [] n h m = absurd (true≢false (sym h ∙ m))
has_both (x ∷ xs) (y ∷ ys) zero h m = or_either x y h m
has_both (x ∷ xs) (y ∷ ys) (suc n) h m = has_both xs ys n h m

-- the last mark is one
last_has : (top i : ℕ) (bs : List Bool) (F : ℕ → Type 0) → F top → ((k : ℕ) → has bs k ≡ true → F (i + k)) → F (last_from top i bs)
last_has top i [] F h f = h
last_has top i (true ∷ bs) F h f = last_has i (i + 1) bs F (subst F (omega arith) (f 0 refl)) (λ k e. subst F (omega arith) (f (suc k) e))
last_has top i (false ∷ bs) F h f = last_has top (i + 1) bs F h (λ k e. subst F (omega arith) (f (suc k) e))

last_some : (top i : ℕ) (bs : List Bool) (n : ℕ) (F : ℕ → Type 0) → has bs n ≡ true → ((k : ℕ) → has bs k ≡ true → F (i + k)) → F (last_from top i bs)
last_some top i [] n F h f = absurd (true≢false (sym h))
last_some top i (true ∷ bs) n F h f = last_has i (i + 1) bs F (subst F (omega arith) (f 0 refl)) (λ k e. subst F (omega arith) (f (suc k) e))
last_some top i (false ∷ bs) zero F h f = absurd (true≢false (sym h))
last_some top i (false ∷ bs) (suc n) F h f = last_some top (i + 1) bs n F h (λ k e. subst F (omega arith) (f (suc k) e))

pub has_greatest : (ns : List Bool) (n : ℕ) → has ns n ≡ true → has ns (greatest ns) ≡ true
has_greatest ns n h = last_some 0 0 ns n (λ k. has ns k ≡ true) h (λ k e. subst (λ j. has ns j ≡ true) (omega arith) e)

pub has_least : (ns : List Bool) (n : ℕ) → has ns n ≡ true → has ns (least ns) ≡ true
has_least [] n h = absurd (true≢false (sym h))
has_least (true ∷ xs) n h = refl
has_least (false ∷ xs) zero h = absurd (true≢false (sym h))
has_least (false ∷ xs) (suc n) h = let is : suc (least xs) ≡ 1 + least xs = omega arith in subst (λ k. has (false ∷ xs) k ≡ true) is (has_least xs n h)

-- the greatest is at or above each
last_above : (top i : ℕ) (bs : List Bool) → top ≤ i → top ≤ last_from top i bs
last_above top i [] h = omega arith
last_above top i (true ∷ bs) h = let r = last_above i (i + 1) bs (omega arith) in omega arith
last_above top i (false ∷ bs) h = last_above top (i + 1) bs (omega arith)

last_at_least : (top i : ℕ) (bs : List Bool) (n : ℕ) → top ≤ i → has bs n ≡ true → i + n ≤ last_from top i bs
last_at_least top i [] n h e = absurd (true≢false (sym e))
last_at_least top i (true ∷ bs) zero h e = let r = last_above i (i + 1) bs (omega arith) in omega arith
last_at_least top i (false ∷ bs) zero h e = absurd (true≢false (sym e))
last_at_least top i (true ∷ bs) (suc n) h e = let r = last_at_least i (i + 1) bs n (omega arith) e in omega arith
last_at_least top i (false ∷ bs) (suc n) h e = let r = last_at_least top (i + 1) bs n (omega arith) e in omega arith

pub greatest_from : (ns : List Bool) (n : ℕ) → has ns n ≡ true → n ≤ greatest ns
greatest_from ns n h = let r = last_at_least 0 0 ns n (omega arith) h in omega arith

-- and the least at or below
pub least_to : (ns : List Bool) (n : ℕ) → has ns n ≡ true → least ns ≤ n
least_to [] n h = absurd (true≢false (sym h))
least_to (true ∷ xs) n h = omega arith
least_to (false ∷ xs) zero h = absurd (true≢false (sym h))
least_to (false ∷ xs) (suc n) h = let is : suc (least xs) ≡ 1 + least xs = omega arith in let r = least_to xs n h in omega arith

still_has : (ns : List Bool) (i : ℕ) → has (slice_set ns i false) i ≡ true → has ns i ≡ true
still_has [] i h = h
still_has (x ∷ xs) zero h = absurd (true≢false (sym h))
still_has (x ∷ xs) (suc i) h = still_has xs i h

pub without_fewer : (ns : List Bool) (i : ℕ) → has (without (greatest ns) ns) i ≡ true → has ns i ≡ true
without_fewer ns i h = dite (ℕ_discrete i (greatest ns)) (λ e. ap (has ns) e ∙ has_greatest ns (greatest ns) (still_has ns (greatest ns) (ap (has (without (greatest ns) ns)) (sym e) ∙ h))) (λ ne. sym (has_set ns (greatest ns) i false ne) ∙ h)

pub only_one : (g i : ℕ) → has (only g) i ≡ true → i ≡ g
only_one g i h = dite (ℕ_discrete i g) (λ e. e) (λ ne. absurd (true≢false (sym h ∙ has_set (replicate 256 false) g i true ne ∙ has_none 256 i)))

length_none : (n : ℕ) → length (replicate n false) ≡ n
length_none zero = refl
length_none (suc n) = ap suc (length_none n)

pub has_only : (g : ℕ) → g < 256 → has (only g) g ≡ true
has_only g h = has_here (replicate 256 false) g true (subst (λ n. g < n) (sym (length_none 256)) h)

pub either_of : (a b : Bool) → (a ≡ false → b ≡ true) → (a ≡ true) ⊎ (b ≡ true)
either_of true b h = inl refl
either_of false b h = inr (h refl)

back_in : (ns : List Bool) (g : ℕ) → has ns g ≡ true → united (slice_set ns g false) (slice_set (replicate (length ns) false) g true) ≡ ns
back_in [] g h = refl
back_in (x ∷ xs) zero h = λ k. sym h k ∷ united_same xs (replicate (length xs) false) (λ n e. absurd (true≢false (sym e ∙ has_none (length xs) n))) k
back_in (x ∷ xs) (suc g) h = λ k. or_false x k ∷ back_in xs g h k

-- a number that was taken out and is put in again
pub split_back : (ns : List Bool) (g : ℕ) → length ns ≡ 256 → has ns g ≡ true → united (without g ns) (only g) ≡ ns
split_back ns g long h = subst (λ n. united (without g ns) (slice_set (replicate n false) g true) ≡ ns) long (back_in ns g h)

-- of two numbers one is not the greatest
pub other_than : (ns : List Bool) (g a b : ℕ) → a ≢ b → has ns a ≡ true → has ns b ≡ true → (n : ℕ) × (n ≢ g) × (has ns n ≡ true)
other_than ns g a b n h k = dite (ℕ_discrete a g) (λ e. (b, (λ f. n (e ∙ sym f)), k)) (λ m. (a, m, h))

-- of the numbers from 1 to n + 1 the greatest is n + 1, and the others are those from 1 to n
pub greatest_is : (n : ℕ) (ns : List Bool) → AreFirst (n + 1) ns → greatest ns ≡ n + 1
greatest_is n ns h =
    let top : has ns (n + 1) ≡ true = h.0 (n + 1) (omega arith) (omega arith) in
    let least_bound = greatest_from ns (n + 1) top in
    let bound = (h.1 (greatest ns) (has_greatest ns (n + 1) top)).1 in
    omega arith

pub first_without : (n : ℕ) (ns : List Bool) → AreFirst (n + 1) ns → AreFirst n (without (greatest ns) ns) × (only (greatest ns) ≡ only (n + 1))
first_without n ns h =
    let e = greatest_is n ns h in
    let top : has ns (n + 1) ≡ true = h.0 (n + 1) (omega arith) (omega arith) in
    let room = has_within ns (n + 1) top in (
      subst (λ g. AreFirst n (without g ns)) (sym e) (
        (λ k some small. has_set ns (n + 1) k false (λ is. absurd (omega arith)) ∙ h.0 k some (omega arith)),
        (λ k is. dite (ℕ_discrete k (n + 1))
            (λ same. absurd (true≢false (sym is ∙ ap (has (without (n + 1) ns)) same ∙ has_here ns (n + 1) false room)))
            (λ other. let r = h.1 k (sym (has_set ns (n + 1) k false other) ∙ is) in (r.0, omega arith))),
      ),
      ap only e,
    )

-- the least and the greatest differ just where there are two
pub two_of : (ns : List Bool) (n : ℕ) → has ns n ≡ true → least ns ≢ greatest ns → HasTwo ns
two_of ns n h other = (least ns, greatest ns, other, has_least ns n h, has_greatest ns n h)

pub two_apart : (ns : List Bool) → HasTwo ns → least ns ≢ greatest ns
two_apart ns h e =
    let a = h.0 in
    let b = h.1 in
    let la = least_to ns a h.3 in
    let lb = least_to ns b h.4 in
    let ga = greatest_from ns a h.3 in
    let gb = greatest_from ns b h.4 in
    h.2 (omega arith)
