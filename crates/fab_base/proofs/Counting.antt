-- Sets of members are counted: two quorums share more members than may be faulty.
use Rattle.std.proofs.Common.{◌≡◌, ℕ, zero, suc, ◌+◌, ◌<◌, ◌≤◌, ◌≢◌, Bool, true, false, cond, ◌&&◌, ◌||◌, not, eqb, List, [], ◌∷◌, length, refl, sym, ap, ◌∙◌, arith}
use Rattle.std.proofs.lemmas.Bool.Decides.{nat_tests}
use Rattle.std.specs.List.{filter}
use Rattle.fab_base.specs.Quorums.{greatest_faulty, IsRisingFrom, AreMembers, IsQuorum, is_member, shared_members, one_if, count_members}

-- ---- counts of tests

-- two tests pass together wherever their counts overlap
both_one : (a b : Bool) → one_if a + one_if b ≤ 1 + one_if (a && b)
both_one true true = omega arith
both_one true false = omega arith
both_one false true = omega arith
both_one false false = omega arith

pub both : (n : ℕ) (p q : ℕ → Bool) → count_members n p + count_members n q ≤ n + count_members n (λ k. p k && q k)
both zero p q = omega arith
both (suc n) p q = omega (arith, both n p q, both_one (p n) (q n))

without_one : (a b : Bool) → one_if a ≤ one_if (a && not b) + one_if b
without_one true true = omega arith
without_one true false = omega arith
without_one false true = omega arith
without_one false false = omega arith

pub without : (n : ℕ) (p q : ℕ → Bool) → count_members n p ≤ count_members n (λ k. p k && not (q k)) + count_members n q
without zero p q = omega arith
without (suc n) p q = omega (arith, without n p q, without_one (p n) (q n))

-- where some member passes, there is one
pub some_member : (n : ℕ) (p : ℕ → Bool) → 0 < count_members n p → (k : ℕ) × (k < n) × (p k ≡ true)
some_member zero p h = absurd (omega arith)
some_member (suc n) p h = go (some_member n p) (p n) refl
  where
    go : (0 < count_members n p → (k : ℕ) × (k < n) × (p k ≡ true)) → (b : Bool) → p n ≡ b → (k : ℕ) × (k < suc n) × (p k ≡ true)
    go rec true e = (n, omega arith, e)
    go rec false e =
        let none : one_if (p n) ≡ 0 = ap one_if e in
        let r = rec (omega arith) in
        (r.0, omega (arith, r.1), r.2)

pub same_count : (n : ℕ) (p q : ℕ → Bool) → ((j : ℕ) → j < n → p j ≡ q j) → count_members n p ≡ count_members n q
same_count zero p q h = refl
same_count (suc n) p q h =
    let below = same_count n p q (λ j l. h j (omega arith)) in
    let here = ap one_if (h n (omega arith)) in
    omega arith

-- ---- the members of a rising list

same_number : (a b : ℕ) → eqb a b ≡ true → a ≡ b
same_number a b h = grind (arith, nat_tests)

other_number : (a b : ℕ) → eqb a b ≡ false → a ≢ b
other_number a b h = grind (arith, nat_tests)

above_other : (a b : ℕ) → a < b → eqb b a ≡ false
above_other a b h = grind (arith, nat_tests)

or_right : (a b : Bool) → a ≡ false → b ≡ (a || b)
or_right a b h = rw h refl

-- one member more
one_more : (n x : ℕ) (p : ℕ → Bool) → x < n → p x ≡ false → count_members n p + 1 ≤ count_members n (λ j. eqb x j || p j)
one_more zero x p l e = absurd (omega arith)
one_more (suc n) x p l e = go (λ s. one_more n x p s e) (eqb x n) refl
  where
    go : (x < n → count_members n p + 1 ≤ count_members n (λ j. eqb x j || p j)) → (b : Bool) → eqb x n ≡ b → count_members (suc n) p + 1 ≤ count_members (suc n) (λ j. eqb x j || p j)
    go rec true h =
        let s : x ≡ n = same_number x n h in
        let rest = same_count n p (λ j. eqb x j || p j) (λ j k. or_right (eqb x j) (p j) (above_other j x (omega arith))) in
        let here : one_if (eqb x n || p n) ≡ 1 = ap (λ b. one_if (b || p n)) h in
        let none : one_if (p n) ≡ 0 = ap (λ k. one_if (p k)) (sym s) ∙ ap one_if e in
        omega arith
    go rec false h =
        let s : x < n = omega (arith, other_number x n h) in
        let rest = rec s in
        let here : one_if (p n) ≡ one_if (eqb x n || p n) = ap one_if (or_right (eqb x n) (p n) h) in
        omega arith

-- a list that rises from `least` on has no member below it
none_below : (least n : ℕ) (xs : List ℕ) (j : ℕ) → j < least → IsRisingFrom least n xs → is_member xs j ≡ false
none_below least n [] j l r = refl
none_below least n (x ∷ xs) j l r =
    sym (or_right (eqb x j) (is_member xs j) (above_other j x (omega (arith, r.0)))) ∙ none_below (x + 1) n xs j (omega (arith, r.0)) r.2

-- a rising list has as many members as it is long
pub length-le_members : (least n : ℕ) (xs : List ℕ) → IsRisingFrom least n xs → length xs ≤ count_members n (is_member xs)
length-le_members least n [] r = omega arith
length-le_members least n (x ∷ xs) r =
    omega (arith, length-le_members (x + 1) n xs r.2, one_more n x (is_member xs) r.1 (none_below (x + 1) n xs x (omega arith) r.2))

-- ---- a part of a rising list

one_or : (a b q : Bool) → one_if ((a || b) && q) ≤ one_if (a && q) + one_if (b && q)
one_or true true true = omega arith
one_or true true false = omega arith
one_or true false true = omega arith
one_or true false false = omega arith
one_or false true true = omega arith
one_or false true false = omega arith
one_or false false true = omega arith
one_or false false false = omega arith

-- at one number a test passes at most once
only_there : (n x : ℕ) (q : ℕ → Bool) → n ≤ x → count_members n (λ j. eqb x j && q j) ≡ 0
only_there zero x q l = refl
only_there (suc n) x q l =
    let rest = only_there n x q (omega arith) in
    let here : one_if (eqb x n && q n) ≡ 0 = ap (λ b. one_if (b && q n)) (above_other n x (omega arith)) in
    omega arith

at_most_there : (n x : ℕ) (q : ℕ → Bool) → count_members n (λ j. eqb x j && q j) ≤ one_if (q x)
at_most_there zero x q = omega arith
at_most_there (suc n) x q = go (at_most_there n x q) (eqb x n) refl
  where
    go : count_members n (λ j. eqb x j && q j) ≤ one_if (q x) → (b : Bool) → eqb x n ≡ b → count_members (suc n) (λ j. eqb x j && q j) ≤ one_if (q x)
    go rec true h =
        let s : x ≡ n = same_number x n h in
        let rest = only_there n x q (omega arith) in
        let here : one_if (eqb x n && q n) ≡ one_if (q n) = ap (λ b. one_if (b && q n)) h in
        let there : one_if (q x) ≡ one_if (q n) = ap (λ k. one_if (q k)) s in
        omega arith
    go rec false h =
        let here : one_if (eqb x n && q n) ≡ 0 = ap (λ b. one_if (b && q n)) h in
        omega arith

split_or : (n x : ℕ) (p q : ℕ → Bool) → count_members n (λ j. (eqb x j || p j) && q j) ≤ count_members n (λ j. eqb x j && q j) + count_members n (λ j. p j && q j)
split_or zero x p q = omega arith
split_or (suc n) x p q = omega (arith, split_or n x p q, one_or (eqb x n) (p n) (q n))

nobody : (n : ℕ) → count_members n (λ j. false) ≡ 0
nobody zero = refl
nobody (suc n) = omega (arith, nobody n)

length-filter-cons : (b : Bool) (x : ℕ) (xs : List ℕ) → length (cond b (x ∷ xs) xs) ≡ one_if b + length xs
length-filter-cons true x xs = omega arith
length-filter-cons false x xs = omega arith

-- the part of a list that passes a test is as long as there are such members
pub members-le_filter : (n : ℕ) (q : ℕ → Bool) (xs : List ℕ) → count_members n (λ j. is_member xs j && q j) ≤ length (filter q xs)
members-le_filter n q [] = omega (arith, nobody n)
members-le_filter n q (x ∷ xs) =
    omega (arith, members-le_filter n q xs, split_or n x (is_member xs) q, at_most_there n x q, length-filter-cons (q x) x (filter q xs))

rising_later : (least later n : ℕ) (xs : List ℕ) → least ≤ later → IsRisingFrom later n xs → IsRisingFrom least n xs
rising_later least later n [] l r = tt
rising_later least later n (x ∷ xs) l r = (omega (arith, r.0), r.1, r.2)

-- a part of a rising list rises
pub rising-filter : (least n : ℕ) (q : ℕ → Bool) (xs : List ℕ) → IsRisingFrom least n xs → IsRisingFrom least n (filter q xs)
rising-filter least n q [] r = tt
rising-filter least n q (x ∷ xs) r = go (rising-filter (x + 1) n q xs r.2) (q x)
  where
    go : IsRisingFrom (x + 1) n (filter q xs) → (b : Bool) → IsRisingFrom least n (cond b (x ∷ filter q xs) (filter q xs))
    go rec true = (r.0, r.1, rec)
    go rec false = rising_later least (x + 1) n (filter q xs) (omega (arith, r.0)) rec

-- ---- quorums

-- two quorums share more members than may be faulty
pub quorums_meet : (n : ℕ) (xs ys : List ℕ) → 1 ≤ n → IsQuorum n xs → IsQuorum n ys → AreMembers n (greatest_faulty n + 1) (shared_members xs ys)
quorums_meet n xs ys some mx my =
    let cx = length-le_members 0 n xs mx.rising in
    let cy = length-le_members 0 n ys my.rising in
    let overlap = both n (is_member xs) (is_member ys) in
    let part = members-le_filter n (is_member ys) xs in
    record { rising = rising-filter 0 n (is_member ys) xs mx.rising; enough = omega (arith, mx.enough, my.enough) }
