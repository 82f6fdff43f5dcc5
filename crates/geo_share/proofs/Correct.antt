-- Among the receivers one is correct: in the order of their indexes they are f + 1 distinct members.
use Rattle.std.proofs.Common.{◌≡◌, ℕ, zero, suc, ◌+◌, ◌-◌, ◌%◌, ◌<◌, ◌≤◌, Bool, true, false, ◌||◌, eqb, List, [], ◌∷◌, ◌++◌, All, refl, sym, ap, subst, ◌∙◌, arith, zero-add, length-append}
use Rattle.std.specs.List.{range_with_len}
use Rattle.std.proofs.Math.Nat.{add-mod_right, mod-add-mod, mod-eq_of_lt}
use Rattle.std.proofs.lemmas.List.FromFn.{length-range_with_len, get_or-map-range_with_len, length-map-range_with_len}
use Rattle.std.proofs.lemmas.List.Folds.{list_any-append, list_any_at}
use Rattle.fab_base.specs.Quorums.{greatest_faulty, IsRisingFrom, AreMembers, is_member, count_members, CorrectMember}
use Rattle.fab_base.proofs.Tests.{same, is_same}
use Rattle.fab_base.proofs.Correct.{correct_member}
use Rattle.geo_share.specs.Receiving.{receiver, receivers}

later : (least b n : ℕ) (xs : List ℕ) → least ≤ b → IsRisingFrom b n xs → IsRisingFrom least n xs
later least b n [] l r = tt
later least b n (x ∷ xs) l r = (omega (arith, r.0), r.1, r.2)

-- numbers that rise, before others
rising : (least a len n b : ℕ) (xs : List ℕ) → least ≤ a → a + len ≤ b → b ≤ n → IsRisingFrom b n xs → IsRisingFrom least n (range_with_len a len ++ xs)
rising least a zero n b xs l m k r = later least b n xs (omega arith) r
rising least a (suc len) n b xs l m k r = (l, omega arith, rising (a + 1) (a + 1) len n b xs (omega arith) (omega arith) k r)

rises : (least a len n : ℕ) → least ≤ a → a + len ≤ n → IsRisingFrom least n (range_with_len a len)
rises least a zero n l m = tt
rises least a (suc len) n l m = (l, omega arith, rises (a + 1) (a + 1) len n (omega arith) (omega arith))

in_range : (a len i : ℕ) → is_member (range_with_len a len) i ≡ true → (a ≤ i) × (i < a + len)
in_range a zero i h = absurd cc
in_range a (suc len) i h = go (eqb a i) refl (in_range (a + 1) len i) h
  where
    go : (t : Bool) → eqb a i ≡ t → (is_member (range_with_len (a + 1) len) i ≡ true → (a + 1 ≤ i) × (i < a + 1 + len))
        → (t || is_member (range_with_len (a + 1) len) i) ≡ true → (a ≤ i) × (i < a + suc len)
    go true e rest q = (let here = same a i e in (omega arith, omega arith))
    go false e rest q = (let r = rest q in (omega (arith, r.0), omega (arith, r.1)))

-- the k-th receiver is one
pub is_one : (n round k : ℕ) → k ≤ greatest_faulty n → is_member (receivers n round) (receiver n round k) ≡ true
is_one n round k l =
    let short : k < greatest_faulty n + 1 = omega arith in
    let at = get_or-map-range_with_len (receiver n round) 0 (greatest_faulty n + 1) k k 0 short (omega arith) in
    let long = length-map-range_with_len (receiver n round) 0 (greatest_faulty n + 1) in
    list_any_at (λ x. eqb x (receiver n round k)) (receivers n round) k 0 (omega arith) (ap (λ x. eqb x (receiver n round k)) at ∙ is_same (receiver n round k))

-- in the order of their indexes: those from 0 on, where the receivers go round the end, and those from the first on
abbrev pub wrapped : ℕ → ℕ → ℕ
wrapped n first = first + greatest_faulty n + 1 - n

abbrev in_order : ℕ → ℕ → List ℕ
in_order n first = range_with_len 0 (wrapped n first) ++ range_with_len first (greatest_faulty n + 1 - wrapped n first)

are_members : (n first : ℕ) → first < n → AreMembers n (greatest_faulty n + 1) (in_order n first)
are_members n first l =
    let w : ℕ = wrapped n first in
    let rest : ℕ = greatest_faulty n + 1 - w in
    let long = length-append (range_with_len 0 w) (range_with_len first rest) in
    record {
      rising = rising 0 0 w n first (range_with_len first rest) (omega arith) (omega arith) (omega arith) (rises first first rest n (omega arith) (omega arith));
      enough = omega (arith, long, length-range_with_len 0 w, length-range_with_len first rest);
    }

-- the member at this place behind the first receiver is a receiver
is_there : (n round i place : ℕ) → place ≤ greatest_faulty n → (round % n + place) % n ≡ i → is_member (receivers n round) i ≡ true
is_there n round i place l e = subst (λ x. is_member (receivers n round) x ≡ true) (sym (mod-add-mod round n place) ∙ e) (is_one n round place l)

-- each of them is a receiver
is_receiver : (n round i : ℕ) → 1 ≤ n → is_member (in_order n (round % n)) i ≡ true → is_member (receivers n round) i ≡ true
is_receiver n round i s h =
    let first : ℕ = round % n in
    let w : ℕ = wrapped n first in
    let rest : ℕ = greatest_faulty n + 1 - w in
    let below : first < n = omega arith in
    go w rest refl refl below (is_member (range_with_len 0 w) i) refl (sym (list_any-append (λ x. eqb x i) (range_with_len 0 w) (range_with_len first rest)) ∙ h)
  where
    go : (w rest : ℕ) → w ≡ wrapped n (round % n) → rest ≡ greatest_faulty n + 1 - w → round % n < n → (t : Bool) → is_member (range_with_len 0 w) i ≡ t
        → (t || is_member (range_with_len (round % n) rest) i) ≡ true → is_member (receivers n round) i ≡ true
    go w rest ew er below true e q =
        let at = in_range 0 w i e in
        let place : ℕ = i + n - round % n in
        let whole : round % n + place ≡ i + n = omega arith in
        is_there n round i place (omega (arith, at.1)) (ap (λ x. x % n) whole ∙ (add-mod_right i n ∙ mod-eq_of_lt (omega (arith, at.1))))
    go w rest ew er below false e q =
        let at = in_range (round % n) rest i q in
        let place : ℕ = i - round % n in
        let whole : round % n + place ≡ i = omega (arith, at.0) in
        is_there n round i place (omega (arith, at.0, at.1)) (ap (λ x. x % n) whole ∙ mod-eq_of_lt (omega (arith, at.0, at.1)))

-- one receiver is correct
pub one_is_correct : (n round : ℕ) (is_faulty : ℕ → Bool) → 1 ≤ n → count_members n is_faulty ≤ greatest_faulty n → CorrectMember n is_faulty (receivers n round)
one_is_correct n round is_faulty s few =
    let found = correct_member n is_faulty (in_order n (round % n)) few (are_members n (round % n) (omega arith)) in
    record { index = found.index; in_range = found.in_range; is_in = is_receiver n round found.index s found.is_in; not_faulty = found.not_faulty }

-- each receiver is a member
pub are_in_cluster : (n round : ℕ) → 1 ≤ n → All (λ index. index < n) (receivers n round)
are_in_cluster n round s = λ k d h.
    let long = length-map-range_with_len (receiver n round) 0 (greatest_faulty n + 1) in
    let at = get_or-map-range_with_len (receiver n round) 0 (greatest_faulty n + 1) k k d (omega arith) (zero-add k) in
    omega arith
