-- Each member of a script is named once.
use Rattle.std.proofs.Common.{◌≡◌, ◌≢◌, ℕ, zero, suc, ◌+◌, ◌-◌, ◌≤◌, ◌<◌, Bool, true, false, cond, ◌&&◌, ◌==◌, nat_le, nat_lt, List, [], ◌∷◌, length, slice_index, sum_by, refl, sym, ap, ◌∙◌, arith}
use Rattle.std.specs.List.{range_with_len}
use Rattle.std.proofs.lemmas.List.{get_or_past}
use Rattle.std.proofs.lemmas.List.Sums.{sum_by-cons, sum_by-append}
use Rattle.std.proofs.lemmas.Bool.Decides.{nat_tests}
use Rattle.fab_base.specs.Roster.{is_replica}
use Rattle.fab_base.specs.declared.ids.ReplicaId.{ReplicaId}
use Rattle.fault_script.specs.declared.scripts.Script.{Script}
use Rattle.run_words.specs.Keyed.{is_same}
use Rattle.script_keys.specs.Keys.{members_of, replicas_from, replicas_of}
use Rattle.run_worlds.specs.Scripts.{roster_of}
use Rattle.fabric_audit.proofs.Sums.{sum_map, sum_same, sum_none}

-- 1 where the test passes
abbrev pub once : Bool → ℕ
once b = cond b 1 0

equal : (a b : ℕ) → a ≡ b → (a == b) ≡ true
equal a b e = grind (arith, nat_tests)

unequal : (a b : ℕ) → a ≢ b → (a == b) ≡ false
unequal a b e = grind (arith, nat_tests)

-- ---- numbers

none_below : (j : ℕ) → nat_lt j 0 ≡ false
none_below j = grind (arith, nat_tests)

none_above : (n : ℕ) → nat_lt zero (suc n) ≡ true
none_above n = grind (arith, nat_tests)

both_more : (j n : ℕ) → nat_lt j n ≡ nat_lt (suc j) (suc n)
both_more j n = grind (arith, nat_tests)

-- how often a number stands among those from a on: not, below them
low_number : (a n k : ℕ) → k < a → sum_by (λ i. once (i == k)) (range_with_len a n) ≡ 0
low_number a zero k lt = refl
low_number a (suc n) k lt =
    let one = sum_by-cons (λ (i : ℕ). once (i == k)) a (range_with_len (a + 1) n) in
    let here : once (a == k) ≡ 0 = ap once (unequal a k (omega arith)) in
    let rest = low_number (a + 1) n k (omega arith) in
    omega arith

one_number : (a n k j : ℕ) → k ≡ a + j → sum_by (λ i. once (i == k)) (range_with_len a n) ≡ once (nat_lt j n)
one_number a zero k j e = sym (ap once (none_below j))
one_number a (suc n) k zero e =
    let one = sum_by-cons (λ (i : ℕ). once (i == k)) a (range_with_len (a + 1) n) in
    let here : once (a == k) ≡ 1 = ap once (equal a k (omega arith)) in
    let rest = low_number (a + 1) n k (omega arith) in
    let is : sum_by (λ (i : ℕ). once (i == k)) (range_with_len a (suc n)) ≡ 1 = omega arith in
    is ∙ sym (ap once (none_above n))
one_number a (suc n) k (suc j) e =
    let one = sum_by-cons (λ (i : ℕ). once (i == k)) a (range_with_len (a + 1) n) in
    let here : once (a == k) ≡ 0 = ap once (unequal a k (omega arith)) in
    let rest = one_number (a + 1) n k j (omega arith) in
    omega (arith, one, here) ∙ rest ∙ ap once (both_more j n)

-- ---- members of a cluster

other_cluster : (c size : ℕ) (x : ReplicaId) → c ≢ x.cluster → sum_by (λ i. once (is_same i x)) (members_of c size) ≡ 0
unfolding is_same
other_cluster c size x other =
    let make : ℕ → ReplicaId = λ index. record { cluster = c; index = index } in
    sum_map (λ (i : ReplicaId). once (is_same i x)) make (range_with_len 0 size)
    ∙ sum_same (λ (k : ℕ). once ((c == x.cluster) && (k == x.index))) (λ (k : ℕ). 0) (range_with_len 0 size)
    (λ k h. ap (λ b. once (b && (k == x.index))) (unequal c x.cluster other))
    ∙ sum_none (range_with_len 0 size)

own_cluster : (c size : ℕ) (x : ReplicaId) → c ≡ x.cluster
    → sum_by (λ i. once (is_same i x)) (members_of c size) ≡ once (nat_lt x.index size)
unfolding is_same
own_cluster c size x own =
    let make : ℕ → ReplicaId = λ index. record { cluster = c; index = index } in
    sum_map (λ (i : ReplicaId). once (is_same i x)) make (range_with_len 0 size)
    ∙ sum_same (λ (k : ℕ). once ((c == x.cluster) && (k == x.index))) (λ (k : ℕ). once (k == x.index)) (range_with_len 0 size)
    (λ k h. ap (λ b. once (b && (k == x.index))) (equal c x.cluster own))
    ∙ one_number 0 size x.index x.index (omega arith)

-- ---- of all clusters

low_cluster : (c : ℕ) (sizes : List ℕ) (x : ReplicaId) → x.cluster < c → sum_by (λ i. once (is_same i x)) (replicas_from c sizes) ≡ 0
low_cluster c [] x lt = refl
low_cluster c (size ∷ sizes) x lt =
    let both = sum_by-append (λ (i : ReplicaId). once (is_same i x)) (members_of c size) (replicas_from (c + 1) sizes) in
    let here = other_cluster c size x (omega arith) in
    let rest = low_cluster (c + 1) sizes x (omega arith) in
    omega arith

one_cluster : (c : ℕ) (sizes : List ℕ) (x : ReplicaId) (k : ℕ) → x.cluster ≡ c + k
    → sum_by (λ i. once (is_same i x)) (replicas_from c sizes) ≡ once (nat_lt x.index (slice_index sizes k))
one_cluster c [] x k e = sym (ap once (none_below x.index))
one_cluster c (size ∷ sizes) x zero e =
    let both = sum_by-append (λ (i : ReplicaId). once (is_same i x)) (members_of c size) (replicas_from (c + 1) sizes) in
    let here = own_cluster c size x (omega arith) in
    let rest = low_cluster (c + 1) sizes x (omega arith) in
    omega (arith, both, rest) ∙ here
one_cluster c (size ∷ sizes) x (suc k) e =
    let both = sum_by-append (λ (i : ReplicaId). once (is_same i x)) (members_of c size) (replicas_from (c + 1) sizes) in
    let here = other_cluster c size x (omega arith) in
    let rest = one_cluster (c + 1) sizes x k (omega arith) in
    omega (arith, both, here) ∙ rest

-- a replica is named once where it takes part, and else not
pub named_once : (script : Script) (x : ReplicaId)
    → sum_by (λ i. once (is_same i x)) (replicas_of script) ≡ once (is_replica (roster_of script) x)
named_once script x = from (nat_le 1 x.cluster) refl
  where
    index : ℕ
    index = slice_index script.sizes (x.cluster - 1)

    upto : (b : Bool) → nat_le x.cluster (length script.sizes) ≡ b → once (nat_lt x.index index) ≡ once (b && nat_lt x.index index)
    upto true e = refl
    upto false e =
        let past : length script.sizes ≤ x.cluster - 1 = grind (arith, nat_tests) in
        let size : index ≡ 0 = get_or_past script.sizes (x.cluster - 1) 0 past in
        ap (λ n. once (nat_lt x.index n)) size ∙ ap once (none_below x.index)

    from : (b : Bool) → nat_le 1 x.cluster ≡ b
        → sum_by (λ i. once (is_same i x)) (replicas_of script)
        ≡ once ((b && nat_le x.cluster (length script.sizes)) && nat_lt x.index index)
    from true e =
        let some : 1 ≤ x.cluster = grind (arith, nat_tests) in
        one_cluster 1 script.sizes x (x.cluster - 1) (omega (arith, some)) ∙ upto (nat_le x.cluster (length script.sizes)) refl
    from false e =
        let none : x.cluster < 1 = grind (arith, nat_tests) in
        low_cluster 1 script.sizes x none

-- where the test passes once in all, or never, so does a number
pub sum_once : {X : Type 0} (p : X → Bool) (n : ℕ) (b : Bool) (xs : List X) → sum_by (λ x. once (p x)) xs ≡ once b
    → sum_by (λ x. cond (p x) n 0) xs ≡ cond b n 0
sum_once p n true [] e = absurd cc
sum_once p n false [] e = refl
sum_once p n b (x ∷ xs) e = go (p x) b (sum_by-cons (λ y. once (p y)) x xs) (sum_by-cons (λ y. cond (p y) n 0) x xs) e (λ d h. sum_once p n d xs h)
  where
    go : (a c : Bool) → sum_by (λ y. once (p y)) (x ∷ xs) ≡ once a + sum_by (λ y. once (p y)) xs
        → sum_by (λ y. cond (p y) n 0) (x ∷ xs) ≡ cond a n 0 + sum_by (λ y. cond (p y) n 0) xs
        → sum_by (λ y. once (p y)) (x ∷ xs) ≡ once c
        → ((d : Bool) → sum_by (λ y. once (p y)) xs ≡ once d → sum_by (λ y. cond (p y) n 0) xs ≡ cond d n 0)
        → sum_by (λ y. cond (p y) n 0) (x ∷ xs) ≡ cond c n 0
    go true true one all e later =
        let none : sum_by (λ y. once (p y)) xs ≡ 0 = omega (arith, one, e) in
        let rest = later false none in
        omega (arith, all, rest)
    go true false one all e later = omega (arith, one, e)
    go false c one all e later =
        let same : sum_by (λ y. once (p y)) xs ≡ once c = omega (arith, one, e) in
        let rest = later c same in
        omega (arith, all, rest)
