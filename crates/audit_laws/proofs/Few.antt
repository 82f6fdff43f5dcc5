-- No more members of a cluster are faulty than fault lines name it.
use Rattle.std.proofs.Common.{◌≡◌, ℕ, zero, suc, ◌+◌, ◌<◌, ◌≤◌, nat_le, nat_eq, Bool, true, false, cond, ◌||◌, List, [], ◌∷◌, length, Option, Some, refl, sym, ap, subst, arith}
use Rattle.std.specs.Prelude.{slice_index}
use Rattle.std.specs.List.{count_by}
use Rattle.std.specs.Option.{is_some}
use Rattle.std.proofs.lemmas.Bool.Decides.{nat_tests}
use Rattle.std.proofs.lemmas.List.Sums.{sum_by-cons}
use Rattle.fab_base.specs.Quorums.{one_if, count_members, greatest_faulty}
use Rattle.fab_base.specs.declared.ids.ReplicaId.{ReplicaId}
use Rattle.fab_base.proofs.Tests.{and_both, is_at_most}
use Rattle.fault_script.specs.declared.scripts.Script.{Script}
use Rattle.run_words.specs.Keyed.{is_same}
use Rattle.fault_script.specs.declared.twists.Fault.{Fault}
use Rattle.run_words.proofs.Keys.{same_is}
use Rattle.fault_script.specs.declared.twists.FaultLine.{FaultLine}
use Rattle.run_worlds.specs.Troubles.{faults_of, fault_in, is_faulty, are_few}
use Rattle.audit_laws.specs.Laws.{lines_of_cluster, FewLaw}

abbrev member : ℕ → ℕ → ReplicaId
member c k = record { cluster = c; index = k }

-- ---- members of whom one of two things is so

either_less : (a b : Bool) → one_if (a || b) ≤ one_if a + one_if b
either_less true b = omega arith
either_less false b = omega arith

count_either : (n : ℕ) (p q s : ℕ → Bool) → ((k : ℕ) → s k ≡ (p k || q k)) → count_members n s ≤ count_members n p + count_members n q
count_either zero p q s h = omega arith
count_either (suc n) p q s h =
    let here : one_if (s n) ≡ one_if (p n || q n) = ap one_if (h n) in
    let less = either_less (p n) (q n) in
    let rest = count_either n p q s h in
    omega (arith, here, less, rest)

-- no number is met twice
count_none : (n : ℕ) (p : ℕ → Bool) → ((k : ℕ) → k < n → p k ≡ false) → count_members n p ≡ 0
count_none zero p h = refl
count_none (suc n) p h =
    let here : one_if (p n) ≡ 0 = ap one_if (h n (omega arith)) in
    let rest = count_none n p (λ k lt. h k (omega (arith, lt))) in
    omega (arith, here, rest)

at_most_one : (b : Bool) → one_if b ≤ 1
at_most_one true = omega arith
at_most_one false = omega arith

-- where the test is true of one number alone
count_one : (n x : ℕ) (p : ℕ → Bool) → ((k : ℕ) → p k ≡ true → k ≡ x) → count_members n p ≤ 1
count_one zero x p h = omega arith
count_one (suc n) x p h = go (count_one n x p h) (p n) refl
  where
    other : p n ≡ true → (k : ℕ) → k < n → (b : Bool) → p k ≡ b → b ≡ false
    other e k lt true q = absurd (let a = h n e in let c = h k q in omega (arith, a, c, lt))
    other e k lt false q = refl

    go : count_members n p ≤ 1 → (b : Bool) → p n ≡ b → count_members (suc n) p ≤ 1
    go rest true e =
        let none = count_none n p (λ k lt. other e k lt (p k) refl) in
        let here = at_most_one (p n) in
        omega (arith, none, here)
    go rest false e = let here : one_if (p n) ≡ 0 = ap one_if e in omega (arith, here, rest)

-- ---- one line

abbrev names_it : ℕ → FaultLine → ℕ → Bool
names_it c line k = is_same (member c k) line.replica

abbrev is_of : ℕ → FaultLine → Bool
is_of c line = nat_eq line.replica.cluster c

one_line : (n c : ℕ) (line : FaultLine) → count_members n (names_it c line) ≤ one_if (is_of c line)
one_line n c line = go (is_of c line) refl
  where
    index : (k : ℕ) → names_it c line k ≡ true → k ≡ line.replica.index
    index k e = ap (λ (i : ReplicaId). i.index) (same_is (member c k) line.replica e)

    cluster : (k : ℕ) → names_it c line k ≡ true → c ≡ line.replica.cluster
    cluster k e = ap (λ (i : ReplicaId). i.cluster) (same_is (member c k) line.replica e)

    differ : is_of c line ≡ false → c ≡ line.replica.cluster → ⊥
    differ f e = let t : nat_eq line.replica.cluster c ≡ true = same (sym e) in absurd cc
      where
        same : line.replica.cluster ≡ c → nat_eq line.replica.cluster c ≡ true
        same q = grind (arith, nat_tests)

    none : is_of c line ≡ false → (k : ℕ) (b : Bool) → names_it c line k ≡ b → b ≡ false
    none f k true e = absurd (differ f (cluster k e))
    none f k false e = refl

    go : (b : Bool) → is_of c line ≡ b → count_members n (names_it c line) ≤ one_if b
    go true e = count_one n line.replica.index (names_it c line) index
    go false e = let z = count_none n (names_it c line) (λ k lt. none e k (names_it c line k) refl) in omega (arith, z)

-- ---- all of them

abbrev as_one : Bool → ℕ
as_one b = cond b 1 0

named_or : (b : Bool) (f : Fault) (o : Option Fault) → is_some (cond b (Some f) o) ≡ (b || is_some o)
named_or true f o = refl
named_or false f o = refl

count_lines : (n c : ℕ) (lines : List FaultLine) → count_members n (λ k. is_some (fault_in lines (member c k))) ≤ count_by (is_of c) lines
count_lines n c [] = let z = count_none n (λ k. false) (λ k lt. refl) in omega (arith, z)
count_lines n c (line ∷ rest) =
    let both = count_either n (names_it c line) (λ k. is_some (fault_in rest (member c k))) (λ k. is_some (fault_in (line ∷ rest) (member c k)))
    (λ k. named_or (names_it c line k) line.fault (fault_in rest (member c k))) in
    let one = one_line n c line in
    let later = count_lines n c rest in
    let more : count_by (is_of c) (line ∷ rest) ≡ as_one (is_of c line) + count_by (is_of c) rest = sum_by-cons (λ (x : FaultLine). as_one (is_of c x)) line rest in
    let same = same_one (is_of c line) in
    omega (arith, both, one, later, more, same)
  where
    same_one : (b : Bool) → as_one b ≡ one_if b
    same_one true = refl
    same_one false = refl

few_from : (script : Script) (c : ℕ) (sizes : List ℕ)
    → ((k : ℕ) → k < length sizes → lines_of_cluster script (c + k) ≤ greatest_faulty (slice_index sizes k)) → are_few script c sizes ≡ true
few_from script c [] h = refl
few_from script c (n ∷ sizes) h =
    let count = count_members n (λ k. is_faulty script (record { cluster = c; index = k })) in
    let lines = count_lines n c (faults_of script) in
    let few : lines_of_cluster script c ≤ greatest_faulty n =
    subst (λ (d : ℕ). lines_of_cluster script d ≤ greatest_faulty n) (let e : c + 0 ≡ c = omega arith in e) (h 0 (omega arith)) in
    and_both (nat_le count (greatest_faulty n)) (are_few script (c + 1) sizes) (is_at_most count (greatest_faulty n) (omega (arith, lines, few)))
    (few_from script (c + 1) sizes
    (λ k lt. subst (λ (d : ℕ). lines_of_cluster script d ≤ greatest_faulty (slice_index sizes k)) (let e : c + suc k ≡ c + 1 + k = omega arith in e)
    (h (suc k) (omega (arith, lt)))))

pub few_by_lines : FewLaw
few_by_lines script h = few_from script 1 script.sizes (λ k lt. h k lt)
