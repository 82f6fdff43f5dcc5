-- What each replica signed: a look-up by the replica, and what it has after a replica came.
use Rattle.std.proofs.Common.{◌≡◌, ◌==◌, ◌+◌, ◌-◌, ◌<◌, ◌≤◌, ℕ, Bool, true, false, cond, List, ◌∷◌, get_or, drop, length, Some, refl, sym, ap, ◌∙◌, arith}
use Rattle.std.specs.List.{list_any}
use Rattle.std.specs.Str.{bytes_eq}
use Rattle.std.specs.Map.{lookup}
use Rattle.std.specs.Ordering.{nat_cmp, ordering_then}
use Rattle.std.specs.declared.cmp.Ordering.{Ordering}
use Rattle.std.specs.Cmp.{both_tied, unsigned_ties}
use Rattle.std.specs.BTreeMap.{is_at}
use Rattle.fab_base.specs.declared.ids.ReplicaId.{ReplicaId}
use Rattle.run_words.specs.Keyed.{is_same}
use Rattle.run_words.specs.declared.logs.Trace.{Trace}
use Rattle.run_words.proofs.Keys.{same_turned, other_turned}
use Rattle.run_worlds.specs.Worlds.{is_correct_one, correct_of}
use Rattle.run_worlds.specs.Sights.{is_signed_by}
use Rattle.fabric_audit.specs.Makers.{is_within, has_signed}
use Rattle.fabric_audit.proofs.CorrectOnes.{correct_first, correct_later}

abbrev pub Sets : Type 0
Sets = List (ReplicaId × List (List ℕ))

-- by cluster, and then by index
abbrev pub order : ReplicaId → ReplicaId → Ordering
order a b = ordering_then (nat_cmp a.cluster b.cluster) (nat_cmp a.index b.index)

same_there : (i j : ReplicaId) → is_at (order i) j ≡ is_same i j
unfolding is_same
same_there i j =
    sym (both_tied (i.cluster == j.cluster) (i.index == j.index) (nat_cmp i.cluster j.cluster) (nat_cmp i.index j.index) (unsigned_ties i.cluster j.cluster) (unsigned_ties i.index j.index))

pub found : (i : ReplicaId) (sets : Sets) → lookup (is_at (order i)) sets ≡ lookup (is_same i) sets
found i sets = ap (λ (test : ReplicaId → Bool). lookup test sets) (λ k j. same_there i j k)

-- one set more
pub gained : (old new : Sets) (contents : List (List ℕ)) (signer : ReplicaId)
    → ((i : ReplicaId) → lookup (is_at (order i)) new ≡ cond (is_at (order signer) i) (Some contents) (lookup (is_at (order i)) old))
    → (i : ReplicaId) (x : List ℕ) → has_signed new i x ≡ cond (is_same i signer) (list_any (bytes_eq x) contents) (has_signed old i x)
gained old new contents signer put i x =
    ap (λ o. is_within o x)
    (sym (found i new) ∙ put i ∙ ap (λ b. cond b (Some contents) (lookup (is_at (order i)) old)) (same_there signer i)
    ∙ ap (λ o. cond (is_same signer i) (Some contents) o) (found i old))
    ∙ by (is_same signer i) refl
  where
    by : (b : Bool) → is_same signer i ≡ b
        → is_within (cond b (Some contents) (lookup (is_same i) old)) x ≡ cond (is_same i signer) (list_any (bytes_eq x) contents) (has_signed old i x)
    by true e = sym (ap (λ b. cond b (list_any (bytes_eq x) contents) (has_signed old i x)) (same_turned signer i e))
    by false e = sym (ap (λ b. cond b (list_any (bytes_eq x) contents) (has_signed old i x)) (other_turned signer i e))

-- these are the sets of the correct ones of the traces from this place on
abbrev pub AreOfLast : List Trace → ℕ → Sets → Type 0
AreOfLast traces left sets = (i : ReplicaId) (x : List ℕ) → has_signed sets i x ≡ is_signed_by (correct_of (drop left traces)) i x

-- with that of a correct trace more
pub gained_last : (traces : List Trace) (left : ℕ) (old new : Sets) (contents : List (List ℕ)) (t : Trace)
    → 0 < left → left ≤ length traces → t ≡ get_or traces (left - 1) t → is_correct_one t ≡ true
    → ((x : List ℕ) → list_any (bytes_eq x) contents ≡ list_any (bytes_eq x) t.signed)
    → ((i : ReplicaId) (x : List ℕ) → has_signed new i x ≡ cond (is_same i t.id) (list_any (bytes_eq x) contents) (has_signed old i x))
    → AreOfLast traces left old → AreOfLast traces (left - 1) new
gained_last traces left old new contents t some within is correct set put before i x =
    let below : left - 1 < length traces = omega arith in
    let next : left - 1 + 1 ≡ left = omega arith in
    put i x
    ∙ ap (λ b. cond (is_same i t.id) b (has_signed old i x)) (set x)
    ∙ ap (λ b. cond (is_same i t.id) (list_any (bytes_eq x) t.signed) b) (before i x)
    ∙ ap (λ n. is_signed_by (t ∷ correct_of (drop n traces)) i x) (sym next)
    ∙ ap (λ l. is_signed_by l i x) (sym (correct_first traces (left - 1) t below is correct))

-- a faulty one has none
pub same_last : (traces : List Trace) (left : ℕ) (sets : Sets) (t : Trace)
    → 0 < left → left ≤ length traces → t ≡ get_or traces (left - 1) t → is_correct_one t ≡ false
    → AreOfLast traces left sets → AreOfLast traces (left - 1) sets
same_last traces left sets t some within is faulty before i x =
    let below : left - 1 < length traces = omega arith in
    let next : left - 1 + 1 ≡ left = omega arith in
    before i x
    ∙ ap (λ n. is_signed_by (correct_of (drop n traces)) i x) (sym next)
    ∙ ap (λ l. is_signed_by l i x) (sym (correct_later traces (left - 1) t below is faulty))
