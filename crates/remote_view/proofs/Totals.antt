-- Where no signer has more pleas that count than may, few are kept in all.
use Rattle.std.proofs.Common.{◌≡◌, ℕ, zero, suc, ◌+◌, ◌-◌, ◌*◌, ◌≤◌, ◌<◌, Bool, true, false, ◌&&◌, not, nat_eq, List, [], ◌∷◌, length, IsTrue, slice_index, get_or, replicate, refl, sym, subst, arith}
use Rattle.std.specs.List.{All, filter, count_by, sum}
use Rattle.std.proofs.lemmas.List.{get_or-replicate, length-replicate}
use Rattle.std.proofs.lemmas.List.Elements.{All-head, All-push, All-filter}
use Rattle.std.proofs.lemmas.List.Filters.{length-filter_both}
use Rattle.std.proofs.lemmas.List.Folds.{sum_by-replicate}
use Rattle.std.proofs.lemmas.List.Sums.{sum_by-cons, length-filter}
use Rattle.fab_base.specs.Limits.{Roster, IsWithinLimits}
use Rattle.fab_base.specs.Roster.{size_of, is_cluster, is_replica}
use Rattle.fab_base.specs.declared.ids.ReplicaId.{ReplicaId}
use Rattle.fab_base.specs.declared.limits.TheConstants.{MOST_MEMBERS, MOST_REPLICAS}
use Rattle.fab_base.proofs.Tests.{and_left, and_both, same, are_same}
use Rattle.remote_view.specs.declared.bounds.TheConstants.{MOST_OPEN_PLEAS}
use Rattle.remote_view.specs.declared.heard.Heard.{Heard}
use Rattle.remote_view.specs.Heard.{number_of, is_within}
use Rattle.remote_view.specs.Plights.{is_start}
use Rattle.remote_view.specs.Pleading.{Pleading, IsPleading, AreFew, fresh, rvc_of, rvc_plight, with_plea}
use Rattle.remote_view.specs.Calls.{Call, HearDrvc, HearRvc, Say, Forget, MayCome, after_call, after_calls, MayFollow}
use Rattle.remote_view.proofs.Few.{few_kept}
use Rattle.remote_view.proofs.Hearing.{some_cluster, whole_at_first}
use Rattle.remote_view.proofs.Matters.{left_all, left_of}
use Rattle.remote_view.proofs.Worth.{drvc_cases, rvc_cases, say_cases, stays}

-- ---- a list whose classes are bounded is

-- those that aren't in the first class
abbrev behind : (Heard → ℕ) → Heard → Bool
behind key h = not (nat_eq (key h) 0)

one_lower : (a b : ℕ) → not (nat_eq a 0) ≡ true → a < suc b → a - 1 < b
one_lower zero b f l = absurd cc
one_lower (suc a) b f l = omega (arith, l)

-- a class of those behind is the next one of all
next_class : (a k : ℕ) → not (nat_eq a 0) ≡ true → nat_eq (a - 1) k ≡ true → nat_eq a (suc k) ≡ true
next_class zero k f e = absurd cc
next_class (suc a) k f e = are_same (suc a) (suc k) (omega (arith, same (suc a - 1) k e))

classes : (bounds : List ℕ) (key : Heard → ℕ) (heard : List Heard) → All (λ h. key h < length bounds) heard
    → ((k : ℕ) → k < length bounds → count_by (λ h. nat_eq (key h) k) heard ≤ MOST_OPEN_PLEAS * slice_index bounds k) → length heard ≤ MOST_OPEN_PLEAS * sum bounds
classes [] key [] all few = omega arith
classes [] key (h ∷ rest) all few = absurd (omega (arith, All-head (λ x. key x < 0) h rest all))
classes (b ∷ bounds) key heard all few =
    let first : Heard → Bool = λ h. nat_eq (key h) 0 in
    let both = length-filter_both first (behind key) (λ h. refl) heard in
    let here : length (filter first heard) ≤ MOST_OPEN_PLEAS * b = (let n = length-filter first heard in let m = few 0 (omega arith) in omega (arith, n, m)) in
    let below = left_all (behind key) (λ h. key h < suc (length bounds)) (λ h. key h - 1 < length bounds) (λ h e l. one_lower (key h) (length bounds) e l) heard all in
    let later = classes bounds (λ h. key h - 1) (filter (behind key) heard) below
    (λ k l. (let n = left_of (behind key) (λ h. nat_eq (key h - 1) k) (λ h. nat_eq (key h) (suc k)) (λ h. Unit {0}) (λ h u e f. next_class (key h) k e f) heard (λ i d m. tt) in
    let m = few (suc k) (omega (arith, l)) in
    omega (arith, n, m))) in
    let sums : sum (b ∷ bounds) ≡ b + sum bounds = sum_by-cons (λ x. x) b bounds in
    omega (arith, both, here, later, sums)

-- so many members, each with no more than the most
by_member : (n : ℕ) (heard : List Heard) → All (λ h. h.member < n) heard → ((member : ℕ) → number_of heard member ≤ MOST_OPEN_PLEAS) → length heard ≤ MOST_OPEN_PLEAS * n
by_member n heard members few =
    let ones : List ℕ = replicate n 1 in
    let long : length ones ≡ n = length-replicate n 1 in
    let in_all : sum ones ≡ n * 1 = sum_by-replicate (λ x. x) n 1 in
    let bound = classes ones (λ h. h.member) heard (subst (λ k. All (λ h. h.member < k) heard) (sym long) members)
    (λ k l. (let one : slice_index ones k ≡ 1 = get_or-replicate n k 1 0 (omega (arith, l, long)) in let m = few k in omega (arith, one, m))) in
    omega (arith, bound, in_all)

-- ---- Drvcs

pub few_drvcs : (s : Pleading) → IsPleading s → AreFew s → length s.drvcs ≤ MOST_OPEN_PLEAS * MOST_MEMBERS
few_drvcs s is few =
    let own = some_cluster s.roster s.me.cluster (and_left (is_cluster s.roster s.me.cluster) _ is.me) in
    let n : ℕ = size_of s.roster s.me.cluster in
    let most = (is.limits.replicas (s.me.cluster - 1) 0 (omega (arith, own.0, own.1))).1 in
    let bound = by_member n s.drvcs is.drvcs.members few.drvcs in
    omega (arith, bound, most)

-- ---- Rvcs

-- they are about clusters, which are numbered from 1
abbrev AreOfClusters : List Heard → Type 0
AreOfClusters rvcs = All (λ h. 1 ≤ h.matter.cluster) rvcs

with_of : (starts : Bool) (rvcs : List Heard) (h : Heard) → 1 ≤ h.matter.cluster → AreOfClusters rvcs → AreOfClusters (with_plea starts rvcs h)
with_of true rvcs h l of = All-filter (λ x. not (is_within h.matter x.matter)) (λ x. 1 ≤ x.matter.cluster) rvcs of
with_of false rvcs h l of = All-push (λ x. 1 ≤ x.matter.cluster) rvcs h of l

of_stays : (s : Pleading) (call : Call) → MayCome s call → AreOfClusters s.rvcs → AreOfClusters (after_call s call).rvcs
of_stays s (HearDrvc plea) may of = drvc_cases (λ x. AreOfClusters x.rvcs) s _ of (λ fresh room. of)
of_stays s (HearRvc plea) may of =
    let l = (some_cluster s.roster plea.signer.cluster (and_left (is_cluster s.roster plea.signer.cluster) _ may.signer)).0 in
    rvc_cases (λ x. AreOfClusters x.rvcs) s (rvc_of plea) of (λ now fresh room. with_of (is_start (rvc_plight s (rvc_of plea))) s.rvcs (rvc_of plea) l of)
of_stays s (Say target round) may of = say_cases (λ x. AreOfClusters x.rvcs) s target round of (λ new. of)
of_stays s (Forget target round) may of = of

index_within : (xs : List ℕ) (i m : ℕ) → m < slice_index xs i → i < length xs
index_within [] i m l = absurd (omega arith)
index_within (x ∷ xs) zero m l = omega arith
index_within (x ∷ xs) (suc i) m l = omega (arith, index_within xs i m l)

-- an Rvc of this place's cluster and this member is one of that cluster
from_place : (c m k member : ℕ) → 1 ≤ c → nat_eq (c - 1) k ≡ true → nat_eq m member ≡ true → (nat_eq c (k + 1) && nat_eq m member) ≡ true
from_place c m k member l e f = and_both (nat_eq c (k + 1)) (nat_eq m member) (are_same c (k + 1) (omega (arith, l, same (c - 1) k e))) f

pub few_rvcs : (s : Pleading) → IsPleading s → AreFew s → AreOfClusters s.rvcs → length s.rvcs ≤ MOST_OPEN_PLEAS * MOST_REPLICAS
few_rvcs s is few of =
    let sizes : List ℕ = s.roster.sizes in
    let place : Heard → ℕ = λ h. h.matter.cluster - 1 in
    let places : All (λ h. place h < length sizes) s.rvcs = λ k d l. index_within sizes (place (get_or s.rvcs k d)) (get_or s.rvcs k d).member (is.rvcs.members k d l) in
    let bound = classes sizes place s.rvcs places (λ k l. of_place k) in
    let limit = is.limits.replicas_in_all in
    omega (arith, bound, limit)
  where
    of_place : (k : ℕ) → count_by (λ h. nat_eq (h.matter.cluster - 1) k) s.rvcs ≤ MOST_OPEN_PLEAS * slice_index s.roster.sizes k
    of_place k =
        let there : Heard → Bool = λ h. nat_eq (h.matter.cluster - 1) k in
        let members : All (λ h. h.member < slice_index s.roster.sizes k) (filter there s.rvcs) =
        left_all there (λ h. h.member < size_of s.roster h.matter.cluster) (λ h. h.member < slice_index s.roster.sizes k)
        (λ h e l. subst (λ i. h.member < slice_index s.roster.sizes i) (same (h.matter.cluster - 1) k e) l) s.rvcs is.rvcs.members in
        let each = by_member (slice_index s.roster.sizes k) (filter there s.rvcs) members
        (λ member. (let n = left_of there (λ h. nat_eq h.member member) (λ h. nat_eq h.matter.cluster (k + 1) && nat_eq h.member member) (λ h. 1 ≤ h.matter.cluster)
        (λ h l e f. from_place h.matter.cluster h.member k member l e f) s.rvcs of in
        let m = few.rvcs (k + 1) member in
        omega (arith, n, m))) in
        let counted = length-filter there s.rvcs in
        omega (arith, each, counted)

-- ---- over any calls

whole_after : (s : Pleading) (calls : List Call) → MayFollow s calls → IsPleading s → IsPleading (after_calls s calls)
whole_after s [] may is = is
whole_after s (call ∷ calls) may is = whole_after (after_call s call) calls may.1 (stays s call is may.0)

of_after : (s : Pleading) (calls : List Call) → MayFollow s calls → AreOfClusters s.rvcs → AreOfClusters (after_calls s calls).rvcs
of_after s [] may of = of
of_after s (call ∷ calls) may of = of_after (after_call s call) calls may.1 (of_stays s call may.0 of)

pub drvcs_kept : (r : Roster) (me : ReplicaId) (calls : List Call) → IsWithinLimits r → IsTrue (is_replica r me) → MayFollow (fresh r me) calls
    → length (after_calls (fresh r me) calls).drvcs ≤ MOST_OPEN_PLEAS * MOST_MEMBERS
drvcs_kept r me calls limits member may =
    few_drvcs (after_calls (fresh r me) calls) (whole_after (fresh r me) calls may (whole_at_first r me limits member)) (few_kept r me calls)

pub rvcs_kept : (r : Roster) (me : ReplicaId) (calls : List Call) → IsWithinLimits r → IsTrue (is_replica r me) → MayFollow (fresh r me) calls
    → length (after_calls (fresh r me) calls).rvcs ≤ MOST_OPEN_PLEAS * MOST_REPLICAS
rvcs_kept r me calls limits member may =
    few_rvcs (after_calls (fresh r me) calls) (whole_after (fresh r me) calls may (whole_at_first r me limits member)) (few_kept r me calls)
    (of_after (fresh r me) calls may (λ k d l. absurd (omega arith)))
