-- What the calls make of the counts: each answer Send or Start raises one, and nothing else does.
use Rattle.std.proofs.Common.{◌≡◌, ◌≢◌, ℕ, ◌+◌, ◌-◌, ◌≤◌, Bool, true, false, ◌&&◌, cond, nat_eq, nat_le, max, slice_index, List, [], ◌∷◌, length, refl, ap, subst, ◌∙◌, arith}
use Rattle.std.proofs.lemmas.Bool.Decides.{nat_tests}
use Rattle.fab_base.specs.Roster.{is_cluster}
use Rattle.fab_base.proofs.Tests.{and_left, at_most, same}
use Rattle.remote_view.specs.declared.heard.Matter.{Matter}
use Rattle.remote_view.specs.declared.heard.Heard.{Heard}
use Rattle.remote_view.specs.declared.plight.Plight.TheVariants.{Send, Start}
use Rattle.remote_view.specs.Plights.{is_send, is_start}
use Rattle.remote_view.specs.Pleading.{Pleading, present_count, started_count, raised, drvc_of, rvc_of, drvc_plight, with_drvc, after_drvc, rvc_plight, with_rvc, after_rvc}
use Rattle.remote_view.specs.Calls.{Call, HearDrvc, HearRvc, Say, Forget, MayCome, after_call, after_calls, MayFollow, sent_with, started_with, greatest}
use Rattle.remote_view.proofs.Counts.{least_there, least_elsewhere}
use Rattle.remote_view.proofs.Hearing.{after_counted_drvc, after_counted_rvc}
use Rattle.remote_view.proofs.Sends.{is_sending}
use Rattle.remote_view.proofs.Starts.{is_starting}
use Rattle.remote_view.proofs.Worth.{drvc_cases, rvc_cases, say_cases, sent, started}

apart : (a b : ℕ) → nat_eq a b ≡ false → a ≢ b
apart a b h = grind (arith, nat_tests)

-- the count of a cluster, where another's or its own is raised
raised_there : (counts : List ℕ) (matter : Matter) (cluster : ℕ) → 1 ≤ cluster → 1 ≤ matter.cluster
    → slice_index (raised true counts matter) (cluster - 1) ≡ max (slice_index counts (cluster - 1)) (cond (nat_eq matter.cluster cluster && true) (matter.count + 1) 0)
raised_there counts matter cluster s t = go (nat_eq matter.cluster cluster) refl
  where
    go : (b : Bool) → nat_eq matter.cluster cluster ≡ b → slice_index (raised true counts matter) (cluster - 1)
        ≡ max (slice_index counts (cluster - 1)) (cond (b && true) (matter.count + 1) 0)
    go true e =
        subst (λ c. slice_index (raised true counts matter) (c - 1) ≡ max (slice_index counts (c - 1)) (matter.count + 1)) (same matter.cluster cluster e)
        (least_there counts (matter.cluster - 1) (matter.count + 1))
    go false e =
        let other = least_elsewhere counts (matter.cluster - 1) (cluster - 1) (matter.count + 1)
        (λ q. let m : matter.cluster ≡ cluster = omega (arith, q, s, t) in apart matter.cluster cluster e m) in
        omega (arith, other)

-- no answer of that kind raises none
unraised : (b : Bool) (count now least : ℕ) → now ≡ count → now ≡ max count (cond (b && false) least 0)
unraised true count now least e = omega arith
unraised false count now least e = omega arith

some_cluster : (clusters c : ℕ) → (nat_le 1 c && nat_le c clusters) ≡ true → 1 ≤ c
some_cluster clusters c h = at_most 1 c (and_left (nat_le 1 c) (nat_le c clusters) h)

-- ---- the present counts

drvc_raises : (s : Pleading) (h : Heard) (target : ℕ) → 1 ≤ target → 1 ≤ h.matter.cluster
    → present_count (after_drvc s h) target ≡ max (present_count s target) (cond (nat_eq h.matter.cluster target && is_send (drvc_plight s h)) (h.matter.count + 1) 0)
drvc_raises s h target l m = go (is_send (drvc_plight s h)) refl
  where
    go : (t : Bool) → is_send (drvc_plight s h) ≡ t
        → present_count (after_drvc s h) target ≡ max (present_count s target) (cond (nat_eq h.matter.cluster target && t) (h.matter.count + 1) 0)
    go true e =
        let sending = is_sending (drvc_plight s h) e in
        let of = sent s h sending.0 sending.1 in
        let now : after_drvc s h ≡ with_drvc s h (Send sending.0) = after_counted_drvc s h of.0 of.1 ∙ ap (with_drvc s h) sending.1 in
        ap (λ x. present_count x target) now ∙ raised_there s.counts h.matter target l m
    go false e =
        let same_count : present_count (after_drvc s h) target ≡ present_count s target =
        drvc_cases (λ x. present_count x target ≡ present_count s target) s h refl (λ fresh room. ap (λ t. slice_index (raised t s.counts h.matter) (target - 1)) e) in
        unraised (nat_eq h.matter.cluster target) (present_count s target) _ (h.matter.count + 1) same_count

none_raised : (count now : ℕ) → now ≡ count → now ≡ max count 0
none_raised count now e = omega arith

call_presents : (s : Pleading) (call : Call) (target : ℕ) → 1 ≤ target → MayCome s call
    → present_count (after_call s call) target ≡ max (present_count s target) (sent_with target s call)
call_presents s (HearDrvc plea) target l may = drvc_raises s (drvc_of plea) target l (some_cluster (length s.roster.sizes) plea.target may.target)
call_presents s (HearRvc plea) target l may =
    none_raised (present_count s target) _ (rvc_cases (λ x. present_count x target ≡ present_count s target) s (rvc_of plea) refl (λ now fresh room. refl))
call_presents s (Say t r) target l may =
    none_raised (present_count s target) _ (say_cases (λ x. present_count x target ≡ present_count s target) s t r refl (λ new. refl))
call_presents s (Forget t r) target l may = none_raised (present_count s target) _ refl

pub presents : (s : Pleading) (calls : List Call) (target : ℕ) → 1 ≤ target → MayFollow s calls
    → present_count (after_calls s calls) target ≡ max (present_count s target) (greatest (sent_with target) s calls)
presents s [] target l may = none_raised (present_count s target) _ refl
presents s (call ∷ calls) target l may =
    let later = presents (after_call s call) calls target l may.1 in
    let here = call_presents s call target l may.0 in
    omega (arith, later, here)

-- ---- the started counts

rvc_raises : (s : Pleading) (h : Heard) (cluster : ℕ) → 1 ≤ cluster → 1 ≤ h.matter.cluster
    → started_count (after_rvc s h) cluster ≡ max (started_count s cluster) (cond (nat_eq h.matter.cluster cluster && is_start (rvc_plight s h)) (h.matter.count + 1) 0)
rvc_raises s h cluster l m = go (is_start (rvc_plight s h)) refl
  where
    go : (t : Bool) → is_start (rvc_plight s h) ≡ t
        → started_count (after_rvc s h) cluster ≡ max (started_count s cluster) (cond (nat_eq h.matter.cluster cluster && t) (h.matter.count + 1) 0)
    go true e =
        let starting = is_starting (rvc_plight s h) e in
        let of = started s h starting in
        let now : after_rvc s h ≡ with_rvc s h Start = after_counted_rvc s h of.0 of.1 of.2 ∙ ap (with_rvc s h) starting in
        ap (λ x. started_count x cluster) now ∙ raised_there s.started h.matter cluster l m
    go false e =
        let same_count : started_count (after_rvc s h) cluster ≡ started_count s cluster =
        rvc_cases (λ x. started_count x cluster ≡ started_count s cluster) s h refl (λ now fresh room. ap (λ t. slice_index (raised t s.started h.matter) (cluster - 1)) e) in
        unraised (nat_eq h.matter.cluster cluster) (started_count s cluster) _ (h.matter.count + 1) same_count

call_starts : (s : Pleading) (call : Call) (cluster : ℕ) → 1 ≤ cluster → MayCome s call
    → started_count (after_call s call) cluster ≡ max (started_count s cluster) (started_with cluster s call)
call_starts s (HearDrvc plea) cluster l may =
    none_raised (started_count s cluster) _ (drvc_cases (λ x. started_count x cluster ≡ started_count s cluster) s (drvc_of plea) refl (λ fresh room. refl))
call_starts s (HearRvc plea) cluster l may =
    rvc_raises s (rvc_of plea) cluster l (some_cluster (length s.roster.sizes) plea.signer.cluster (and_left (is_cluster s.roster plea.signer.cluster) _ may.signer))
call_starts s (Say t r) cluster l may =
    none_raised (started_count s cluster) _ (say_cases (λ x. started_count x cluster ≡ started_count s cluster) s t r refl (λ new. refl))
call_starts s (Forget t r) cluster l may = none_raised (started_count s cluster) _ refl

pub start_counts : (s : Pleading) (calls : List Call) (cluster : ℕ) → 1 ≤ cluster → MayFollow s calls
    → started_count (after_calls s calls) cluster ≡ max (started_count s cluster) (greatest (started_with cluster) s calls)
start_counts s [] cluster l may = none_raised (started_count s cluster) _ refl
start_counts s (call ∷ calls) cluster l may =
    let later = start_counts (after_call s call) calls cluster l may.1 in
    let here = call_starts s call cluster l may.0 in
    omega (arith, later, here)
