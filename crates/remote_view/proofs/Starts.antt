-- Start is answered once to a cluster and a count: its started count is above it from then on.
use Rattle.std.proofs.Common.{◌≡◌, ℕ, ◌+◌, ◌-◌, ◌≤◌, ◌<◌, Bool, true, false, ◌&&◌, nat_eq, nat_lt, max, slice_index, List, refl, sym, ap, subst, ◌∙◌, arith}
use Rattle.std.proofs.lemmas.Bool.Decides.{nat_tests}
use Rattle.fab_base.proofs.Tests.{and_left, and_right, same}
use Rattle.remote_view.specs.declared.heard.Matter.{Matter}
use Rattle.remote_view.specs.declared.heard.Heard.{Heard}
use Rattle.remote_view.specs.declared.plight.Plight.{Plight}
use Rattle.remote_view.specs.declared.plight.Plight.TheVariants.{Kept, Twice, Past, Join, Send, Start}
use Rattle.remote_view.specs.Plights.{is_start}
use Rattle.remote_view.specs.Pleading.{Pleading, drvc_of, rvc_of, started_count, raised, is_past, rvc_plight, with_rvc, after_rvc}
use Rattle.remote_view.specs.Calls.{Call, HearDrvc, HearRvc, Say, Forget, after_call, starts, times}
use Rattle.remote_view.proofs.Counts.{least_there, no_less}
use Rattle.remote_view.proofs.Hearing.{after_counted_rvc}
use Rattle.remote_view.proofs.Once.{Marks, Leave, at_most_once, not_so}
use Rattle.remote_view.proofs.Worth.{drvc_cases, rvc_cases, say_cases, started}

lt_more : (n a b : ℕ) → nat_lt n a ≡ true → a ≤ b → nat_lt n b ≡ true
lt_more n a b h l = grind (arith, nat_tests)

above : (n a : ℕ) → n < a → nat_lt n a ≡ true
above n a h = grind (arith, nat_tests)

abbrev is_started : ℕ → ℕ → Pleading → Bool
is_started cluster count s = nat_lt count (started_count s cluster)

-- whether a plea is of this cluster and count
abbrev is_about : ℕ → ℕ → Heard → Bool
is_about cluster count h = nat_eq h.matter.cluster cluster && nat_eq h.matter.count count

pub is_starting : (p : Plight) → is_start p ≡ true → p ≡ Start
is_starting Start h = refl
is_starting Kept h = absurd cc
is_starting Twice h = absurd cc
is_starting (Past at) h = absurd cc
is_starting Join h = absurd cc
is_starting (Send join) h = absurd cc

-- the counts don't fall
raised_no_less : (t : Bool) (counts : List ℕ) (matter : Matter) (place : ℕ) → slice_index counts place ≤ slice_index (raised t counts matter) place
raised_no_less true counts matter place = no_less counts (matter.cluster - 1) (matter.count + 1) place
raised_no_less false counts matter place = omega arith

rvc_started : (s : Pleading) (h : Heard) (cluster count : ℕ) → is_started cluster count s ≡ true → is_started cluster count (after_rvc s h) ≡ true
rvc_started s h cluster count d =
    rvc_cases (λ x. is_started cluster count x ≡ true) s h d
    (λ now fresh room. lt_more count (started_count s cluster) _ d (raised_no_less (is_start (rvc_plight s h)) s.started h.matter (cluster - 1)))

-- a plea of the cluster and the count, that starts
starting : (s : Pleading) (h : Heard) (cluster count : ℕ) → (is_about cluster count h && is_start (rvc_plight s h)) ≡ true
    → (h.matter.cluster ≡ cluster) × (h.matter.count ≡ count) × (rvc_plight s h ≡ Start)
starting s h cluster count e =
    let about : is_about cluster count h ≡ true = and_left (is_about cluster count h) (is_start (rvc_plight s h)) e in (
      same h.matter.cluster cluster (and_left (nat_eq h.matter.cluster cluster) (nat_eq h.matter.count count) about),
      same h.matter.count count (and_right (nat_eq h.matter.cluster cluster) (nat_eq h.matter.count count) about),
      is_starting (rvc_plight s h) (and_right (is_about cluster count h) (is_start (rvc_plight s h)) e),
    )

start_stops : (s : Pleading) (h : Heard) (cluster count : ℕ) → is_started cluster count s ≡ true → (is_about cluster count h && is_start (rvc_plight s h)) ≡ false
start_stops s h cluster count d = not_so (is_about cluster count h && is_start (rvc_plight s h)) (λ e.
    let at = starting s h cluster count e in
    let past : is_past s h ≡ true = ap (λ n. nat_lt n (started_count s h.matter.cluster)) at.1 ∙ (ap (λ c. nat_lt count (started_count s c)) at.0 ∙ d) in
    sym past ∙ (started s h at.2).0)

start_marks : (s : Pleading) (h : Heard) (cluster count : ℕ) → (is_about cluster count h && is_start (rvc_plight s h)) ≡ true
    → is_started cluster count (after_rvc s h) ≡ true
start_marks s h cluster count e =
    let at = starting s h cluster count e in
    let of = started s h at.2 in
    let place : ℕ = h.matter.cluster - 1 in
    let raise : slice_index (with_rvc s h Start).started place ≡ max (slice_index s.started place) (h.matter.count + 1) = least_there s.started place (h.matter.count + 1) in
    let own : is_started h.matter.cluster h.matter.count (with_rvc s h Start) ≡ true = above h.matter.count _ (omega (arith, raise)) in
    let now : after_rvc s h ≡ with_rvc s h Start = after_counted_rvc s h of.0 of.1 of.2 ∙ ap (with_rvc s h) at.2 in
    subst (λ x. is_started cluster count x ≡ true) (sym now)
    (subst (λ c. is_started c count (with_rvc s h Start) ≡ true) at.0 (subst (λ n. is_started h.matter.cluster n (with_rvc s h Start) ≡ true) at.1 own))

start_marked : (cluster count : ℕ) → Marks (λ call. false) (λ call. true) (starts cluster count) (is_started cluster count)
start_marked cluster count = record {
  stops = λ s call d. elim call as (λ x. starts cluster count s x ≡ false) [
    | HearDrvc plea ↦ refl
    | HearRvc plea ↦ start_stops s (rvc_of plea) cluster count d
    | Say target round ↦ refl
    | Forget target round ↦ refl
  ];
  stays = λ s call d e. elim call as (λ x. is_started cluster count (after_call s x) ≡ true) [
    | HearDrvc plea ↦ drvc_cases (λ x. is_started cluster count x ≡ true) s (drvc_of plea) d (λ fresh room. d)
    | HearRvc plea ↦ rvc_started s (rvc_of plea) cluster count d
    | Say target round ↦ say_cases (λ x. is_started cluster count x ≡ true) s target round d (λ new. d)
    | Forget target round ↦ d
  ];
  marks = λ s call. elim call as (λ x. starts cluster count s x ≡ true → is_started cluster count (after_call s x) ≡ true) [
    | HearDrvc plea ↦ (λ e. absurd cc)
    | HearRvc plea ↦ (λ e. start_marks s (rvc_of plea) cluster count e)
    | Say target round ↦ (λ e. absurd cc)
    | Forget target round ↦ (λ e. absurd cc)
  ];
  asks = λ s call e. refl;
}

-- no call lets it go
kept_so : Leave (λ call. false) (λ call. true) (λ calls. Unit {0})
kept_so = record { later = λ call calls h. tt; gone = λ call calls h e. absurd cc }

pub starts_once : (s : Pleading) (calls : List Call) (cluster count : ℕ) → times (starts cluster count) s calls ≤ 1
starts_once s calls cluster count =
    at_most_once (λ call. false) (λ call. true) (λ x. Unit {0}) (starts cluster count) (is_started cluster count) kept_so (start_marked cluster count) s calls tt
