-- Letting go changes no answer, where the signer isn't at its limit.
use Rattle.std.proofs.Common.{◌≡◌, ℕ, ◌+◌, ◌-◌, ◌≤◌, Bool, true, false, ◌&&◌, not, cond, nat_eq, nat_le, nat_lt, max, slice_index, Some, None, List, [], ◌∷◌, ◌++◌, append-nil, refl, sym, ap, subst, ◌∙◌, arith}
use Rattle.std.specs.List.{filter}
use Rattle.std.proofs.lemmas.Bool.Decides.{nat_tests}
use Rattle.std.proofs.lemmas.List.Elements.{filter-append}
use Rattle.fab_base.proofs.Tests.{and_both, same, is_same, is_at_most}
use Rattle.remote_view.specs.declared.bounds.TheConstants.{MOST_OPEN_PLEAS}
use Rattle.remote_view.specs.declared.heard.Matter.{Matter}
use Rattle.remote_view.specs.declared.heard.Heard.{Heard}
use Rattle.remote_view.specs.declared.plight.Plight.{Plight}
use Rattle.remote_view.specs.declared.plight.Plight.TheVariants.{Kept, Twice, Past, Start}
use Rattle.remote_view.specs.Heard.{has_matter, was_heard, number_on, number_of, number_from, is_on, is_within}
use Rattle.remote_view.specs.Plights.{drvc_plight_at, rvc_plight_at}
use Rattle.remote_view.specs.Pleading.{Pleading, quorum_of, some_correct, present_count, started_count, drvcs_are_full, drvc_plight, own_matter, say_answer, is_past, rvcs_are_full, rvc_plight, with_rvc, after_rvc, after_forgetting}
use Rattle.remote_view.specs.Forgetting.{without_past, hoarding}
use Rattle.remote_view.proofs.Counts.{least_there}
use Rattle.remote_view.proofs.Forgetting.{number_stays, heard_stays, said_stays}
use Rattle.remote_view.proofs.Hearing.{after_counted_rvc}
use Rattle.remote_view.proofs.Matters.{no_more_of}
use Rattle.remote_view.proofs.Worth.{started}

-- a signer with fewer pleas has room all the more
still_room : (most a b : ℕ) → a ≤ b → nat_le most b ≡ false → nat_le most a ≡ false
still_room most a b l h = grind (arith, nat_tests)

-- ---- Drvcs and sayings

pub heard_elsewhere : (s : Pleading) (target round : ℕ) (plea : Heard) → is_on target round plea.matter ≡ false
    → was_heard (after_forgetting s target round).drvcs plea ≡ was_heard s.drvcs plea
heard_elsewhere s target round plea other = heard_stays (λ m. not (is_on target round m)) s.drvcs plea (ap not other)

pub said_elsewhere : (s : Pleading) (target round : ℕ) (matter : Matter) → is_on target round matter ≡ false
    → has_matter (after_forgetting s target round).said matter ≡ has_matter s.said matter
said_elsewhere s target round matter other = said_stays (λ m. not (is_on target round m)) s.said matter (ap not other)

pub drvc_elsewhere : (s : Pleading) (target round : ℕ) (plea : Heard) → is_on target round plea.matter ≡ false → drvcs_are_full s plea ≡ false
    → drvc_plight (after_forgetting s target round) plea ≡ drvc_plight s plea
drvc_elsewhere s target round plea other room =
    let now : Pleading = after_forgetting s target round in
    let at : Bool → Bool → Bool → ℕ → Plight = λ twice full said number.
    cond twice Twice (cond full Kept (drvc_plight_at (quorum_of s) (some_correct s s.me.cluster) said (number + 1))) in
    let fewer = no_more_of (λ h. nat_eq h.member plea.member) (λ h. not (is_on target round h.matter)) s.drvcs in
    let has_room : drvcs_are_full now plea ≡ false = still_room MOST_OPEN_PLEAS (number_of now.drvcs plea.member) (number_of s.drvcs plea.member) fewer room in
    ap (λ b. at b (drvcs_are_full now plea) (has_matter now.said plea.matter) (number_on now.drvcs plea.matter)) (heard_elsewhere s target round plea other)
    ∙ (ap (λ b. at (was_heard s.drvcs plea) b (has_matter now.said plea.matter) (number_on now.drvcs plea.matter)) (has_room ∙ sym room)
    ∙ (ap (λ b. at (was_heard s.drvcs plea) (drvcs_are_full s plea) b (number_on now.drvcs plea.matter)) (said_elsewhere s target round plea.matter other)
    ∙ ap (λ n. at (was_heard s.drvcs plea) (drvcs_are_full s plea) (has_matter s.said plea.matter) n)
    (number_stays (λ m. not (is_on target round m)) s.drvcs plea.matter (ap not other))))

pub say_elsewhere : (s : Pleading) (target round other_target other_round : ℕ) → is_on target round (own_matter s other_target other_round) ≡ false
    → say_answer (after_forgetting s target round) other_target other_round ≡ say_answer s other_target other_round
say_elsewhere s target round other_target other_round other =
    ap (λ t. cond t None (Some (present_count s other_target))) (said_elsewhere s target round (own_matter s other_target other_round) other)

-- ---- Rvcs

-- by fewer Rvcs an Rvc is answered alike, where all on its matter are left
abbrev fewer_rvcs : Pleading → (Matter → Bool) → Pleading
fewer_rvcs s is_left = record s { rvcs = filter (λ h. is_left h.matter) s.rvcs }

rvc_alike : (s : Pleading) (is_left : Matter → Bool) (plea : Heard) → is_left plea.matter ≡ true → rvcs_are_full s plea ≡ false
    → rvc_plight (fewer_rvcs s is_left) plea ≡ rvc_plight s plea
rvc_alike s is_left plea left room =
    let now : Pleading = fewer_rvcs s is_left in
    let at : Bool → Bool → ℕ → Plight = λ twice full number.
    cond (is_past s plea) (Past (started_count s plea.matter.cluster)) (cond twice Twice (cond full Kept (rvc_plight_at (some_correct s plea.matter.cluster) (number + 1)))) in
    let fewer = no_more_of (λ h. nat_eq h.matter.cluster plea.matter.cluster && nat_eq h.member plea.member) (λ h. is_left h.matter) s.rvcs in
    let has_room : rvcs_are_full now plea ≡ false =
    still_room MOST_OPEN_PLEAS (number_from now.rvcs plea.matter.cluster plea.member) (number_from s.rvcs plea.matter.cluster plea.member) fewer room in
    ap (λ b. at b (rvcs_are_full now plea) (number_on now.rvcs plea.matter)) (heard_stays is_left s.rvcs plea left)
    ∙ (ap (λ b. at (was_heard s.rvcs plea) b (number_on now.rvcs plea.matter)) (has_room ∙ sym room)
    ∙ ap (λ n. at (was_heard s.rvcs plea) (rvcs_are_full s plea) n) (number_stays is_left s.rvcs plea.matter left))

-- one that is past is answered so whatever counts
answered_past : (s : Pleading) (plea : Heard) → is_past s plea ≡ true → rvc_plight s plea ≡ Past (started_count s plea.matter.cluster)
answered_past s plea e =
    ap (λ t. cond t (Past (started_count s plea.matter.cluster)) (cond (was_heard s.rvcs plea) Twice (cond (rvcs_are_full s plea) Kept
    (rvc_plight_at (some_correct s plea.matter.cluster) (number_on s.rvcs plea.matter + 1))))) e

past_alike : (s : Pleading) (rvcs : List Heard) (plea : Heard) → is_past s plea ≡ true → rvc_plight (record s { rvcs = rvcs }) plea ≡ rvc_plight s plea
past_alike s rvcs plea e = answered_past (record s { rvcs = rvcs }) plea e ∙ sym (answered_past s plea e)

pub past_stays_so : (s : Pleading) (plea : Heard) → rvcs_are_full s plea ≡ false → rvc_plight (without_past s) plea ≡ rvc_plight s plea
past_stays_so s plea room = go (is_past s plea) refl
  where
    go : (t : Bool) → is_past s plea ≡ t → rvc_plight (without_past s) plea ≡ rvc_plight s plea
    go true e = past_alike s (without_past s).rvcs plea e
    go false e = rvc_alike s (λ m. not (is_past s (record { member = 0; matter = m }))) plea (ap not e) room

-- ---- what a Start lets go

-- what isn't past after it stays
beyond : (last matter : Matter) (count : ℕ) → last.count + 1 ≤ count → nat_lt matter.count count ≡ false → nat_le matter.count last.count ≡ false
beyond last matter count l h = grind (arith, nat_tests)

not_within : (s : Pleading) (plea other : Heard) → is_past (with_rvc s plea Start) other ≡ false → not (is_within plea.matter other.matter) ≡ true
not_within s plea other e = go (nat_eq other.matter.cluster plea.matter.cluster) refl
  where
    go : (t : Bool) → nat_eq other.matter.cluster plea.matter.cluster ≡ t → not (t && nat_le other.matter.count plea.matter.count) ≡ true
    go false f = refl
    go true f =
        let cluster = same other.matter.cluster plea.matter.cluster f in
        let place : ℕ = plea.matter.cluster - 1 in
        let count : ℕ = slice_index (with_rvc s plea Start).started place in
        let raise : count ≡ max (slice_index s.started place) (plea.matter.count + 1) = least_there s.started place (plea.matter.count + 1) in
        let still : nat_lt other.matter.count count ≡ false = ap (λ c. nat_lt other.matter.count (slice_index (with_rvc s plea Start).started (c - 1))) (sym cluster) ∙ e in
        ap not (beyond plea.matter other.matter count (omega (arith, raise)) still)

-- the plea itself goes too
itself_goes : (rvcs : List Heard) (plea : Heard) → filter (λ h. not (is_within plea.matter h.matter)) (rvcs ++ plea ∷ []) ≡ filter (λ h. not (is_within plea.matter h.matter)) rvcs
itself_goes rvcs plea =
    let q : Heard → Bool = λ h. not (is_within plea.matter h.matter) in
    let own : is_within plea.matter plea.matter ≡ true =
    and_both (nat_eq plea.matter.cluster plea.matter.cluster) (nat_le plea.matter.count plea.matter.count) (is_same plea.matter.cluster)
    (is_at_most plea.matter.count plea.matter.count (omega arith)) in
    filter-append q rvcs (plea ∷ []) ∙ (ap (λ t. filter q rvcs ++ cond (not t) (plea ∷ []) []) own ∙ append-nil (filter q rvcs))

-- as after a Start, with all Rvcs that counted
abbrev all_kept : Pleading → Heard → Pleading → Pleading
all_kept s plea now = record now { rvcs = s.rvcs ++ plea ∷ [] }

start_alike : (s : Pleading) (plea other : Heard) → rvcs_are_full (all_kept s plea (with_rvc s plea Start)) other ≡ false
    → rvc_plight (with_rvc s plea Start) other ≡ rvc_plight (all_kept s plea (with_rvc s plea Start)) other
start_alike s plea other room = go (is_past (with_rvc s plea Start) other) refl
  where
    whole : Pleading
    whole = all_kept s plea (with_rvc s plea Start)

    go : (t : Bool) → is_past (with_rvc s plea Start) other ≡ t → rvc_plight (with_rvc s plea Start) other ≡ rvc_plight whole other
    go true e = past_alike whole (with_rvc s plea Start).rvcs other e
    go false e =
        sym (ap (λ xs. rvc_plight (record whole { rvcs = xs }) other) (itself_goes s.rvcs plea))
        ∙ rvc_alike whole (λ m. not (is_within plea.matter m)) other (not_within s plea other e) room

pub start_stays_so : (s : Pleading) (plea other : Heard) → rvc_plight s plea ≡ Start → rvcs_are_full (hoarding s plea) other ≡ false
    → rvc_plight (after_rvc s plea) other ≡ rvc_plight (hoarding s plea) other
start_stays_so s plea other starts =
    let of = started s plea starts in
    let now : after_rvc s plea ≡ with_rvc s plea Start = after_counted_rvc s plea of.0 of.1 of.2 ∙ ap (with_rvc s plea) starts in
    subst (λ x. rvcs_are_full (all_kept s plea x) other ≡ false → rvc_plight x other ≡ rvc_plight (all_kept s plea x) other) (sym now) (start_alike s plea other)
