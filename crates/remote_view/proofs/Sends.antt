-- Send is answered once: a quorum's Drvcs count from then on.
use Rattle.std.proofs.Common.{◌≡◌, ℕ, ◌+◌, ◌≤◌, Bool, true, false, ◌&&◌, not, nat_eq, nat_le, List, [], ◌∷◌, ◌++◌, refl, sym, ap, subst, ◌∙◌, arith}
use Rattle.std.proofs.lemmas.Bool.Decides.{nat_tests}
use Rattle.fab_base.proofs.Tests.{and_left, and_right}
use Rattle.remote_view.specs.declared.heard.Matter.{Matter}
use Rattle.remote_view.specs.declared.heard.Heard.{Heard}
use Rattle.remote_view.specs.declared.plight.Plight.{Plight}
use Rattle.remote_view.specs.declared.plight.Plight.TheVariants.{Kept, Twice, Past, Join, Send, Start}
use Rattle.remote_view.specs.Heard.{same_matter, number_on, is_on}
use Rattle.remote_view.specs.Plights.{is_send}
use Rattle.remote_view.specs.Pleading.{Pleading, quorum_of, drvc_of, rvc_of, drvc_plight, after_drvc, after_forgetting}
use Rattle.remote_view.specs.Calls.{Call, HearDrvc, HearRvc, Say, Forget, after_call, asks, AreOpen, sends, times}
use Rattle.remote_view.proofs.Forgetting.{number_stays}
use Rattle.remote_view.proofs.Hearing.{after_counted_drvc}
use Rattle.remote_view.proofs.Matters.{is_matter, number_more, number_own}
use Rattle.remote_view.proofs.Once.{Marks, at_most_once, lets_go, open_leave, not_so, about_it, other_matter}
use Rattle.remote_view.proofs.Worth.{drvc_cases, rvc_cases, say_cases, sent}

le_more : (q a b : ℕ) → nat_le q a ≡ true → a ≤ b → nat_le q b ≡ true
le_more q a b h l = grind (arith, nat_tests)

enough : (q n : ℕ) → n ≡ q → nat_le q n ≡ true
enough q n h = grind (arith, nat_tests)

too_many : (q n : ℕ) → nat_le q n ≡ true → n + 1 ≡ q → true ≡ false
too_many q n h e = absurd (grind (arith, nat_tests))

abbrev is_sent : Matter → Pleading → Bool
is_sent matter s = nat_le (quorum_of s) (number_on s.drvcs matter)

pub is_sending : (p : Plight) → is_send p ≡ true → (join : Bool) × (p ≡ Send join)
is_sending (Send join) h = (join, refl)
is_sending Kept h = absurd cc
is_sending Twice h = absurd cc
is_sending (Past at) h = absurd cc
is_sending Join h = absurd cc
is_sending Start h = absurd cc

drvc_sent : (s : Pleading) (h : Heard) (matter : Matter) → is_sent matter s ≡ true → is_sent matter (after_drvc s h) ≡ true
drvc_sent s h matter d =
    drvc_cases (λ x. is_sent matter x ≡ true) s h d
    (λ fresh room. le_more (quorum_of s) (number_on s.drvcs matter) (number_on (s.drvcs ++ h ∷ []) matter) d (omega (arith, number_more s.drvcs h matter)))

forget_sent : (s : Pleading) (target round : ℕ) (matter : Matter) → is_sent matter s ≡ true → (nat_eq target matter.cluster && nat_eq round matter.round) ≡ false
    → is_sent matter (after_forgetting s target round) ≡ true
forget_sent s target round matter d e =
    ap (nat_le (quorum_of s)) (number_stays (λ m. not (is_on target round m)) s.drvcs matter (other_matter target round matter e)) ∙ d

send_stops : (s : Pleading) (h : Heard) (matter : Matter) → is_sent matter s ≡ true → (same_matter h.matter matter && is_send (drvc_plight s h)) ≡ false
send_stops s h matter d = not_so (same_matter h.matter matter && is_send (drvc_plight s h)) (λ e.
    let own : h.matter ≡ matter = is_matter h.matter matter (and_left (same_matter h.matter matter) (is_send (drvc_plight s h)) e) in
    let sending = is_sending (drvc_plight s h) (and_right (same_matter h.matter matter) (is_send (drvc_plight s h)) e) in
    let at = sent s h sending.0 sending.1 in
    too_many (quorum_of s) (number_on s.drvcs h.matter) (subst (λ m. is_sent m s ≡ true) (sym own) d) at.2)

send_marks : (s : Pleading) (h : Heard) (matter : Matter) → (same_matter h.matter matter && is_send (drvc_plight s h)) ≡ true → is_sent matter (after_drvc s h) ≡ true
send_marks s h matter e =
    let own : h.matter ≡ matter = is_matter h.matter matter (and_left (same_matter h.matter matter) (is_send (drvc_plight s h)) e) in
    let sending = is_sending (drvc_plight s h) (and_right (same_matter h.matter matter) (is_send (drvc_plight s h)) e) in
    let at = sent s h sending.0 sending.1 in
    subst (λ x. is_sent matter x ≡ true) (sym (after_counted_drvc s h at.0 at.1))
    (subst (λ m. nat_le (quorum_of s) (number_on (s.drvcs ++ h ∷ []) m) ≡ true) own (enough (quorum_of s) _ (number_own s.drvcs h ∙ at.2)))

send_marked : (matter : Matter) → Marks (lets_go matter.cluster matter.round) (asks matter.cluster matter.round) (sends matter) (is_sent matter)
send_marked matter = record {
  stops = λ s call d. elim call as (λ x. sends matter s x ≡ false) [
    | HearDrvc plea ↦ send_stops s (drvc_of plea) matter d
    | HearRvc plea ↦ refl
    | Say target round ↦ refl
    | Forget target round ↦ refl
  ];
  stays = λ s call d. elim call as (λ x. lets_go matter.cluster matter.round x ≡ false → is_sent matter (after_call s x) ≡ true) [
    | HearDrvc plea ↦ (λ e. drvc_sent s (drvc_of plea) matter d)
    | HearRvc plea ↦ (λ e. rvc_cases (λ x. is_sent matter x ≡ true) s (rvc_of plea) d (λ now fresh room. d))
    | Say target round ↦ (λ e. say_cases (λ x. is_sent matter x ≡ true) s target round d (λ new. d))
    | Forget target round ↦ (λ e. forget_sent s target round matter d e)
  ];
  marks = λ s call. elim call as (λ x. sends matter s x ≡ true → is_sent matter (after_call s x) ≡ true) [
    | HearDrvc plea ↦ (λ e. send_marks s (drvc_of plea) matter e)
    | HearRvc plea ↦ (λ e. absurd cc)
    | Say target round ↦ (λ e. absurd cc)
    | Forget target round ↦ (λ e. absurd cc)
  ];
  asks = λ s call. elim call as (λ x. sends matter s x ≡ true → asks matter.cluster matter.round x ≡ true) [
    | HearDrvc plea ↦ (λ e. about_it (drvc_of plea).matter matter (is_send (drvc_plight s (drvc_of plea))) e)
    | HearRvc plea ↦ (λ e. absurd cc)
    | Say target round ↦ (λ e. absurd cc)
    | Forget target round ↦ (λ e. absurd cc)
  ];
}

pub sends_once : (s : Pleading) (calls : List Call) (matter : Matter) → AreOpen calls → times (sends matter) s calls ≤ 1
sends_once s calls matter fit =
    at_most_once (lets_go matter.cluster matter.round) (asks matter.cluster matter.round) AreOpen (sends matter) (is_sent matter)
    (open_leave matter.cluster matter.round) (send_marked matter) s calls fit
