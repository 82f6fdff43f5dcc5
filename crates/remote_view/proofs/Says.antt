-- The replica is told once to say its own Drvc: it is noted from then on.
use Rattle.std.proofs.Common.{◌≡◌, ℕ, ◌+◌, ◌≤◌, Bool, true, false, ◌&&◌, ◌||◌, not, cond, nat_eq, Some, None, List, [], ◌∷◌, ◌++◌, refl, sym, ap, subst, ◌∙◌}
use Rattle.std.specs.Option.{is_some}
use Rattle.std.proofs.lemmas.List.Folds.{list_any-append}
use Rattle.fab_base.proofs.Tests.{and_left, and_right}
use Rattle.remote_view.specs.declared.heard.Matter.{Matter}
use Rattle.remote_view.specs.declared.heard.Heard.{Heard}
use Rattle.remote_view.specs.declared.plight.Plight.TheVariants.{Kept, Twice, Join, Send}
use Rattle.remote_view.specs.Heard.{same_matter, has_matter, was_heard, number_on, is_on}
use Rattle.remote_view.specs.Plights.{joins}
use Rattle.remote_view.specs.Pleading.{Pleading, quorum_of, some_correct, drvc_of, rvc_of, present_count, drvcs_are_full, drvc_plight, with_matter, after_drvc, own_matter, has_said, say_answer, after_say, after_forgetting}
use Rattle.remote_view.specs.Calls.{Call, HearDrvc, HearRvc, Say, Forget, after_call, asks, AreOpen, says, times}
use Rattle.remote_view.proofs.Forgetting.{said_stays}
use Rattle.remote_view.proofs.Hearing.{after_counted_drvc}
use Rattle.remote_view.proofs.Matters.{is_matter}
use Rattle.remote_view.proofs.Once.{Marks, at_most_once, lets_go, open_leave, not_so, about_it, other_matter}
use Rattle.remote_view.proofs.Worth.{drvc_cases, rvc_cases, say_cases}

abbrev is_said : Matter → Pleading → Bool
is_said matter s = has_matter s.said matter

or_left : (a b : Bool) → a ≡ true → (a || b) ≡ true
or_left a b h = rw h refl

or_right : (a b : Bool) → b ≡ true → (a || b) ≡ true
or_right true b h = refl
or_right false b h = h

more_said : (said : List Matter) (m matter : Matter) → has_matter said matter ≡ true → has_matter (said ++ m ∷ []) matter ≡ true
more_said said m matter h =
    list_any-append (λ x. same_matter x matter) said (m ∷ []) ∙ or_left (has_matter said matter) (has_matter (m ∷ []) matter) h

now_said : (said : List Matter) (m matter : Matter) → same_matter m matter ≡ true → has_matter (said ++ m ∷ []) matter ≡ true
now_said said m matter h =
    list_any-append (λ x. same_matter x matter) said (m ∷ []) ∙ or_right (has_matter said matter) (has_matter (m ∷ []) matter) (or_left (same_matter m matter) false h)

-- a join is of a Drvc that counts, on a matter that wasn't said
pub joining : (s : Pleading) (h : Heard) → joins (drvc_plight s h) ≡ true
    → (was_heard s.drvcs h ≡ false) × (drvcs_are_full s h ≡ false) × (has_matter s.said h.matter ≡ false)
joining s h e =
    go (was_heard s.drvcs h) refl (drvcs_are_full s h) refl (nat_eq (number_on s.drvcs h.matter + 1) (quorum_of s))
    (nat_eq (number_on s.drvcs h.matter + 1) (some_correct s s.me.cluster)) (has_matter s.said h.matter) refl e
  where
    go : (t : Bool) → was_heard s.drvcs h ≡ t → (r : Bool) → drvcs_are_full s h ≡ r → (u v : Bool) → (w : Bool) → has_matter s.said h.matter ≡ w
        → joins (cond t Twice (cond r Kept (cond u (Send (v && not w)) (cond (v && not w) Join Kept)))) ≡ true
        → (was_heard s.drvcs h ≡ false) × (drvcs_are_full s h ≡ false) × (has_matter s.said h.matter ≡ false)
    go true a r b u v w c f = absurd cc
    go false a true b u v w c f = absurd cc
    go false a false b u v false c f = (a, b, c)
    go false a false b true true true c f = absurd cc
    go false a false b true false true c f = absurd cc
    go false a false b false true true c f = absurd cc
    go false a false b false false true c f = absurd cc

drvc_said : (s : Pleading) (h : Heard) (matter : Matter) → is_said matter s ≡ true → is_said matter (after_drvc s h) ≡ true
drvc_said s h matter d = drvc_cases (λ x. is_said matter x ≡ true) s h d (λ fresh room. go (joins (drvc_plight s h)))
  where
    go : (j : Bool) → has_matter (with_matter j s.said h.matter) matter ≡ true
    go true = more_said s.said h.matter matter d
    go false = d

forget_said : (s : Pleading) (target round : ℕ) (matter : Matter) → is_said matter s ≡ true → (nat_eq target matter.cluster && nat_eq round matter.round) ≡ false
    → is_said matter (after_forgetting s target round) ≡ true
forget_said s target round matter d e = said_stays (λ m. not (is_on target round m)) s.said matter (other_matter target round matter e) ∙ d

join_stops : (s : Pleading) (h : Heard) (matter : Matter) → is_said matter s ≡ true → (same_matter h.matter matter && joins (drvc_plight s h)) ≡ false
join_stops s h matter d = not_so (same_matter h.matter matter && joins (drvc_plight s h)) (λ e.
    let own : h.matter ≡ matter = is_matter h.matter matter (and_left (same_matter h.matter matter) (joins (drvc_plight s h)) e) in
    let at = joining s h (and_right (same_matter h.matter matter) (joins (drvc_plight s h)) e) in
    sym (subst (λ m. is_said m s ≡ true) (sym own) d) ∙ at.2)

join_marks : (s : Pleading) (h : Heard) (matter : Matter) → (same_matter h.matter matter && joins (drvc_plight s h)) ≡ true → is_said matter (after_drvc s h) ≡ true
join_marks s h matter e =
    let own : same_matter h.matter matter ≡ true = and_left (same_matter h.matter matter) (joins (drvc_plight s h)) e in
    let joined : joins (drvc_plight s h) ≡ true = and_right (same_matter h.matter matter) (joins (drvc_plight s h)) e in
    let at = joining s h joined in
    subst (λ x. is_said matter x ≡ true) (sym (after_counted_drvc s h at.0 at.1))
    (ap (λ j. has_matter (with_matter j s.said h.matter) matter) joined ∙ now_said s.said h.matter matter own)

-- what is given is none that was said
giving : (s : Pleading) (target round : ℕ) → is_some (say_answer s target round) ≡ true → has_said s target round ≡ false
giving s target round e = go (has_said s target round) e
  where
    go : (t : Bool) → is_some (cond t None (Some (present_count s target))) ≡ true → t ≡ false
    go true f = absurd cc
    go false f = refl

say_stops : (s : Pleading) (target round : ℕ) (matter : Matter) → is_said matter s ≡ true
    → (same_matter (own_matter s target round) matter && is_some (say_answer s target round)) ≡ false
say_stops s target round matter d = not_so (same_matter (own_matter s target round) matter && is_some (say_answer s target round)) (λ e.
    let of = is_matter (own_matter s target round) matter (and_left (same_matter (own_matter s target round) matter) (is_some (say_answer s target round)) e) in
    let new = giving s target round (and_right (same_matter (own_matter s target round) matter) (is_some (say_answer s target round)) e) in
    sym (subst (λ m. is_said m s ≡ true) (sym of) d) ∙ new)

say_marks : (s : Pleading) (target round : ℕ) (matter : Matter) → (same_matter (own_matter s target round) matter && is_some (say_answer s target round)) ≡ true
    → is_said matter (after_say s target round) ≡ true
say_marks s target round matter e =
    let of = and_left (same_matter (own_matter s target round) matter) (is_some (say_answer s target round)) e in
    let new = giving s target round (and_right (same_matter (own_matter s target round) matter) (is_some (say_answer s target round)) e) in
    subst (λ x. is_said matter x ≡ true) (sym (ap (λ t. cond t s (record s { said = s.said ++ own_matter s target round ∷ [] })) new))
    (now_said s.said (own_matter s target round) matter of)

say_marked : (matter : Matter) → Marks (lets_go matter.cluster matter.round) (asks matter.cluster matter.round) (says matter) (is_said matter)
say_marked matter = record {
  stops = λ s call d. elim call as (λ x. says matter s x ≡ false) [
    | HearDrvc plea ↦ join_stops s (drvc_of plea) matter d
    | HearRvc plea ↦ refl
    | Say target round ↦ say_stops s target round matter d
    | Forget target round ↦ refl
  ];
  stays = λ s call d. elim call as (λ x. lets_go matter.cluster matter.round x ≡ false → is_said matter (after_call s x) ≡ true) [
    | HearDrvc plea ↦ (λ e. drvc_said s (drvc_of plea) matter d)
    | HearRvc plea ↦ (λ e. rvc_cases (λ x. is_said matter x ≡ true) s (rvc_of plea) d (λ now fresh room. d))
    | Say target round ↦ (λ e. say_cases (λ x. is_said matter x ≡ true) s target round d (λ new. more_said s.said (own_matter s target round) matter d))
    | Forget target round ↦ (λ e. forget_said s target round matter d e)
  ];
  marks = λ s call. elim call as (λ x. says matter s x ≡ true → is_said matter (after_call s x) ≡ true) [
    | HearDrvc plea ↦ (λ e. join_marks s (drvc_of plea) matter e)
    | HearRvc plea ↦ (λ e. absurd cc)
    | Say target round ↦ (λ e. say_marks s target round matter e)
    | Forget target round ↦ (λ e. absurd cc)
  ];
  asks = λ s call. elim call as (λ x. says matter s x ≡ true → asks matter.cluster matter.round x ≡ true) [
    | HearDrvc plea ↦ (λ e. about_it (drvc_of plea).matter matter (joins (drvc_plight s (drvc_of plea))) e)
    | HearRvc plea ↦ (λ e. absurd cc)
    | Say target round ↦ (λ e. about_it (own_matter s target round) matter (is_some (say_answer s target round)) e)
    | Forget target round ↦ (λ e. absurd cc)
  ];
}

pub says_once : (s : Pleading) (calls : List Call) (matter : Matter) → AreOpen calls → times (says matter) s calls ≤ 1
says_once s calls matter fit =
    at_most_once (lets_go matter.cluster matter.round) (asks matter.cluster matter.round) AreOpen (says matter) (is_said matter)
    (open_leave matter.cluster matter.round) (say_marked matter) s calls fit
