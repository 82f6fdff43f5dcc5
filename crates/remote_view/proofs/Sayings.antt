-- What was said by joining has Drvcs on it, and each that was said stands once. So as many are kept as Drvcs, and as were said by `say`.
use Rattle.std.proofs.Common.{◌≡◌, ℕ, ◌+◌, ◌*◌, ◌≤◌, Bool, true, false, ◌&&◌, ◌||◌, not, cond, nat_eq, Some, None, List, [], ◌∷◌, ◌++◌, length, IsTrue, map, refl, sym, ap, subst, ◌∙◌, arith}
use Rattle.std.specs.Cmp.{IsEquivalence}
use Rattle.std.specs.List.{list_any, filter, count_by, IsDistinct}
use Rattle.std.specs.Option.{is_some}
use Rattle.std.specs.Set.{is_member}
use Rattle.std.proofs.lemmas.Cmp.{nat_eq_equiv}
use Rattle.std.proofs.lemmas.List.Filters.{length-filter_both}
use Rattle.std.proofs.lemmas.List.Folds.{list_any-append}
use Rattle.std.proofs.lemmas.List.Sums.{length-filter}
use Rattle.std.proofs.lemmas.List.{length-map}
use Rattle.std.proofs.lemmas.Map.Keys.{IsDistinct-push, IsDistinct-from_apart}
use Rattle.std.proofs.lemmas.Map.Made.{length-le_from_is_member}
use Rattle.fab_base.specs.Limits.{Roster, IsWithinLimits}
use Rattle.fab_base.specs.Quorums.{one_if}
use Rattle.fab_base.specs.Roster.{is_replica}
use Rattle.fab_base.specs.declared.ids.ReplicaId.{ReplicaId}
use Rattle.fab_base.specs.declared.limits.TheConstants.{MOST_MEMBERS}
use Rattle.remote_view.specs.declared.bounds.TheConstants.{MOST_OPEN_PLEAS}
use Rattle.remote_view.specs.declared.heard.Matter.{Matter}
use Rattle.remote_view.specs.declared.heard.Heard.{Heard}
use Rattle.remote_view.specs.Heard.{same_matter, has_matter, is_on}
use Rattle.remote_view.specs.Plights.{joins}
use Rattle.remote_view.specs.Pleading.{Pleading, fresh, drvc_of, rvc_of, present_count, drvc_plight, with_matter, after_drvc, own_matter, has_said, say_answer, after_say, after_forgetting}
use Rattle.remote_view.specs.Calls.{Call, HearDrvc, HearRvc, Say, Forget, after_call, after_calls, MayFollow, gives, times}
use Rattle.remote_view.proofs.Few.{one_more_of}
use Rattle.remote_view.proofs.Forgetting.{drvc_stays}
use Rattle.remote_view.proofs.Matters.{is_matter, same_itself, once_in_fewer, left_of, fewer_of}
use Rattle.remote_view.proofs.Says.{joining}
use Rattle.remote_view.proofs.Totals.{drvcs_kept}
use Rattle.remote_view.proofs.Worth.{drvc_cases, rvc_cases}

symmetric : (a b : Matter) → same_matter a b ≡ same_matter b a
symmetric a b =
    let flip : (x y : ℕ) → nat_eq x y ≡ nat_eq y x = λ x y. nat_eq_equiv.symm x y in
    let all : (p q r s t u : Bool) → p ≡ q → r ≡ s → t ≡ u → (p && r && t) ≡ (q && s && u) = λ p q r s t u e f g. rw (e, f, g) refl in
    all _ _ _ _ _ _ (flip a.cluster b.cluster) (flip a.round b.round) (flip a.count b.count)

same_matters : IsEquivalence same_matter
same_matters = record { refl = same_itself; symm = symmetric; congr = λ a b c e. ap (λ x. same_matter x c) (is_matter a b e) }

turned : (said : List Matter) (m : Matter) → list_any (same_matter m) said ≡ has_matter said m
turned [] m = refl
turned (x ∷ rest) m = ap (λ t. t || list_any (same_matter m) rest) (symmetric m x) ∙ ap (λ t. same_matter x m || t) (turned rest m)

-- whether a Drvc on the matter counts
abbrev has_drvc : List Heard → Matter → Bool
has_drvc drvcs m = list_any (λ h. same_matter h.matter m) drvcs

abbrev alone : List Heard → Matter → Bool
alone drvcs m = not (has_drvc drvcs m)

-- each that was said stands once, and so many at most have no Drvc on them
record AreSaid (s : Pleading) (most : ℕ) : Type 0 where
  once : IsDistinct same_matter s.said
  few : count_by (alone s.drvcs) s.said ≤ most

-- ---- what calls make of them

not_first : (a b : Bool) → not (a || b) ≡ true → not a ≡ true
not_first true b h = h
not_first false b h = refl

no_more : (t : Bool) → ◌≤◌ (cond t 1 0) 1
no_more true = omega arith
no_more false = omega arith

fewer_alone : (drvcs : List Heard) (h : Heard) (said : List Matter) → count_by (alone (drvcs ++ h ∷ [])) said ≤ count_by (alone drvcs) said
fewer_alone drvcs h said = fewer_of (alone (drvcs ++ h ∷ [])) (alone drvcs)
    (λ m e. not_first (has_drvc drvcs m) (has_drvc (h ∷ []) m) (sym (ap not (list_any-append (λ x. same_matter x.matter m) drvcs (h ∷ []))) ∙ e)) said

or_second : (a b : Bool) → b ≡ true → (a || (b || false)) ≡ true
or_second true b e = refl
or_second false b e = rw e refl

has_own : (drvcs : List Heard) (h : Heard) → has_drvc (drvcs ++ h ∷ []) h.matter ≡ true
has_own drvcs h =
    list_any-append (λ x. same_matter x.matter h.matter) drvcs (h ∷ [])
    ∙ or_second (has_drvc drvcs h.matter) (same_matter h.matter h.matter) (same_itself h.matter)

few_with : (drvcs : List Heard) (h : Heard) (said : List Matter) (j : Bool) (most : ℕ) → count_by (alone drvcs) said ≤ most
    → count_by (alone (drvcs ++ h ∷ [])) (with_matter j said h.matter) ≤ most
few_with drvcs h said false most l = omega (arith, l, fewer_alone drvcs h said)
few_with drvcs h said true most l =
    let none : ◌≡◌ {A = ℕ} (cond (alone (drvcs ++ h ∷ []) h.matter) 1 0) 0 = ap (λ t. cond (not t) 1 0) (has_own drvcs h) in
    omega (arith, l, fewer_alone drvcs h said, one_more_of (alone (drvcs ++ h ∷ [])) said h.matter, none)

drvc_said : (s : Pleading) (h : Heard) (most : ℕ) → AreSaid s most → AreSaid (after_drvc s h) most
drvc_said s h most is = drvc_cases (λ x. AreSaid x most) s h is (λ fresh room. record {
  once = go (joins (drvc_plight s h)) refl;
  few = few_with s.drvcs h s.said (joins (drvc_plight s h)) most is.few;
}) where
  go : (j : Bool) → joins (drvc_plight s h) ≡ j → IsDistinct same_matter (with_matter j s.said h.matter)
  go true e = IsDistinct-push same_matters s.said h.matter is.once (turned s.said h.matter ∙ (joining s h e).2)
  go false e = is.once

say_said : (s : Pleading) (target round most : ℕ) → AreSaid s most → AreSaid (after_say s target round) (most + one_if (is_some (say_answer s target round)))
say_said s target round most is = go (has_said s target round) refl
  where
    m : Matter
    m = own_matter s target round

    go : (t : Bool) → has_said s target round ≡ t
        → AreSaid (cond t s (record s { said = s.said ++ m ∷ [] })) (most + one_if (is_some (cond t None (Some (present_count s target)))))
    go true e = record { once = is.once; few = omega (arith, is.few) }
    go false e = record {
      once = IsDistinct-push same_matters s.said m is.once (turned s.said m ∙ e);
      few = omega (arith, is.few, one_more_of (alone s.drvcs) s.said m, no_more (alone s.drvcs m));
    }

forget_said : (s : Pleading) (target round most : ℕ) → AreSaid s most → AreSaid (after_forgetting s target round) most
forget_said s target round most is =
    let left : Matter → Bool = λ m. not (is_on target round m) in
    let now : List Heard = (after_forgetting s target round).drvcs in
    record {
      once = once_in_fewer same_matter left s.said is.once;
      few = (let fewer = left_of left (alone now) (alone s.drvcs) (λ m. Unit {0}) (λ m u e f. sym (ap not (drvc_stays left s.drvcs m e)) ∙ f) s.said (λ k d l. tt) in
          omega (arith, fewer, is.few));
    }

weaker : (s : Pleading) (a b : ℕ) → a ≤ b → AreSaid s a → AreSaid s b
weaker s a b l is = record { once = is.once; few = omega (arith, l, is.few) }

call_said : (s : Pleading) (call : Call) (most : ℕ) → AreSaid s most → AreSaid (after_call s call) (most + one_if (gives s call))
call_said s (HearDrvc plea) most is = weaker _ most (most + 0) (omega arith) (drvc_said s (drvc_of plea) most is)
call_said s (HearRvc plea) most is =
    weaker _ most (most + 0) (omega arith) (rvc_cases (λ x. AreSaid x most) s (rvc_of plea) is (λ now fresh room. record { once = is.once; few = is.few }))
call_said s (Say target round) most is = say_said s target round most is
call_said s (Forget target round) most is = weaker _ most (most + 0) (omega arith) (forget_said s target round most is)

said_after : (s : Pleading) (calls : List Call) (most : ℕ) → AreSaid s most → AreSaid (after_calls s calls) (most + times gives s calls)
said_after s [] most is = weaker s most (most + 0) (omega arith) is
said_after s (call ∷ calls) most is =
    weaker _ (most + one_if (gives s call) + times gives (after_call s call) calls) (most + (one_if (gives s call) + times gives (after_call s call) calls)) (omega arith)
    (said_after (after_call s call) calls (most + one_if (gives s call)) (call_said s call most is))

-- ---- all together

abbrev matters_of : List Heard → List Matter
matters_of drvcs = map (λ h. h.matter) drvcs

has_matter_of : (drvcs : List Heard) (m : Matter) → has_drvc drvcs m ≡ is_member same_matter (matters_of drvcs) m
has_matter_of [] m = refl
has_matter_of (h ∷ rest) m = ap (λ t. t || has_drvc rest m) (symmetric h.matter m) ∙ ap (λ t. same_matter m h.matter || t) (has_matter_of rest m)

-- one of those with a Drvc on it has one
member_has : (drvcs : List Heard) (said : List Matter) (m : Matter) → is_member same_matter (filter (λ x. not (alone drvcs x)) said) m ≡ true → has_drvc drvcs m ≡ true
member_has drvcs [] m e = absurd cc
member_has drvcs (x ∷ rest) m e = go (has_drvc drvcs x) refl (member_has drvcs rest m) e
  where
    either : (t : Bool) → same_matter m x ≡ t → has_drvc drvcs x ≡ true → (is_member same_matter (filter (λ y. not (alone drvcs y)) rest) m ≡ true → has_drvc drvcs m ≡ true)
        → (t || is_member same_matter (filter (λ y. not (alone drvcs y)) rest) m) ≡ true → has_drvc drvcs m ≡ true
    either true f has later e = subst (λ y. has_drvc drvcs y ≡ true) (sym (is_matter m x f)) has
    either false f has later e = later e

    go : (t : Bool) → has_drvc drvcs x ≡ t → (is_member same_matter (filter (λ y. not (alone drvcs y)) rest) m ≡ true → has_drvc drvcs m ≡ true)
        → is_member same_matter (cond (not (not t)) (x ∷ filter (λ y. not (alone drvcs y)) rest) (filter (λ y. not (alone drvcs y)) rest)) m ≡ true → has_drvc drvcs m ≡ true
    go true has later e = either (same_matter m x) refl has later e
    go false none later e = later e

in_all : (s : Pleading) (most : ℕ) → AreSaid s most → length s.said ≤ length s.drvcs + most
in_all s most is =
    let has : Matter → Bool = λ m. not (alone s.drvcs m) in
    let both = length-filter_both (alone s.drvcs) has (λ m. refl) s.said in
    let without = length-filter (alone s.drvcs) s.said in
    let with = length-le_from_is_member same_matters (filter has s.said) (matters_of s.drvcs) (once_in_fewer same_matter has s.said is.once)
    (λ m e. sym (has_matter_of s.drvcs m) ∙ member_has s.drvcs s.said m e) in
    let long : length (matters_of s.drvcs) ≡ length s.drvcs = length-map s.drvcs (λ h. h.matter) in
    omega (arith, both, without, with, long, is.few)

pub said_kept : (r : Roster) (me : ReplicaId) (calls : List Call) → IsWithinLimits r → IsTrue (is_replica r me) → MayFollow (fresh r me) calls
    → length (after_calls (fresh r me) calls).said ≤ MOST_OPEN_PLEAS * MOST_MEMBERS + times gives (fresh r me) calls
said_kept r me calls limits member may =
    let first : AreSaid (fresh r me) 0 = record { once = IsDistinct-from_apart same_matter [] (λ i j d l m. absurd (omega arith)); few = omega arith } in
    let all = in_all (after_calls (fresh r me) calls) (0 + times gives (fresh r me) calls) (said_after (fresh r me) calls 0 first) in
    omega (arith, all, drvcs_kept r me calls limits member may)
