-- After a call what is kept across views is whole or shut.
use Rattle.std.proofs.Common.{◌≡◌, false, true, List, Result, Ok, Err, refl, sym, ap, subst, ◌∙◌}
use Rattle.std.specs.Prelude.{IfOk, OnOk, OnErr, IsTrue}
use Rattle.std.specs.Result.{result_and}
use Rattle.fab_base.specs.Limits.{IsWithinLimits}
use Rattle.fab_base.specs.Roster.{is_replica}
use Rattle.fab_base.specs.declared.messages.ViewChange.{ViewChange}
use Rattle.fab_machine.specs.State.{Local}
use Rattle.fab_machine.specs.LocalState.{AreKeptChanges, IsLocalState}
use Rattle.local_order.specs.Ordering as ordering
use Rattle.local_order.specs.Ordering.{Ordering, with_local}
use Rattle.view_order.specs.Pieces.{IsSame}
use Rattle.view_order.specs.Views.{Views, AreViews}

abbrev pub views_of : Ordering → List ViewChange → Views
views_of o changes = record { roster = o.roster; me = o.me; local = o.local; changes = changes; shut = o.shut }

-- of what was shut nothing is said
shut_so : (old now : Ordering) (before after : List ViewChange) → AreViews (views_of old before) → ordering.IsShut old now → AreViews (views_of now after)
shut_so old now before after is same = record {
  limits = subst IsWithinLimits (sym same.0) is.limits;
  member = subst (λ r. IsTrue (is_replica r now.me)) (sym same.0) (subst (λ i. IsTrue (is_replica old.roster i)) (sym same.1) is.member);
  whole = λ h. absurd (let both = sym same.2 ∙ h in cc);
  kept = λ h. absurd (let both = sym same.2 ∙ h in cc);
}

-- what comes of a call that gave an answer
abbrev IsWhole : Ordering → Local → List ViewChange → Type 0
IsWhole o l changes = IsLocalState o.roster o.me l × AreKeptChanges o.roster o.me changes

-- a call on the order: it came to this, or memory was refused and the order is shut
pub whole_after : {T E : Type 0} (old now : Ordering) (l : Local) (changes : List ViewChange) (told : Result T E) → AreViews (views_of old changes)
    → (IsLocalState old.roster old.me old.local → IsLocalState old.roster old.me l) → OnOk told (old.shut ≡ false) → OnOk told (now ≡ with_local old l)
    → OnErr told (ordering.IsShut old now) → AreViews (views_of now changes)
whole_after old now l changes (Err e) is keeps live state err = shut_so old now changes changes is err
whole_after old now l changes (Ok t) is keeps live state err =
    let whole : AreViews (views_of (with_local old l) changes) = record {
      limits = is.limits;
      member = is.member;
      whole = λ h. keeps (is.whole live);
      kept = λ h. is.kept live;
    } in
    subst (λ o. AreViews (views_of o changes)) (sym state) whole

-- pieces on an order that wasn't shut, and it was shut where memory was refused
pub whole_sealed : {T E : Type 0} (old mid now : Ordering) (l : Local) (before given after : List ViewChange) (told : Result T E) → AreViews (views_of old before)
    → old.shut ≡ false → (IsWhole old old.local before → IsWhole old l given) → IsSame old mid → OnOk told (mid ≡ with_local old l) → OnOk told (after ≡ given)
    → OnOk told (now ≡ mid) → OnErr told (ordering.IsShut mid now) → AreViews (views_of now after)
whole_sealed old mid now l before given after (Err e) is live keeps same state kept stays err =
    shut_so old now before after is (err.0 ∙ same.0, err.1 ∙ same.1, err.2)
whole_sealed old mid now l before given after (Ok t) is live keeps same state kept stays err =
    let both = keeps (is.whole live, is.kept live) in
    let whole : AreViews (views_of (with_local old l) given) = record {
      limits = is.limits;
      member = is.member;
      whole = λ h. both.0;
      kept = λ h. both.1;
    } in
    subst (λ changes. AreViews (views_of now changes)) (sym kept) (subst (λ o. AreViews (views_of o given)) (sym (stays ∙ state)) whole)

pub always : {T E X : Type 0} (told : Result T E) → X → OnOk told X
always (Err e) x = tt
always (Ok t) x = x

pub map_ok : {T E X Y : Type 0} (told : Result T E) → (X → Y) → OnOk told X → OnOk told Y
map_ok (Err e) f x = tt
map_ok (Ok t) f x = f x

-- the first, and then a value that can't fail
pub and_if : {T U E : Type 0} (P : U → Type 0) (told : Result T E) (u : U) (r : Result U E) → r ≡ result_and told (Ok u) → OnOk told (P u) → IfOk r P
and_if P (Err e) u r is h = subst (λ x. IfOk x P) (sym is) tt
and_if P (Ok t) u r is h = subst (λ x. IfOk x P) (sym is) h

pub and_on : {T U E : Type 0} (X : Type 0) (told : Result T E) (u : U) (r : Result U E) → r ≡ result_and told (Ok u) → OnOk told X → OnOk r X
and_on X (Err e) u r is h = subst (λ x. OnOk x X) (sym is) tt
and_on X (Ok t) u r is h = subst (λ x. OnOk x X) (sym is) h
