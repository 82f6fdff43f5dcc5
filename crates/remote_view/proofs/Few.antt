-- No signer has more pleas that count than may.
use Rattle.std.proofs.Common.{◌≡◌, ℕ, ◌+◌, ◌≤◌, ◌<◌, Bool, true, false, ◌&&◌, not, cond, nat_eq, nat_le, List, [], ◌∷◌, ◌++◌, zero-add, refl, ap, subst, ◌∙◌, arith}
use Rattle.std.specs.List.{count_by}
use Rattle.std.proofs.lemmas.Bool.Decides.{nat_tests}
use Rattle.std.proofs.lemmas.List.Sums.{sum_by-append}
use Rattle.fab_base.specs.Limits.{Roster}
use Rattle.fab_base.specs.declared.ids.ReplicaId.{ReplicaId}
use Rattle.fab_base.proofs.Tests.{and_left, and_right, same}
use Rattle.remote_view.specs.declared.bounds.TheConstants.{MOST_OPEN_PLEAS}
use Rattle.remote_view.specs.declared.heard.Heard.{Heard}
use Rattle.remote_view.specs.Heard.{number_of, number_from, is_on, is_within}
use Rattle.remote_view.specs.Plights.{is_start}
use Rattle.remote_view.specs.Pleading.{Pleading, AreFew, fresh, drvc_of, rvc_of, after_drvc, rvc_plight, with_plea, after_rvc, after_say, after_forgetting}
use Rattle.remote_view.specs.Calls.{Call, HearDrvc, HearRvc, Say, Forget, after_call, after_calls}
use Rattle.remote_view.proofs.Matters.{no_more_of}
use Rattle.remote_view.proofs.Worth.{drvc_cases, rvc_cases, say_cases}

below_most : (n most : ℕ) → nat_le most n ≡ false → n < most
below_most n most h = grind (arith, nat_tests)

-- with one more of those that are so
pub one_more_of : {X : Type 0} (p : X → Bool) (heard : List X) (plea : X) → count_by p (heard ++ plea ∷ []) ≡ count_by p heard + cond (p plea) 1 0
one_more_of p heard plea =
    sum_by-append (λ h. cond (p h) 1 0) heard (plea ∷ []) ∙ ap (λ n. count_by p heard + n) (zero-add (cond (p plea) 1 0))

within_more : (p : Heard → Bool) (heard : List Heard) (plea : Heard) → count_by p heard ≤ MOST_OPEN_PLEAS
    → (p plea ≡ true → count_by p heard < MOST_OPEN_PLEAS) → count_by p (heard ++ plea ∷ []) ≤ MOST_OPEN_PLEAS
within_more p heard plea l room = go (p plea) refl
  where
    go : (t : Bool) → p plea ≡ t → count_by p (heard ++ plea ∷ []) ≤ MOST_OPEN_PLEAS
    go true e =
        let more : count_by p (heard ++ plea ∷ []) ≡ count_by p heard + 1 = one_more_of p heard plea ∙ ap (λ t. count_by p heard + cond t 1 0) e in
        omega (arith, more, room e)
    go false e =
        let as_many : count_by p (heard ++ plea ∷ []) ≡ count_by p heard + 0 = one_more_of p heard plea ∙ ap (λ t. count_by p heard + cond t 1 0) e in
        omega (arith, as_many, l)

drvc_few : (s : Pleading) (h : Heard) → AreFew s → AreFew (after_drvc s h)
drvc_few s h few = drvc_cases AreFew s h few (λ fresh room. record {
  drvcs = λ member. within_more (λ x. nat_eq x.member member) s.drvcs h (few.drvcs member)
      (λ e. subst (λ m. number_of s.drvcs m < MOST_OPEN_PLEAS) (same h.member member e) (below_most (number_of s.drvcs h.member) MOST_OPEN_PLEAS room));
  rvcs = few.rvcs;
})

with_few : (starts : Bool) (rvcs : List Heard) (h : Heard) → nat_le MOST_OPEN_PLEAS (number_from rvcs h.matter.cluster h.member) ≡ false
    → ((cluster member : ℕ) → number_from rvcs cluster member ≤ MOST_OPEN_PLEAS) → (cluster member : ℕ) → number_from (with_plea starts rvcs h) cluster member ≤ MOST_OPEN_PLEAS
with_few true rvcs h room few cluster member =
    let fewer = no_more_of (λ x. nat_eq x.matter.cluster cluster && nat_eq x.member member) (λ x. not (is_within h.matter x.matter)) rvcs in
    omega (arith, fewer, few cluster member)
with_few false rvcs h room few cluster member =
    within_more (λ x. nat_eq x.matter.cluster cluster && nat_eq x.member member) rvcs h (few cluster member)
    (λ e. let of = same h.matter.cluster cluster (and_left (nat_eq h.matter.cluster cluster) (nat_eq h.member member) e) in
    let by = same h.member member (and_right (nat_eq h.matter.cluster cluster) (nat_eq h.member member) e) in
    subst (λ c. number_from rvcs c member < MOST_OPEN_PLEAS) of (subst (λ m. number_from rvcs h.matter.cluster m < MOST_OPEN_PLEAS) by
    (below_most (number_from rvcs h.matter.cluster h.member) MOST_OPEN_PLEAS room)))

rvc_few : (s : Pleading) (h : Heard) → AreFew s → AreFew (after_rvc s h)
rvc_few s h few = rvc_cases AreFew s h few (λ now fresh room. record { drvcs = few.drvcs; rvcs = with_few (is_start (rvc_plight s h)) s.rvcs h room few.rvcs })

say_few : (s : Pleading) (target round : ℕ) → AreFew s → AreFew (after_say s target round)
say_few s target round few = say_cases AreFew s target round few (λ new. record { drvcs = few.drvcs; rvcs = few.rvcs })

forget_few : (s : Pleading) (target round : ℕ) → AreFew s → AreFew (after_forgetting s target round)
forget_few s target round few = record {
  drvcs = λ member. (let fewer = no_more_of (λ x. nat_eq x.member member) (λ x. not (is_on target round x.matter)) s.drvcs in omega (arith, fewer, few.drvcs member));
  rvcs = few.rvcs;
}

pub few_stay : (s : Pleading) (call : Call) → AreFew s → AreFew (after_call s call)
few_stay s (HearDrvc plea) few = drvc_few s (drvc_of plea) few
few_stay s (HearRvc plea) few = rvc_few s (rvc_of plea) few
few_stay s (Say target round) few = say_few s target round few
few_stay s (Forget target round) few = forget_few s target round few

few_after : (s : Pleading) (calls : List Call) → AreFew s → AreFew (after_calls s calls)
few_after s [] few = few
few_after s (call ∷ calls) few = few_after (after_call s call) calls (few_stay s call few)

pub few_kept : (r : Roster) (me : ReplicaId) (calls : List Call) → AreFew (after_calls (fresh r me) calls)
few_kept r me calls = few_after (fresh r me) calls (record { drvcs = λ member. omega arith; rvcs = λ cluster member. omega arith })
