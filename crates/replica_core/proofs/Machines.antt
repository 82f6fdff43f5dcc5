-- What a step keeps, as the laws of the machine say it.
use Rattle.std.proofs.Common.{◌≡◌, Bool, false, List, [], Result, Ok, Err, refl, sym, ap, subst, ◌∙◌}
use Rattle.std.specs.Prelude.{OnOk, is_err}
use Rattle.std.specs.Bool.{IsTrue}
use Rattle.fab_base.specs.Limits.{Roster, IsWithinLimits}
use Rattle.fab_base.specs.Roster.{is_replica}
use Rattle.fab_base.specs.declared.ids.ReplicaId.{ReplicaId}
use Rattle.fab_base.specs.declared.answers.Item.{Item}
use Rattle.fab_rules.specs.Diary.{Entry}
use Rattle.remote_view.specs.Pleading as pleas
use Rattle.fab_machine.specs.State.{Rounds, fresh_local, fresh_rounds}
use Rattle.fab_machine.specs.Step.{Event, step}
use Rattle.fab_machine.specs.Diaries.{MayCome, diary_after}
use Rattle.fab_machine.specs.Relation.{AreRelated}
use Rattle.fab_machine.proofs.Members.{is_member}
use Rattle.fab_machine.proofs.ReplicaStates.{starts_replica, step_state}
use Rattle.fab_machine.proofs.Steps.{step_keeps}
use Rattle.view_order.specs.Views.{Views}
use Rattle.round_exec.specs.Book.{Book}
use Rattle.cluster_talk.specs.Talking.{Talking}
use Rattle.replica_core.specs.Inside.{Assembly, IsSame, seen, with_state}
use Rattle.replica_core.specs.Cores.{Machine, IsCore}

-- parts of which nothing was heard
pub fresh_core : (r : Roster) (me : ReplicaId) (o : Views) (b : Book) (t : Talking) (waiting : List Item) → IsWithinLimits r → IsTrue (is_replica r me)
    → o ≡ record { roster = r; me = me; local = fresh_local r me; changes = []; shut = false } → b.rounds ≡ fresh_rounds
    → t ≡ record { roster = r; me = me; pleading = pleas.fresh r me; askers = [] } → waiting ≡ [] → IsCore (seen o b t waiting) false
fresh_core r me o b t waiting limits member order rounds talk none =
    let fresh_order : Views = record { roster = r; me = me; local = fresh_local r me; changes = []; shut = false } in
    let book : Rounds → Book = λ x. record { clusters = b.clusters; clients = b.clients; rounds = x } in
    let fresh_talk : Talking = record { roster = r; me = me; pleading = pleas.fresh r me; askers = [] } in
    let whole : seen o b t waiting ≡ seen fresh_order (book fresh_rounds) fresh_talk [] =
    ap (λ x. seen x b t waiting) order
    ∙ (ap (λ x. seen fresh_order (book x) t waiting) rounds
    ∙ (ap (λ x. seen fresh_order (book fresh_rounds) x waiting) talk ∙ ap (seen fresh_order (book fresh_rounds) fresh_talk) none)) in
    let is : IsCore (seen fresh_order (book fresh_rounds) fresh_talk []) false = record {
      limits = limits;
      member = member;
      whole = λ h. starts_replica r me limits (is_member r me limits member);
      calm = λ h. refl;
    } in
    subst (λ p. IsCore p false) (sym whole) is

-- an event came to this and the replica stays open, or memory was refused and it is shut
pub core_after : {T E : Type 0} (old new : Assembly) (e : Event) (told : Result T E) (shut : Bool) → IsCore old false → OnOk told (MayCome old.roster e)
    → OnOk told (new ≡ with_state old (step old.roster old.me old.state e).state) → IsSame old new → shut ≡ is_err told → IsCore new shut
core_after old new e (Err refused) shut is may state same s = record {
  limits = subst IsWithinLimits (sym same.0) is.limits;
  member = subst (λ r. IsTrue (is_replica r new.me)) (sym same.0) (subst (λ i. IsTrue (is_replica old.roster i)) (sym same.1) is.member);
  whole = λ h. absurd (let both = sym s ∙ h in cc);
  calm = λ h. absurd (let both = sym s ∙ h in cc);
}
core_after old new e (Ok answer) shut is may state same s =
    let now : IsCore (with_state old (step old.roster old.me old.state e).state) shut = record {
      limits = is.limits;
      member = is.member;
      whole = λ h. step_state old.roster old.me old.state e (is_member old.roster old.me is.limits is.member) may (is.whole refl);
      calm = λ h. is.calm refl;
    } in
    subst (λ p. IsCore p shut) (sym state) now

-- every diary that was related stays related, whatever is seen of the replica before
abbrev pub Keeps : Machine → Event → Assembly → Type 0
Keeps old e new =
    (diary : List Entry) → AreRelated old.roster old.me old.state diary → AreRelated new.roster new.me new.state (diary_after old.me old.state e new.state diary)

pub honest_after : {T E : Type 0} (seen : Machine) (old new : Assembly) (e : Event) (told : Result T E) (shut : Bool)
    → (let now : Machine = record { roster = old.roster; me = old.me; state = old.state; shut = shut } in now) ≡ seen
    → IsWithinLimits old.roster → IsTrue (is_replica old.roster old.me) → OnOk told (MayCome old.roster e)
    → OnOk told (new ≡ with_state old (step old.roster old.me old.state e).state) → OnOk told (Keeps seen e new)
honest_after seen old new e (Err refused) shut view limits member may same = tt
honest_after seen old new e (Ok answer) shut view limits member may same =
    subst (λ m. Keeps m e new) view
    (λ diary related.
    subst (λ p. AreRelated p.roster p.me p.state (diary_after old.me old.state e p.state diary)) (sym same)
    (step_keeps old.roster old.me old.state diary e limits member may related))
