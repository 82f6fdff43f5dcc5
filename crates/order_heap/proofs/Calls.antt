-- What each call of local ordering leaves.
use Rattle.std.proofs.Common.{◌≡◌, ℕ, ◌+◌, ◌≤◌, Bool, true, false, List, Result, Ok, Err, refl, sym, ap, subst, ◌∙◌}
use Rattle.std.specs.Prelude.{OnOk, OnErr}
use Rattle.fab_base.specs.Limits.{Roster}
use Rattle.fab_base.specs.declared.limits.TheConstants.{GREATEST_NUMBER}
use Rattle.fab_base.specs.declared.ids.ReplicaId.{ReplicaId}
use Rattle.fab_base.specs.declared.ids.Hash32.{Hash32}
use Rattle.fab_base.specs.declared.requests.Request.{Request}
use Rattle.fab_base.specs.declared.requests.Outcome.{Outcome}
use Rattle.fab_base.specs.declared.messages.Message.{Message}
use Rattle.fab_rules.specs.Format.{digest_fits}
use Rattle.fab_rules.specs.Shape.{IsShaped}
use Rattle.fab_machine.specs.State.{Local}
use Rattle.fab_machine.specs.Hearing.{hear}
use Rattle.fab_machine.specs.Proposing.{propose}
use Rattle.fab_machine.specs.Serving.{served}
use Rattle.fab_machine.specs.Checkpointing.{checkpoint}
use Rattle.fab_machine.specs.LocalState.{IsLocalState}
use Rattle.fab_machine.proofs.Members.{IsMember}
use Rattle.fab_machine.proofs.States.{hear_state, propose_told_state, served_state}
use Rattle.fab_machine.proofs.CheckpointStates.{checkpoint_state}
use Rattle.local_order.specs.Ordering.{Ordering, with_local, IsShut}
use Rattle.order_heap.specs.Alone.{IsAlone}

-- a call came to this, and executed no round; or memory was refused, and the order is shut
pub alone_after : {T E : Type 0} (r : Roster) (me : ReplicaId) (rounds : ℕ) (o now : Ordering) (result : Result T E) (l : Roster → ReplicaId → Local → Local)
    → IsAlone r me rounds o → ((k : Local) → IsLocalState r me k → IsLocalState r me (l r me k) × ((l r me k).executed ≡ k.executed))
    → OnOk result (o.shut ≡ false) → OnOk result (now ≡ with_local o (l o.roster o.me o.local)) → OnErr result (IsShut o now) → IsAlone r me rounds now
alone_after r me rounds o now (Err e) l is keeps live state shut = record {
  roster_is = shut.0 ∙ is.roster_is;
  me_is = shut.1 ∙ is.me_is;
  whole = λ h. absurd (let both = sym h ∙ shut.2 in cc);
  told = λ h. absurd (let both = sym h ∙ shut.2 in cc);
}
alone_after r me rounds o now (Ok t) l is keeps live state shut =
    let kept = keeps o.local (is.whole live) in
    let same : now ≡ with_local o (l r me o.local) =
    state ∙ (ap (λ q. with_local o (l q o.me o.local)) is.roster_is ∙ ap (λ i. with_local o (l r i o.local)) is.me_is) in
    let after : IsAlone r me rounds (with_local o (l r me o.local)) =
    record { roster_is = is.roster_is; me_is = is.me_is; whole = λ h. kept.0; told = λ h. kept.1 ∙ is.told live } in
    subst (IsAlone r me rounds) (sym same) after

pub hear_keeps : (r : Roster) (me : ReplicaId) (m : Message) (k : Local) → IsMember r me → IsShaped r m → IsLocalState r me k
    → IsLocalState r me (hear r me k m).local × ((hear r me k m).local.executed ≡ k.executed)
hear_keeps r me m k member fine is = let t = hear_state r me k m member fine is in (t.is, t.still.executed_is)

pub propose_keeps : (r : Roster) (me : ReplicaId) (nudged known : Bool) (k : Local) → IsMember r me → IsLocalState r me k
    → IsLocalState r me (propose r me k nudged known).local × ((propose r me k nudged known).local.executed ≡ k.executed)
propose_keeps r me nudged known k member is = let t = propose_told_state r me k nudged known member is in (t.is, t.still.executed_is)

pub checkpoint_keeps : (r : Roster) (me : ReplicaId) (k : Local) → IsMember r me → IsLocalState r me k
    → IsLocalState r me (checkpoint r me k).local × ((checkpoint r me k).local.executed ≡ k.executed)
checkpoint_keeps r me k member is = let t = checkpoint_state r me k member is in (t.is, t.still.executed_is)

-- a round more was executed
pub served_alone : (r : Roster) (me : ReplicaId) (rounds : ℕ) (o now : Ordering) (batch : List Request) (outcomes : List Outcome) (digest : Hash32)
    → IsAlone r me rounds o → rounds + 1 ≤ GREATEST_NUMBER → digest_fits digest ≡ true → o.shut ≡ false
    → now ≡ with_local o (served o.roster o.local (rounds + 1) batch outcomes digest) → IsAlone r me (rounds + 1) now
served_alone r me rounds o now batch outcomes digest is low_enough fits live state =
    let l = served r o.local (rounds + 1) batch outcomes digest in
    let same : now ≡ with_local o l = state ∙ ap (λ q. with_local o (served q o.local (rounds + 1) batch outcomes digest)) is.roster_is in
    let kept = served_state r me o.local (rounds + 1) batch outcomes digest (ap (λ n. n + 1) (sym (is.told live))) low_enough fits (is.whole live) in
    let after : IsAlone r me (rounds + 1) (with_local o l) =
    record { roster_is = is.roster_is; me_is = is.me_is; whole = λ h. kept; told = λ h. refl } in
    subst (IsAlone r me (rounds + 1)) (sym same) after
