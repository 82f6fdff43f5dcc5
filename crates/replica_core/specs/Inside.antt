-- What the calls inside see: the state without the mark of a refusal in the middle of a step.
use Rattle.std.specs.Prelude.{◌≡◌, Bool, true, false, List, length}
use Rattle.fab_base.specs.Limits.{Roster}
use Rattle.fab_base.specs.declared.ids.ReplicaId.{ReplicaId}
use Rattle.fab_base.specs.declared.messages.Message.{Message}
use Rattle.fab_base.specs.declared.answers.Item.{Item}
use Rattle.fab_machine.specs.State.{Replica, Stepped}
use Rattle.fab_machine.specs.Attending.{attend, changes_after}
use Rattle.fab_machine.specs.Joining.{after_told}
use Rattle.fab_machine.specs.Pleading.{ask_next}
use Rattle.view_order.specs.Views.{Views}
use Rattle.round_exec.specs.Book.{Book}
use Rattle.cluster_talk.specs.Talking.{Talking}

pub record Assembly : Type 0 where
  pub roster : Roster
  pub me : ReplicaId
  pub state : Replica
  -- whether ordering was refused memory in the middle of a call
  pub stuck : Bool

-- what is seen of the parts
abbrev pub seen : Views → Book → Talking → List Item → Assembly
seen o b t waiting = record {
  roster = o.roster;
  me = o.me;
  state = record { local = o.local; changes = o.changes; rounds = b.rounds; pleading = t.pleading; askers = t.askers; outbox = waiting };
  stuck = o.shut;
}

-- the parts are of one replica, and of one fabric
pub record AreParts (me : ReplicaId) (o : Views) (b : Book) (t : Talking) : Type 0 where
  pub me_is : me ≡ o.me
  pub clusters : b.clusters ≡ length o.roster.sizes
  pub clients : b.clients ≡ length o.roster.homes
  pub talks_in : t.roster ≡ o.roster
  pub talks_as : t.me ≡ o.me

-- the same replica, with this state
abbrev pub with_state : Assembly → Replica → Assembly
with_state o state = record { roster = o.roster; me = o.me; state = state; stuck = o.stuck }

-- a message that is for ordering in the own cluster is heard, and what that brings about is taken over
abbrev pub attend_step : Roster → ReplicaId → Replica → Message → Stepped
attend_step r me s m = after_told r me (record s { changes = changes_after me s.local s.changes m }) (attend r me s.local s.changes m)

-- where enough Rvcs were heard, the next view is asked for
abbrev pub started : Roster → ReplicaId → Replica → Bool → Replica
started r me s true = (after_told r me s (ask_next r me s.local s.local.changing)).state
started r me s false = s

-- the same replica of the same members, whatever became of its state
abbrev pub IsSame : Assembly → Assembly → Type 0
IsSame old new = (new.roster ≡ old.roster) × (new.me ≡ old.me)
