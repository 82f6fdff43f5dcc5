-- What contracts see of a replica.
use Rattle.std.specs.Prelude.{◌≡◌, ◌&&◌, Bool, true, false, not, List, [], length, IsTrue}
use Rattle.fab_base.specs.Limits.{Roster, IsWithinLimits}
use Rattle.fab_base.specs.Roster.{is_replica}
use Rattle.fab_base.specs.declared.ids.ReplicaId.{ReplicaId}
use Rattle.fab_rules.specs.Diary.{Entry}
use Rattle.fab_machine.specs.State.{Replica, Stepped}
use Rattle.fab_machine.specs.ReplicaState.{IsReplicaState}
use Rattle.fab_machine.specs.Step as machine
use Rattle.fab_machine.specs.Step.{step, moves}
use Rattle.fab_machine.specs.Diaries.{diary_after}
use Rattle.fab_machine.specs.Relation.{AreRelated}
use Rattle.round_exec.specs.Book.{Book}
use Rattle.replica_core.specs.Inside.{Assembly}
use Rattle.replica_core.specs.declared.events.Event.{Event}
use Rattle.replica_core.specs.declared.events.Mover.{Mover}

-- the members, the replica, its state, and whether memory was refused in the middle of a step
pub record Machine : Type 0 where
  pub roster : Roster
  pub me : ReplicaId
  pub state : Replica
  pub shut : Bool

-- a replica of a fabric within its limits. Unless it was shut, its state is one of a replica, and local ordering isn't shut
pub record IsCore (p : Assembly) (shut : Bool) : Type 0 where
  pub limits : IsWithinLimits p.roster
  pub member : IsTrue (is_replica p.roster p.me)
  pub whole : shut ≡ false → IsReplicaState p.roster p.me p.state
  pub calm : shut ≡ false → p.stuck ≡ false

-- the same replica, with this state
abbrev pub with_state : Machine → Replica → Machine
with_state m state = record { roster = m.roster; me = m.me; state = state; shut = false }

-- the same replica, shut: of its state nothing is said
abbrev pub IsShut : Machine → Machine → Type 0
IsShut old new = (new.roster ≡ old.roster) × (new.me ≡ old.me) × (new.shut ≡ true)

-- the same replica of the same members, whatever became of its state
abbrev pub IsSame : Machine → Machine → Type 0
IsSame old new = (new.roster ≡ old.roster) × (new.me ≡ old.me)

-- ---- events, as the machine of a replica has them

abbrev pub event_of : Event → machine.Event
event_of (Event.Hear shaped) = machine.Event.Hear shaped.message
event_of Event.Batch = machine.Event.Batch
event_of Event.Nudge = machine.Event.Nudge
event_of (Event.Emit sig) = machine.Event.Emit sig
event_of Event.Execute = machine.Event.Execute
event_of Event.Checkpoint = machine.Event.Checkpoint
event_of Event.Timeout = machine.Event.Timeout

-- what is heard is shaped for these members
abbrev pub IsFor : Roster → Event → Type 0
IsFor r (Event.Hear shaped) = shaped.members ≡ r
IsFor r e = Unit {0}

abbrev pub IsEmit : Event → Type 0
IsEmit (Event.Emit sig) = Unit {0}
IsEmit e = ⊥

-- the event that is asked about; of the signature nothing depends here
abbrev pub event_by : Mover → machine.Event
event_by Mover.Batch = machine.Event.Batch
event_by Mover.Nudge = machine.Event.Nudge
event_by Mover.Emit = machine.Event.Emit []
event_by Mover.Execute = machine.Event.Execute
event_by Mover.Checkpoint = machine.Event.Checkpoint
event_by Mover.Timeout = machine.Event.Timeout

-- whether an event would make an entry in the journal
abbrev pub moves_by : Machine → Mover → Bool
moves_by m mover = not m.shut && moves m.roster m.me m.state (event_by mover)

-- ---- what a step keeps

-- the answer and the state are those of the machine of a replica
abbrev pub stepped : Machine → Event → Stepped
stepped m e = step m.roster m.me m.state (event_of e)

-- every diary that was related to the state before is related after it, with what the event adds
abbrev pub KeepsHonest : Machine → Event → Machine → Type 0
KeepsHonest old e new =
    (diary : List Entry) → AreRelated old.roster old.me old.state diary
    → AreRelated new.roster new.me new.state (diary_after old.me old.state (event_of e) new.state diary)

-- ---- the rounds that it keeps

abbrev pub book_of : Machine → Book
book_of m = record { clusters = length m.roster.sizes; clients = length m.roster.homes; rounds = m.state.rounds }
