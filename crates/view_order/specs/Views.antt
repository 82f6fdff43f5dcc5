-- What contracts see of ordering in a cluster across views.
use Rattle.std.specs.Prelude.{◌≡◌, ◌&&◌, Bool, true, false, not, List, IsTrue}
use Rattle.fab_base.specs.Limits.{Roster, IsWithinLimits}
use Rattle.fab_base.specs.Roster.{is_replica}
use Rattle.fab_base.specs.declared.ids.ReplicaId.{ReplicaId}
use Rattle.fab_base.specs.declared.messages.ViewChange.{ViewChange}
use Rattle.fab_machine.specs.State.{Local}
use Rattle.fab_machine.specs.LocalState.{AreKeptChanges, IsLocalState}
use Rattle.fab_machine.specs.Step.{can_propose, can_checkpoint, can_time_out}
use Rattle.view_order.specs.declared.trying.ViewTry.{ViewTry}

-- the members, the replica that orders, what it remembers, the ViewChanges of views above the entered one, in the order in which they came, and
-- whether memory was refused in the middle of a call
pub record Views : Type 0 where
  pub roster : Roster
  pub me : ReplicaId
  pub local : Local
  pub changes : List ViewChange
  pub shut : Bool

-- a replica of a fabric within its limits. Unless it was shut, what it remembers is a state of local ordering, and the ViewChanges are such
-- as may be kept
pub record AreViews (v : Views) : Type 0 where
  pub limits : IsWithinLimits v.roster
  pub member : IsTrue (is_replica v.roster v.me)
  pub whole : v.shut ≡ false → IsLocalState v.roster v.me v.local
  pub kept : v.shut ≡ false → AreKeptChanges v.roster v.me v.changes

-- the same replica, with this state and these ViewChanges
abbrev pub with_views : Views → Local → List ViewChange → Views
with_views v local changes = record { roster = v.roster; me = v.me; local = local; changes = changes; shut = false }

-- the same replica, shut: of its state nothing is said
abbrev pub IsShut : Views → Views → Type 0
IsShut old new = (new.roster ≡ old.roster) × (new.me ≡ old.me) × (new.shut ≡ true)

-- whether a call would do anything
abbrev pub can_by : Views → ViewTry → Bool
can_by v (ViewTry.Propose nudged known) = not v.shut && can_propose v.roster v.me v.local nudged known
can_by v ViewTry.Checkpoint = not v.shut && can_checkpoint v.roster v.me v.local
can_by v (ViewTry.Timeout own known) = not v.shut && can_time_out v.roster v.me v.local own known
