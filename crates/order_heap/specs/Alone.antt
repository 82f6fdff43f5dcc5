-- What is kept of the ordering in a cluster of one.
use Rattle.std.specs.Prelude.{◌≡◌, ℕ, false, IsTrue}
use Rattle.fab_base.specs.Limits.{Roster, IsWithinLimits}
use Rattle.fab_base.specs.Roster.{is_replica}
use Rattle.fab_base.specs.declared.ids.ReplicaId.{ReplicaId}
use Rattle.fab_machine.specs.LocalState.{IsLocalState}
use Rattle.local_order.specs.Ordering.{Ordering}

-- of this replica of these members; unless it was shut, its state is one of local ordering, and it was told of so many rounds
pub record IsAlone (r : Roster) (me : ReplicaId) (rounds : ℕ) (o : Ordering) : Type 0 where
  pub roster_is : o.roster ≡ r
  pub me_is : o.me ≡ me
  pub whole : o.shut ≡ false → IsLocalState r me o.local
  pub told : o.shut ≡ false → o.local.executed ≡ rounds

-- the members, the replica, how many rounds it was told of, and its ordering
pub record Standing : Type 0 where
  pub roster : Roster
  pub me : ReplicaId
  pub rounds : ℕ
  pub order : Ordering

pub record IsStanding (s : Standing) : Type 0 where
  pub limits : IsWithinLimits s.roster
  pub member : IsTrue (is_replica s.roster s.me)
  pub ordering : IsAlone s.roster s.me s.rounds s.order
