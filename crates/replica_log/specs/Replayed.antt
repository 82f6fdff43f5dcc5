-- Traces that can be replayed, and what the machine of their replica comes to.
use Rattle.std.specs.Prelude.{◌≡◌, false, map, IsTrue}
use Rattle.fab_base.specs.Limits.{Roster}
use Rattle.fab_base.specs.Roster.{is_replica}
use Rattle.fab_machine.specs.State.{Replica}
use Rattle.fab_machine.specs.Diaries.{state_of}
use Rattle.replica_core.specs.Cores.{Machine}
use Rattle.run_words.specs.Journal.{Maker, event_of, IsMade, AreSound}
use Rattle.run_words.specs.declared.logs.Trace.{Trace}

-- the trace of a member whose machine makes the journal, with some keys under which each message that it heard is sound
pub record IsReplayable (r : Roster) (t : Trace) : Type 0 where
  pub member : IsTrue (is_replica r t.id)
  pub maker : Maker
  pub roster_is : maker.roster ≡ r
  pub id_is : maker.id ≡ t.id
  pub made : IsMade maker t.journal
  pub sound : AreSound maker t.journal

-- the state of the replica after its journal: it rests on its members and its id alone
abbrev pub state_after : Roster → Trace → Replica
state_after r t = state_of r t.id (map event_of t.journal)

-- its machine, in this state
abbrev pub core_after : Roster → Trace → Machine
core_after r t = record { roster = r; me = t.id; state = state_after r t; shut = false }
