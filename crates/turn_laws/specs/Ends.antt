-- What the threads of a fleet leave behind, replica by replica, when all have ended; or have left behind by a time at which all stand.
use Rattle.std.specs.Prelude.{◌≡◌, ℕ, ◌+◌, false, List, [], ◌++◌, map}
use Rattle.std.specs.List.{flat_map}
use Rattle.fab_rules.specs.Lists.{In}
use Rattle.run_words.specs.Keyed.{of}
use Rattle.run_words.specs.Journal.{Maker, parcels_of, moves, IsMade, AreSound}
use Rattle.run_words.specs.Runs.{Rules, copies_of, turned_of, trace_of}
use Rattle.run_words.specs.Lawful.{Test, heard_counted}
use Rattle.run_words.specs.declared.logs.Entry.{Entry}
use Rattle.run_words.specs.declared.logs.Pending.{Pending}
use Rattle.run_words.specs.declared.logs.Trace.{Trace}
use Rattle.run_words.specs.declared.movers.Mover.{Mover}
use Rattle.turn_laws.specs.Copies.{from, asked, IsKnown, items, refused}

-- one replica at the end
pub record End : Type 0 where
  pub maker : Maker
  -- the one history of its turn, without the seats
  pub journal : List Entry
  -- what its input workers took, in the order of one and then of the next
  pub took : List Pending
  -- what was put to it and not taken
  pub left : List Pending
  -- what was read and not heard
  pub unheard : List Entry
  -- how many timeouts a line of the script gave it
  pub lined : ℕ

abbrev pub trace_at : End → Trace
trace_at e = trace_of e.maker e.journal (flat_map turned_of (refused e.maker e.took))

-- what its workers know of it
pub record IsFed (r : Rules) (ends : List End) (e : End) : Type 0 where
  pub made : IsMade e.maker e.journal
  pub sound : AreSound e.maker e.journal
  -- of each sender: what was taken, and then what is left, is what it put to the replica, in order and as often as it passes
  pub links : (s : End) → In s ends
      → from s.maker.id e.took ++ from s.maker.id e.left ≡ of e.maker.id (flat_map (copies_of s.maker.id) (parcels_of s.maker s.journal))
  pub requests : asked e.took ++ asked e.left ≡ of e.maker.id r.requests
  pub known : (c : Pending) → In c (e.took ++ e.left) → IsKnown r.makers c.origin
  -- what was read was heard as often, or is unheard
  pub heard : (p : Test) → heard_counted p e.journal + heard_counted p e.unheard ≡ heard_counted p (items e.maker e.took)

pub record AreFed (r : Rules) (ends : List End) : Type 0 where
  pub makers : r.makers ≡ map (λ e. e.maker) ends
  pub fed : (e : End) → In e ends → IsFed r ends e

abbrev pub IsCalm : Mover → End → Type 0
IsCalm mover e = moves e.maker e.journal mover ≡ false

-- nothing is left, and nothing moves but by a Nudge or a Timeout
pub record IsQuiet (e : End) : Type 0 where
  pub none_left : e.left ≡ []
  pub none_unheard : e.unheard ≡ []
  pub batch : IsCalm Mover.Batch e
  pub emit : IsCalm Mover.Emit e
  pub execute : IsCalm Mover.Execute e
  pub checkpoint : IsCalm Mover.Checkpoint e
