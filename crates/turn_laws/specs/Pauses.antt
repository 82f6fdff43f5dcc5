-- The quiet moments of a threaded run, by what its own thread knows of them: all workers stand then, and it alone gives Nudges and Timeouts.
use Rattle.std.specs.Prelude.{◌≡◌, ℕ, ◌+◌, ◌≤◌, ◌⊎◌, Bool, true, false, cond, List, [], ◌∷◌, ◌++◌, map, length}
use Rattle.std.specs.List.{sum_by, count_by}
use Rattle.fab_base.specs.declared.ids.ReplicaId.{ReplicaId}
use Rattle.fab_rules.specs.Lists.{In, IsPrefixOf}
use Rattle.run_words.specs.Journal.{moves, entry_of}
use Rattle.run_words.specs.Runs.{Rules}
use Rattle.run_words.specs.Lawful.{due_at, is_timed_out, lines_by}
use Rattle.run_words.specs.declared.logs.Entry.{Entry}
use Rattle.run_words.specs.declared.logs.Moment.{Moment}
use Rattle.run_words.specs.declared.movers.Mover.{Mover}
use Rattle.turn_laws.specs.Copies.{from, asked}
use Rattle.turn_laws.specs.Ends.{End, AreFed, IsCalm, IsQuiet}

-- a quiet moment: what each replica had left behind by then, and whether it ended in timeouts
pub record Pause : Type 0 where
  pub ends : List End
  pub timed : Bool

abbrev pub entries_at : End → ℕ
entries_at e = length e.journal

-- as the transcript has it
abbrev pub moment_of : Pause → Moment
moment_of p = record { entries = map entries_at p.ends; timed = p.timed }

-- each replica was fed and is quiet. Where the moment ended in timeouts nobody could be nudged
pub record IsPause (r : Rules) (p : Pause) : Type 0 where
  pub fed : AreFed r p.ends
  pub quiet : (e : End) → In e p.ends → IsQuiet e
  pub unmoved : p.timed ≡ true → (e : End) → In e p.ends → IsCalm Mover.Nudge e

-- ---- from one moment on to the next

-- the entry that the moment's event makes, where it makes one
abbrev pub given : Pause → End → List Entry
given p a =
    cond (moves a.maker a.journal (due_at (moment_of p))) (entry_of a.maker a.journal (due_at (moment_of p)) ∷ []) []

-- A replica goes on: by what it was given first, and then by entries that are no Nudges, and of which no more are Timeouts than lines gave.
-- What was taken of each link, and of the requests, only grows
pub record GoesOn (first : List Entry) (a b : End) : Type 0 where
  pub maker : b.maker ≡ a.maker
  pub later : List Entry
  pub journal : a.journal ++ (first ++ later) ≡ b.journal
  pub unnudged : In Entry.Nudged later → ⊥
  pub lined : a.lined + count_by is_timed_out later ≤ b.lined
  pub links : (i : ReplicaId) → IsPrefixOf (from i a.took) (from i b.took)
  pub requests : IsPrefixOf (asked a.took) (asked b.took)

-- at a moment each replica is given its event; at the last one, where the run may be cut off, perhaps
abbrev pub Went : Pause → End → End → Type 0
Went p a b = GoesOn (given p a) a b

abbrev pub WentLast : Pause → End → End → Type 0
WentLast p a b = Went p a b ⊎ GoesOn [] a b

-- something holds of each replica at one time and at another
abbrev pub AreOn : (End → End → Type 0) → List End → List End → Type 0
AreOn R [] [] = Unit {0}
AreOn R (a ∷ olds) (b ∷ news) = R a b × AreOn R olds news
AreOn R [] (b ∷ news) = ⊥
AreOn R (a ∷ olds) [] = ⊥

-- from moment to moment, and from the last one to the end
abbrev pub AreFollowed : List Pause → List End → Type 0
AreFollowed [] ends = Unit {0}
AreFollowed (p ∷ []) ends = AreOn (WentLast p) p.ends ends
AreFollowed (p ∷ q ∷ rest) ends = AreOn (Went p) p.ends q.ends × AreFollowed (q ∷ rest) ends

-- what there was at the first moment, or at the end where there was none
abbrev pub earliest : List Pause → List End → List End
earliest [] ends = ends
earliest (p ∷ rest) ends = p.ends

-- no Nudge yet, and no more Timeouts than lines gave
abbrev pub IsUngiven : End → Type 0
IsUngiven e = (In Entry.Nudged e.journal → ⊥) × (count_by is_timed_out e.journal ≤ e.lined)

-- how many entries there are in all
abbrev pub all_entries : List End → ℕ
all_entries ends = sum_by entries_at ends

-- ---- what a run owes of its moments

-- they are quiet, and Nudges and Timeouts are given at them alone, but for those Timeouts that a line gives which is due
pub record AreTimely (r : Rules) (pauses : List Pause) (ends : List End) : Type 0 where
  pub quiet : (p : Pause) → In p pauses → IsPause r p
  pub ungiven : (e : End) → In e (earliest pauses ends) → IsUngiven e
  pub followed : AreFollowed pauses ends
  pub lines : (e : End) → In e ends → e.lined ≤ lines_by r (all_entries ends) e.maker.id

abbrev pub is_timed : Pause → Bool
is_timed p = p.timed

-- each moment that ended in timeouts used one unit of patience, and so many are left
abbrev pub IsPatient : Rules → List Pause → ℕ → Type 0
IsPatient r pauses left = left + count_by is_timed pauses ≡ r.patience

-- ---- what one owes that wasn't cut off

-- somebody's timeout came to something
abbrev pub HasMoved : Pause → Type 0
HasMoved p = (e : End) × In e p.ends × (moves e.maker e.journal Mover.Timeout ≡ true)

abbrev pub is_last_timed : List Pause → Bool
is_last_timed [] = false
is_last_timed (p ∷ []) = p.timed
is_last_timed (p ∷ q ∷ rest) = is_last_timed (q ∷ rest)

-- whenever there were timeouts, one came to something, and they weren't the last that happened
pub record HaveMoved (pauses : List Pause) : Type 0 where
  pub each : (p : Pause) → In p pauses → p.timed ≡ true → HasMoved p
  pub last : is_last_timed pauses ≡ false

-- patience was used by timeouts that came to something, or none would now
abbrev pub AreTried : List Pause → List End → Type 0
AreTried pauses ends = HaveMoved pauses ⊎ ((e : End) → In e ends → IsCalm Mover.Timeout e)
