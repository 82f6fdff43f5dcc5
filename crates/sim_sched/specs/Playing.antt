-- From the start of a run to its end.
use Rattle.std.specs.Prelude.{◌≡◌, ℕ, Bool, true, false, ◌||◌, List, [], ◌∷◌, ◌++◌, map}
use Rattle.fault_script.specs.declared.twists.TimeoutLine.{TimeoutLine}
use Rattle.run_words.specs.Journal.{Maker, moves}
use Rattle.run_words.specs.Runs.{Rules, Run, Phase, journal_in, give, over, ended, next, is_spent, start, after}
use Rattle.run_words.specs.declared.movers.Mover.{Mover}
use Rattle.run_words.specs.declared.logs.Moment.{Moment}
use Rattle.rand_chacha.specs.ChaCha.{ChaCha}
use Rattle.sim_sched.specs.Seats.{SeatView, seat_in, numbers_of}
use Rattle.sim_sched.specs.Simulating.{AreRules, AreLines, IsHeld, IsOpen}
use Rattle.sim_sched.specs.declared.rounds.Round.{Round}
use Rattle.sim_sched.specs.declared.rounds.Progress.{Progress}

abbrev pub IsReached : Rules → Run → Type 0
IsReached r run = (n : ℕ) × (after r n ≡ run)

-- a run that is held in a phase, with these timeouts yet to be given
abbrev pub IsIn : Rules → List ℕ → Phase → List TimeoutLine → List SeatView → ChaCha → ℕ → ℕ → List Moment → Type 0
IsIn r key phase timeouts views g entries patience moments =
    (run : Run) × IsReached r run × (run.phase ≡ phase) × AreLines r.makers timeouts run.lines × IsHeld r key run views g entries patience moments

-- or is to go through them
abbrev pub IsBefore : Rules → List ℕ → List TimeoutLine → List SeatView → ChaCha → ℕ → ℕ → List Moment → Type 0
IsBefore r key timeouts views g entries patience moments = (run : Run) × IsReached r run × IsOpen r key run timeouts views g entries patience moments

-- a run that has ended, with its quiet moments and the patience that is left: whether it was cut off
pub record IsEnded (r : Rules) (spent : Bool) (views : List SeatView) (patience : ℕ) (moments : List Moment) : Type 0 where
  pub number : ℕ
  pub phase : (after r number).phase ≡ Phase.Ended spent
  pub seated : views ≡ map (seat_in (after r number)) r.makers
  pub left : patience ≡ (after r number).left
  pub noted : moments ≡ (after r number).moments

-- by how far it came
abbrev pub Comes : Progress → (ℕ → Type 0) → Type 0
Comes Progress.Cut P = Unit {0}
Comes (Progress.On n) P = P n
Comes (Progress.Rest n) P = P n

abbrev pub GoesOn : Progress → (ℕ → Type 0) → Type 0
GoesOn (Progress.On n) P = P n
GoesOn told P = Unit {0}

-- ---- the lines

-- the run was cut off among them; or those that are due were given, and it stands at a choice with the others
abbrev pub WalkedBy : Rules → List ℕ → Round → Bool → List TimeoutLine → List SeatView → ChaCha → ℕ → List Moment → Type 0
WalkedBy r key told true timeouts now g patience moments = IsEnded r true now patience moments
WalkedBy r key told false timeouts now g patience moments = IsIn r key Phase.Pick timeouts now g told.entries patience moments

abbrev pub Walked : ℕ → List SeatView → ℕ → List TimeoutLine → Round → List SeatView → List TimeoutLine → Type 0
Walked turns views entries timeouts told now later =
    (r : Rules) (key : List ℕ) (g : ChaCha) (patience : ℕ) (moments : List Moment) → AreRules r key turns
    → IsBefore r key timeouts views g entries patience moments → WalkedBy r key told told.spent later now g patience moments

-- ---- a turn

-- the run was cut off; or it goes on; or no step is left, and its quiet moment begins, which notes how many entries each journal has
abbrev pub TurnedBy : Rules → List ℕ → Progress → List TimeoutLine → List SeatView → ChaCha → ℕ → List Moment → Type 0
TurnedBy r key Progress.Cut timeouts now g patience moments = IsEnded r true now patience moments
TurnedBy r key (Progress.On n) timeouts now g patience moments = IsBefore r key timeouts now g n patience moments
TurnedBy r key (Progress.Rest n) timeouts now g patience moments =
    IsIn r key (Phase.Nudging (numbers_of now) r.makers false) timeouts now g n patience moments

abbrev pub Turned : ℕ → List SeatView → ChaCha → ℕ → List TimeoutLine → Progress → List SeatView → ChaCha → List TimeoutLine → Type 0
Turned turns views g entries timeouts told now h later =
    (r : Rules) (key : List ℕ) (patience : ℕ) (moments : List Moment) → AreRules r key turns
    → IsBefore r key timeouts views g entries patience moments → TurnedBy r key told later now h patience moments

-- ---- a quiet moment

-- one more, at these numbers of entries
abbrev pub with_moment : List ℕ → Bool → List Moment → List Moment
with_moment at timed moments = moments ++ record { entries = at; timed = timed } ∷ []

-- in these phases replicas are given this event one after another; where the run is cut off among them, the quiet moment is over with it
pub record IsRound (mover : Mover) (timed : Bool) (phase : List ℕ → List Maker → Bool → Phase) : Type 0 where
  pub gives : (r : Rules) (run : Run) (at : List ℕ) (m : Maker) (rest : List Maker) (moved : Bool) → run.phase ≡ phase at (m ∷ rest) moved
      → is_spent r run ≡ false
      → next r run ≡ record (give m mover run) { phase = phase at rest (moved || moves m (journal_in run m) mover) }
  pub cuts : (r : Rules) (run : Run) (at : List ℕ) (m : Maker) (rest : List Maker) (moved : Bool) → run.phase ≡ phase at (m ∷ rest) moved
      → is_spent r run ≡ true → next r run ≡ ended true (over at timed run)

abbrev pub RoundedBy : (List ℕ → List Maker → Bool → Phase) → Bool → Rules → List ℕ → List ℕ → List TimeoutLine → ℕ → List Moment → Round → Bool → List SeatView → ChaCha → Type 0
RoundedBy phase timed r key at timeouts patience moments told true now g = IsEnded r true now patience (with_moment at timed moments)
RoundedBy phase timed r key at timeouts patience moments told false now g =
    IsIn r key (phase at [] told.moved) timeouts now g told.entries patience moments

abbrev pub Rounded : Mover → List SeatView → ℕ → ℕ → Round → List SeatView → Type 0
Rounded mover views entries turns told now =
    (timed : Bool) (phase : List ℕ → List Maker → Bool → Phase) (r : Rules) (key at : List ℕ) (timeouts : List TimeoutLine) (g : ChaCha) (patience : ℕ) (moments : List Moment)
    → IsRound mover timed phase → AreRules r key turns → IsIn r key (phase at r.makers false) timeouts views g entries patience moments
    → RoundedBy phase timed r key at timeouts patience moments told told.spent now g

-- what comes of a quiet moment: the run is cut off; or it goes on; or else it has ended
abbrev pub QuietedBy : Rules → List ℕ → Progress → List TimeoutLine → List SeatView → ChaCha → ℕ → List Moment → Type 0
QuietedBy r key Progress.Cut timeouts now g patience moments = IsEnded r true now patience moments
QuietedBy r key (Progress.On n) timeouts now g patience moments = IsBefore r key timeouts now g n patience moments
QuietedBy r key (Progress.Rest n) timeouts now g patience moments = IsEnded r false now patience moments

abbrev pub Quieted : ℕ → List SeatView → ℕ → ℕ → List Moment → Progress → List SeatView → ℕ → List Moment → Type 0
Quieted turns views entries patience moments told now left later =
    (r : Rules) (key : List ℕ) (timeouts : List TimeoutLine) (g : ChaCha) → AreRules r key turns
    → IsIn r key (Phase.Nudging (numbers_of views) r.makers false) timeouts views g entries patience moments
    → QuietedBy r key told timeouts now g left later

-- ---- the run

abbrev pub Played : ℕ → List SeatView → ChaCha → List TimeoutLine → ℕ → List Moment → Bool → List SeatView → ℕ → List Moment → Type 0
Played turns views g timeouts patience moments spent now left later =
    (r : Rules) (key : List ℕ) → AreRules r key turns → AreLines r.makers timeouts r.lines → IsHeld r key (start r) views g 0 patience moments
    → IsEnded r spent now left later
