-- How seats and a generator stand to a run.
use Rattle.std.specs.Prelude.{◌≡◌, ◌⊎◌, ℕ, ◌+◌, ◌<◌, ◌%◌, ◌^◌, Bool, true, false, cond, List, map, length, slice_index_or, Option, Some, None, [], ◌∷◌}
use Rattle.fab_base.specs.declared.ids.ReplicaId.{ReplicaId}
use Rattle.fab_base.specs.Limits.{Roster}
use Rattle.bft_verify.specs.Ring.{Ring}
use Rattle.fab_rules.specs.Lists.{In}
use Rattle.fault_script.specs.declared.twists.TimeoutLine.{TimeoutLine}
use Rattle.run_words.specs.Keyed.{is_same}
use Rattle.run_words.specs.Journal.{Maker, moves, reads}
use Rattle.run_words.specs.declared.movers.Mover.{Mover}
use Rattle.run_words.specs.Lawful.{AreApart}
use Rattle.run_words.specs.Runs.{Rules, Run, Line, Phase, next, steps, is_spent}
use Rattle.run_words.specs.declared.logs.Pending.{Pending}
use Rattle.run_words.specs.declared.logs.Moment.{Moment}
use Rattle.rand_chacha.specs.ChaCha.{ChaCha, word_at}
use Rattle.sim_sched.specs.declared.seats.Choice.{Choice}
use Rattle.sim_sched.specs.Seats.{SeatView, seat_in, is_read, AllOpen}
use Rattle.copy_reader.specs.Reading.{IsMadeWith}
use Rattle.sim_sched.specs.Putting.{IsNone, heard_at, given_at, ids_of}

-- what a step does at a place, and whether it made an entry
abbrev pub Acts : ℕ → Choice → SeatView → List SeatView → List SeatView → Bool → Type 0
Acts place (Choice.Hear k) v views now grew =
    (c : Pending) → slice_index_or v.way k c ≡ c → (now ≡ heard_at place k c v views) × (grew ≡ is_read (reads v.maker c.load))
Acts place (Choice.Give mover) v views now grew =
    (now ≡ given_at place mover v views) × (grew ≡ moves v.maker v.journal mover)

-- the generator at the place of the next word
abbrev pub generator_at : List ℕ → ℕ → ChaCha
generator_at key picks = record { key = key; stream = 0; word_pos = picks % 2 ^ 68 }

abbrev pub word_of : List ℕ → ℕ → ℕ
word_of key t = word_at 4 key 0 (t % 2 ^ 68)

-- the line is that of the timeout: it goes to the one of these that has the replica's id
abbrev pub IsLine : List Maker → TimeoutLine → Line → Type 0
IsLine makers timeout line = In line.maker makers × (line.maker.id ≡ timeout.replica) × (line.entries ≡ timeout.entries)

abbrev pub AreLines : List Maker → List TimeoutLine → List Line → Type 0
AreLines makers [] [] = Unit {0}
AreLines makers (timeout ∷ timeouts) (line ∷ lines) = IsLine makers timeout line × AreLines makers timeouts lines
AreLines makers [] (line ∷ lines) = ⊥
AreLines makers (timeout ∷ timeouts) [] = ⊥

-- the seats, the generator, the number of entries, the patience and the quiet moments are those of a run
pub record IsHeld (r : Rules) (key : List ℕ) (run : Run) (views : List SeatView) (generator : ChaCha) (entries patience : ℕ) (moments : List Moment) : Type 0 where
  pub seated : views ≡ map (seat_in run) r.makers
  pub placed : generator ≡ generator_at key run.picks
  pub counted : entries ≡ length run.done
  pub left : patience ≡ run.left
  pub noted : moments ≡ run.moments

-- and it stands at a choice, with these timeouts yet to be given
pub record IsAt (r : Rules) (key : List ℕ) (run : Run) (timeouts : List TimeoutLine) (views : List SeatView) (generator : ChaCha) (entries patience : ℕ) (moments : List Moment) : Type 0 where
  pub phase : run.phase ≡ Phase.Pick
  pub lines : AreLines r.makers timeouts run.lines
  pub held : IsHeld r key run views generator entries patience moments

-- or it is to go through them, from the first
pub record IsOpen (r : Rules) (key : List ℕ) (run : Run) (timeouts : List TimeoutLine) (views : List SeatView) (generator : ChaCha) (entries patience : ℕ) (moments : List Moment) : Type 0 where
  pub lines : List Line
  pub phase : run.phase ≡ Phase.Lines [] lines
  pub are : AreLines r.makers timeouts lines
  pub held : IsHeld r key run views generator entries patience moments

-- the rules of a call
pub record AreRules (r : Rules) (key : List ℕ) (turns : ℕ) : Type 0 where
  pub distinct : AreApart r.makers
  pub word_so : (t : ℕ) → r.word t ≡ word_of key t
  pub turns_so : r.turns ≡ turns

-- all were made with these members and keys
abbrev pub AllMadeWith : Roster → Ring → List SeatView → Type 0
AllMadeWith members ring [] = Unit {0}
AllMadeWith members ring (v ∷ rest) = IsMadeWith members ring v.maker × AllMadeWith members ring rest

-- seats of open parties with these ids, members and keys
pub record IsReady (members : Roster) (ring : Ring) (ids : List ReplicaId) (views : List SeatView) : Type 0 where
  pub named : ids ≡ ids_of views
  pub open_all : AllOpen views
  pub made : AllMadeWith members ring views

-- after a step the run is to go through its lines again
abbrev pub PickedTo : Rules → List ℕ → Run → List TimeoutLine → List SeatView → ChaCha → ℕ → ℕ → List Moment → Option Bool → List SeatView → ChaCha → Type 0
PickedTo r key run timeouts views g entries patience moments None now h = (steps r run ≡ []) × (now ≡ views) × (h ≡ g)
PickedTo r key run timeouts views g entries patience moments (Some grew) now h = IsOpen r key (next r run) timeouts now h (entries + cond grew 1 0) patience moments

-- a choice of any run that the seats stand at
abbrev pub Picked : List SeatView → ChaCha → Option Bool → List SeatView → ChaCha → Type 0
Picked views g told now h =
    (r : Rules) (key : List ℕ) (run : Run) (timeouts : List TimeoutLine) (entries patience : ℕ) (moments : List Moment) → AreRules r key r.turns
    → IsAt r key run timeouts views g entries patience moments → is_spent r run ≡ false
    → PickedTo r key run timeouts views g entries patience moments told now h

-- a timeout of this replica: nobody has its id; or it is given to who has
abbrev pub IsTimed : ReplicaId → List SeatView → List SeatView → Bool → Type 0
IsTimed i views now grew =
    (IsNone i (ids_of views) × (now ≡ views) × (grew ≡ false))
    ⊎ ((place : ℕ) × (place < length views)
    × ((v : SeatView) → slice_index_or views place v ≡ v
    → (is_same i v.maker.id ≡ true) × (now ≡ given_at place Mover.Timeout v views) × (grew ≡ moves v.maker v.journal Mover.Timeout)))
