-- What a run sees of a replica's seat, and what each call does to it.
use Rattle.std.specs.Prelude.{◌≡◌, ℕ, zero, suc, ◌+◌, Bool, true, false, cond, List, [], ◌∷◌, ◌++◌, map, length, Option, Some, None, Result, Ok, Err, slice_index_or, ◌<◌}
use Rattle.std.specs.List.{remove, flat_map}
use Rattle.fab_base.specs.declared.ids.ReplicaId.{ReplicaId}
use Rattle.fab_base.specs.declared.messages.Message.{Message}
use Rattle.run_words.specs.Keyed.{of}
use Rattle.run_words.specs.Journal.{Maker, walk, added, moves, entry_of, reads}
use Rattle.run_words.specs.Runs.{Run, Step, hearings, journal_in, waiting_in, declined_in, turned_by, turned_of}
use Rattle.run_words.specs.declared.logs.Entry.{Entry}
use Rattle.run_words.specs.declared.movers.Mover.{Mover}
use Rattle.run_words.specs.declared.logs.Parcel.{Parcel}
use Rattle.run_words.specs.declared.logs.Origin.{Origin}
use Rattle.run_words.specs.declared.logs.Pending.{Pending}
use Rattle.run_words.specs.declared.logs.Turned.{Turned}
use Rattle.bft_verify.specs.declared.refusals.Refusal.{Refusal}
use Rattle.sim_sched.specs.declared.seats.Seat.{Seat}
use Rattle.sim_sched.specs.declared.seats.Choice.{Choice}

pub record SeatView : Type 0 where
  pub maker : Maker
  pub journal : List Entry
  pub shut : Bool
  pub way : List Pending
  pub turned : List Turned

abbrev pub seen : {P : Type 0} → (P → Maker) → (P → List Entry) → (P → Bool) → Seat P → SeatView
seen made journal shut s =
    record { maker = made s.party; journal = journal s.party; shut = shut s.party; way = s.way.items; turned = s.refused }

-- what a run has at a replica
abbrev pub seat_in : Run → Maker → SeatView
seat_in run m = record { maker = m; journal = journal_in run m; shut = false; way = waiting_in run m; turned = flat_map turned_of (declined_in run m) }

-- ---- steps

abbrev pub can : SeatView → Mover → List Step
can s mover = cond (moves s.maker s.journal mover) (Step.Give s.maker mover ∷ []) []

unfoldable pub seat_steps : SeatView → List Step
seat_steps s =
    hearings s.maker 0 s.way ++ (can s Mover.Batch ++ (can s Mover.Emit ++ (can s Mover.Execute ++ can s Mover.Checkpoint)))

abbrev pub all_steps : List SeatView → List Step
all_steps [] = []
all_steps (s ∷ rest) = seat_steps s ++ all_steps rest

-- the number behind an event, where that can be given; none where the number is the event's own
abbrev pub number_behind : Bool → ℕ → Option ℕ
number_behind true zero = None
number_behind true (suc k) = Some k
number_behind false k = Some k

abbrev pub choice_or : Mover → (ℕ → Choice) → Option ℕ → Choice
choice_or mover later None = Choice.Give mover
choice_or mover later (Some k) = later k

-- the step of this number among the events, where these can be given
abbrev pub choice_after_emit : Bool → ℕ → Choice
choice_after_emit x n = choice_or Mover.Execute (λ k. Choice.Give Mover.Checkpoint) (number_behind x n)

abbrev pub choice_after_batch : Bool → Bool → ℕ → Choice
choice_after_batch e x n = choice_or Mover.Emit (choice_after_emit x) (number_behind e n)

abbrev pub choice_after : Bool → Bool → Bool → ℕ → Choice
choice_after b e x n = choice_or Mover.Batch (choice_after_batch e x) (number_behind b n)

abbrev pub IsChosen : SeatView → Choice → Step → Type 0
IsChosen s (Choice.Hear j) (Step.Hear m k c) = (m ≡ s.maker) × (k ≡ j)
IsChosen s (Choice.Give w) (Step.Give m v) = (m ≡ s.maker) × (v ≡ w)
IsChosen s (Choice.Hear j) (Step.Give m v) = ⊥
IsChosen s (Choice.Give w) (Step.Hear m k c) = ⊥

-- a copy that is to be heard is there; an event that is to be given would make an entry
abbrev pub IsPossible : SeatView → Choice → Type 0
IsPossible s (Choice.Hear k) = k < length s.way
IsPossible s (Choice.Give mover) = moves s.maker s.journal mover ≡ true

-- the step of this number over all is this one at that place
pub record Finds (views : List SeatView) (number place own : ℕ) : Type 0 where
  pub within : place < length views
  pub own_within : (d : SeatView) → own < length (seat_steps (slice_index_or views place d))
  pub same : (d : SeatView) (s : Step)
      → slice_index_or (all_steps views) number s ≡ slice_index_or (seat_steps (slice_index_or views place d)) own s

-- ---- events at a seat

abbrev pub with_one : Entry → SeatView → SeatView
with_one e s = record s { journal = s.journal ++ e ∷ [] }

unfoldable pub seat_given : Mover → SeatView → SeatView
seat_given mover s = cond (moves s.maker s.journal mover) (with_one (entry_of s.maker s.journal mover) s) s

unfoldable pub parcels_given : Mover → SeatView → List Parcel
parcels_given mover s = cond (moves s.maker s.journal mover) (added s.maker (walk s.maker s.journal) (entry_of s.maker s.journal mover)) []

abbrev pub with_turned : Origin → ℕ → Refusal → SeatView → SeatView
with_turned origin number refusal s = record s { turned = s.turned ++ turned_by number refusal origin }

abbrev pub heard_by : Pending → SeatView → Result Message Refusal → SeatView
heard_by c s (Ok x) = with_one (Entry.Heard c.origin x) s
heard_by c s (Err refusal) = with_turned c.origin c.number refusal s

-- the copy at a place is taken out, and heard or noted
unfoldable pub seat_heard : ℕ → Pending → SeatView → SeatView
seat_heard k c s = heard_by c (record s { way = remove s.way k }) (reads s.maker c.load)

abbrev pub is_read : {A B : Type 0} → Result A B → Bool
is_read (Ok x) = true
is_read (Err e) = false

-- a copy comes to those that have its receiver's id
abbrev pub receive : List (ReplicaId × Pending) → SeatView → SeatView
receive copies s = record s { way = s.way ++ of s.maker.id copies }

-- how many entries each journal has
abbrev pub numbers_of : List SeatView → List ℕ
numbers_of views = map (λ v. length v.journal) views

-- how many copies are on their way
abbrev pub copies : List SeatView → ℕ
copies [] = 0
copies (s ∷ rest) = length s.way + copies rest

abbrev pub AllOpen : List SeatView → Type 0
AllOpen [] = Unit {0}
AllOpen (s ∷ rest) = (s.shut ≡ false) × AllOpen rest
