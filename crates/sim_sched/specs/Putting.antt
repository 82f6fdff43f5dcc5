-- Copies that come to seats.
use Rattle.std.specs.Prelude.{◌≡◌, ℕ, false, List, [], ◌∷◌, ◌++◌, map, slice_set}
use Rattle.std.specs.List.{flat_map}
use Rattle.fab_base.specs.declared.ids.ReplicaId.{ReplicaId}
use Rattle.run_words.specs.Keyed.{is_same}
use Rattle.run_words.specs.Runs.{copies_of}
use Rattle.run_words.specs.declared.movers.Mover.{Mover}
use Rattle.run_words.specs.declared.logs.Pending.{Pending}
use Rattle.sim_sched.specs.Seats.{SeatView, receive, seat_given, parcels_given, seat_heard}

abbrev pub IsNone : ReplicaId → List ReplicaId → Type 0
IsNone i [] = Unit {0}
IsNone i (j ∷ rest) = (is_same i j ≡ false) × IsNone i rest

abbrev pub AreDistinct : List ReplicaId → Type 0
AreDistinct [] = Unit {0}
AreDistinct (i ∷ rest) = IsNone i rest × AreDistinct rest

abbrev pub ids_of : List SeatView → List ReplicaId
ids_of views = map (λ v. v.maker.id) views

abbrev pub with_copy : Pending → SeatView → SeatView
with_copy c s = record s { way = s.way ++ c ∷ [] }

-- an event at a place, with what it puts
abbrev pub given_at : ℕ → Mover → SeatView → List SeatView → List SeatView
given_at place mover v views =
    map (receive (flat_map (copies_of v.maker.id) (parcels_given mover v))) (slice_set views place (seat_given mover v))

-- a hearing at a place
abbrev pub heard_at : ℕ → ℕ → Pending → SeatView → List SeatView → List SeatView
heard_at place k c v views = slice_set views place (seat_heard k c v)
