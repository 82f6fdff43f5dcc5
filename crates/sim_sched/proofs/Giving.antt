-- What is left at the seats when an event is given at a place.
use Rattle.std.proofs.Common.{◌≡◌, ℕ, zero, suc, ◌<◌, Bool, true, false, cond, List, [], ◌∷◌, map, length, get_or, set, refl, sym, ap, subst, ◌∙◌, arith, Ok, Err, Result, IfOk, flat_map}
use Rattle.fab_base.specs.declared.ids.ReplicaId.{ReplicaId}
use Rattle.run_words.specs.declared.movers.Mover.{Mover}
use Rattle.run_words.specs.declared.logs.Parcel.{Parcel}
use Rattle.run_words.specs.declared.logs.Pending.{Pending}
use Rattle.run_words.specs.Runs.{copies_of}
use Rattle.run_words.specs.Journal.{Maker, moves, entry_of, reads}
use Rattle.sim_sched.specs.Seats.{SeatView, receive, seat_given, parcels_given, seat_heard, with_one, is_read}
use Rattle.sim_sched.specs.Putting.{ids_of, given_at}
use Rattle.sim_sched.specs.Simulating.{Acts}
use Rattle.sim_sched.specs.declared.seats.Choice.{Choice}
use Rattle.sim_sched.proofs.Receiving.{map_set, at_mapped, id_at}
use Rattle.sim_sched.proofs.Picking.{long_map}

pub given_maker : (mover : Mover) (v : SeatView) → (seat_given mover v).maker ≡ v.maker
unfolding seat_given
given_maker mover v = go (moves v.maker v.journal mover)
  where
    go : (b : Bool) → (cond b (with_one (entry_of v.maker v.journal mover) v) v).maker ≡ v.maker
    go true = refl
    go false = refl

pub ids_set : (views : List SeatView) (k : ℕ) (v : SeatView) → v.maker.id ≡ (get_or views k v).maker.id
    → ids_of (set views k v) ≡ ids_of views
ids_set [] zero v e = refl
ids_set [] (suc k) v e = refl
ids_set (x ∷ rest) zero v e = ap (λ i. i ∷ ids_of rest) e
ids_set (x ∷ rest) (suc k) v e = ap (λ l. x.maker.id ∷ l) (ids_set rest k v e)

pub view_at : {X : Type 0} (f : X → SeatView) (xs : List X) (place : ℕ) (was : X) (v : SeatView) → place < length xs
    → get_or (map f xs) place v ≡ v → f (get_or xs place was) ≡ v
view_at f xs place was v h e = sym (at_mapped f xs place was v h) ∙ e

pub still_named : {X : Type 0} (f : X → SeatView) (xs : List X) (ids : List ReplicaId) (place : ℕ) (was now : X) (mover : Mover)
    → ids ≡ ids_of (map f xs) → place < length xs → f now ≡ seat_given mover (f (get_or xs place was))
    → ids ≡ ids_of (map f (set xs place now))
still_named f xs ids place was now mover i h e =
    let m : (f now).maker.id ≡ (f (get_or xs place was)).maker.id = ap (λ (v : SeatView). v.maker.id) e
    ∙ ap (λ (m : Maker). m.id) (given_maker mover (f (get_or xs place was))) in
    let q : get_or (map f xs) place (f now) ≡ f (get_or xs place was) = at_mapped f xs place was (f now) h in
    i ∙ sym (ap ids_of (map_set f xs place now) ∙ ids_set (map f xs) place (f now) (m ∙ sym (ap (λ (v : SeatView). v.maker.id) q)))

pub id_there : {X : Type 0} (f : X → SeatView) (xs : List X) (ids : List ReplicaId) (place : ℕ) (d : ReplicaId) (v : SeatView)
    → ids ≡ ids_of (map f xs) → place < length xs → get_or (map f xs) place v ≡ v → get_or ids place d ≡ v.maker.id
id_there f xs ids place d v i h e =
    let n : length (map f xs) ≡ length xs = long_map f xs in
    ap (λ (l : List ReplicaId). get_or l place d) i ∙ id_at (map f xs) place v d (omega arith) ∙ ap (λ (x : SeatView). x.maker.id) e

pub gave : {X : Type 0} (f : X → SeatView) (xs : List X) (place : ℕ) (was now : X) (mover : Mover) (parcels : List Parcel) (grew : Bool) (from : ReplicaId) (v : SeatView) (views : List SeatView)
    → place < length xs → get_or (map f xs) place v ≡ v → f now ≡ seat_given mover (f (get_or xs place was))
    → parcels ≡ parcels_given mover (f (get_or xs place was))
    → grew ≡ moves (f (get_or xs place was)).maker (f (get_or xs place was)).journal mover → from ≡ v.maker.id
    → views ≡ map (receive (flat_map (copies_of from) parcels)) (map f (set xs place now))
    → (views ≡ given_at place mover v (map f xs)) × (grew ≡ moves v.maker v.journal mover)
gave f xs place was now mover parcels grew from v views h e s p b i w =
    let q = view_at f xs place was v h e in (
      w ∙ ap (λ (l : List SeatView). map (receive (flat_map (copies_of from) parcels)) l) (map_set f xs place now)
          ∙ ap (λ x. map (receive (flat_map (copies_of from) parcels)) (set (map f xs) place x)) (s ∙ ap (seat_given mover) q)
          ∙ ap (λ (l : List Parcel). map (receive (flat_map (copies_of from) l)) (set (map f xs) place (seat_given mover v)))
          (p ∙ ap (parcels_given mover) q)
          ∙ ap (λ x. map (receive (flat_map (copies_of x) (parcels_given mover v))) (set (map f xs) place (seat_given mover v))) i,
      b ∙ ap (λ (x : SeatView). moves x.maker x.journal mover) q,
    )

pub heard_there : {X E : Type 0} (f : X → SeatView) (xs : List X) (place k : ℕ) (was now : X) (told : Result Bool E) → place < length xs
    → IfOk told (λ grew. (c : Pending) → get_or (f (get_or xs place was)).way k c ≡ c
    → (f now ≡ seat_heard k c (f (get_or xs place was))) × (grew ≡ is_read (reads (f (get_or xs place was)).maker c.load)))
    → IfOk told (λ grew. (v : SeatView) → get_or (map f xs) place v ≡ v
    → Acts place (Choice.Hear k) v (map f xs) (map f (set xs place now)) grew)
heard_there f xs place k was now (Err e) h t = tt
heard_there f xs place k was now (Ok grew) h t =
    λ v e c g.
    let q = view_at f xs place was v h e in
    let d = t c (subst (λ (x : SeatView). get_or x.way k c ≡ c) (sym q) g) in (
      map_set f xs place now ∙ ap (λ x. set (map f xs) place x) (d.0 ∙ ap (seat_heard k c) q),
      d.1
          ∙ ap (λ (x : SeatView). is_read (reads x.maker c.load)) q,
    )
