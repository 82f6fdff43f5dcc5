-- Seats stay open and keep their ids.
use Rattle.std.proofs.Common.{◌≡◌, ℕ, zero, suc, ◌<◌, Bool, true, false, cond, List, [], ◌∷◌, map, length, get_or, set, refl, sym, ap, subst, ◌∙◌, arith, Ok, Err, Result, remove}
use Rattle.fab_base.specs.declared.ids.ReplicaId.{ReplicaId}
use Rattle.fab_base.specs.declared.messages.Message.{Message}
use Rattle.run_words.specs.declared.movers.Mover.{Mover}
use Rattle.run_words.specs.declared.logs.Pending.{Pending}
use Rattle.bft_verify.specs.declared.refusals.Refusal.{Refusal}
use Rattle.fab_base.specs.Limits.{Roster}
use Rattle.bft_verify.specs.Ring.{Ring}
use Rattle.run_words.specs.Journal.{Maker, moves, entry_of, reads}
use Rattle.copy_reader.specs.Reading.{IsMadeWith}
use Rattle.sim_sched.specs.declared.seats.Choice.{Choice}
use Rattle.sim_sched.specs.Seats.{SeatView, AllOpen, IsPossible, receive, seat_given, seat_heard, heard_by, with_one}
use Rattle.sim_sched.specs.Putting.{given_at}
use Rattle.sim_sched.specs.Simulating.{Acts, AllMadeWith, IsReady}
use Rattle.sim_sched.proofs.Receiving.{same_ids}
use Rattle.sim_sched.proofs.Giving.{ids_set, given_maker}

pub some_at : {X : Type 0} (xs : List X) (k : ℕ) → k < length xs → (x : X) × (get_or xs k x ≡ x)
some_at [] k h = absurd (omega arith)
some_at (x ∷ xs) zero h = (x, refl)
some_at (x ∷ xs) (suc k) h = some_at xs k (omega arith)

open_set : (views : List SeatView) (k : ℕ) (v : SeatView) → v.shut ≡ false → AllOpen views → AllOpen (set views k v)
open_set [] zero v e a = tt
open_set [] (suc k) v e a = tt
open_set (x ∷ rest) zero v e a = (e, a.1)
open_set (x ∷ rest) (suc k) v e a = (a.0, open_set rest k v e a.1)

open_received : (views : List SeatView) (copies : List (ReplicaId × Pending)) → AllOpen views → AllOpen (map (receive copies) views)
open_received [] copies a = tt
open_received (x ∷ rest) copies a = (a.0, open_received rest copies a.1)

open_there : (views : List SeatView) (k : ℕ) (v : SeatView) → k < length views → get_or views k v ≡ v → AllOpen views → v.shut ≡ false
open_there [] k v h e a = absurd (omega arith)
open_there (x ∷ rest) zero v h e a = ap (λ (y : SeatView). y.shut) (sym e) ∙ a.0
open_there (x ∷ rest) (suc k) v h e a = open_there rest k v (omega arith) e a.1

made_set : (members : Roster) (ring : Ring) (views : List SeatView) (k : ℕ) (v : SeatView) → IsMadeWith members ring v.maker
    → AllMadeWith members ring views → AllMadeWith members ring (set views k v)
made_set members ring [] zero v e a = tt
made_set members ring [] (suc k) v e a = tt
made_set members ring (x ∷ rest) zero v e a = (e, a.1)
made_set members ring (x ∷ rest) (suc k) v e a = (a.0, made_set members ring rest k v e a.1)

made_received : (members : Roster) (ring : Ring) (views : List SeatView) (copies : List (ReplicaId × Pending))
    → AllMadeWith members ring views → AllMadeWith members ring (map (receive copies) views)
made_received members ring [] copies a = tt
made_received members ring (x ∷ rest) copies a = (a.0, made_received members ring rest copies a.1)

pub made_there : (members : Roster) (ring : Ring) (views : List SeatView) (k : ℕ) (v : SeatView) → k < length views → get_or views k v ≡ v
    → AllMadeWith members ring views → IsMadeWith members ring v.maker
made_there members ring [] k v h e a = absurd (omega arith)
made_there members ring (x ∷ rest) zero v h e a = subst (λ (y : SeatView). IsMadeWith members ring y.maker) e a.0
made_there members ring (x ∷ rest) (suc k) v h e a = made_there members ring rest k v (omega arith) e a.1

given_shut : (mover : Mover) (v : SeatView) → (seat_given mover v).shut ≡ v.shut
unfolding seat_given
given_shut mover v = go (moves v.maker v.journal mover)
  where
    go : (b : Bool) → (cond b (with_one (entry_of v.maker v.journal mover) v) v).shut ≡ v.shut
    go true = refl
    go false = refl

heard_keeps : (k : ℕ) (c : Pending) (v : SeatView) → ((seat_heard k c v).shut ≡ v.shut) × ((seat_heard k c v).maker ≡ v.maker)
unfolding seat_heard
heard_keeps k c v = go (reads v.maker c.load)
  where
    go : (q : Result Message Refusal)
        → ((heard_by c (record v { way = remove v.way k }) q).shut ≡ v.shut) × ((heard_by c (record v { way = remove v.way k }) q).maker
        ≡ v.maker)
    go (Ok x) = (refl, refl)
    go (Err e) = (refl, refl)

set_any : (views : List SeatView) (k : ℕ) (a b : SeatView) → k < length views → get_or views k a ≡ get_or views k b
set_any [] k a b h = absurd (omega arith)
set_any (x ∷ rest) zero a b h = refl
set_any (x ∷ rest) (suc k) a b h = set_any rest k a b (omega arith)

ready_set : (members : Roster) (ring : Ring) (ids : List ReplicaId) (views : List SeatView) (k : ℕ) (v w : SeatView) → k < length views
    → get_or views k v ≡ v → w.shut ≡ v.shut → w.maker ≡ v.maker → IsReady members ring ids views → IsReady members ring ids (set views k w)
ready_set members ring ids views k v w h e s m a =
    let q : get_or views k w ≡ v = set_any views k w v h ∙ e in
    record {
      named = a.named ∙ sym (ids_set views k w (ap (λ (x : Maker). x.id) m ∙ ap (λ (y : SeatView). y.maker.id) (sym q)));
      open_all = open_set views k w (s ∙ open_there views k v h e a.open_all) a.open_all;
      made = made_set members ring views k w
          (subst (λ (x : Maker). IsMadeWith members ring x) (sym m) (made_there members ring views k v h e a.made)) a.made;
    }

pub ready_received : (members : Roster) (ring : Ring) (ids : List ReplicaId) (views now : List SeatView) (copies : List (ReplicaId × Pending))
    → now ≡ map (receive copies) views → IsReady members ring ids views → IsReady members ring ids now
ready_received members ring ids views now copies e a =
    subst (λ (l : List SeatView). IsReady members ring ids l) (sym e)
    (record {
      named = a.named
          ∙ sym (same_ids views copies);
      open_all = open_received views copies a.open_all;
      made = made_received members ring views
          copies a.made;
    })

pub ready_given : (members : Roster) (ring : Ring) (ids : List ReplicaId) (views : List SeatView) (place : ℕ) (mover : Mover) (v : SeatView)
    → place < length views → get_or views place v ≡ v → IsReady members ring ids views
    → IsReady members ring ids (given_at place mover v views)
ready_given members ring ids views place mover v h e a =
    let s = ready_set members ring ids views place v (seat_given mover v) h e (given_shut mover v) (given_maker mover v) a in
    ready_received members ring ids _ _ _ refl s

pub ready_acted : (members : Roster) (ring : Ring) (ids : List ReplicaId) (place : ℕ) (choice : Choice) (v : SeatView) (views now : List SeatView) (grew : Bool)
    → place < length views → get_or views place v ≡ v → IsPossible v choice → Acts place choice v views now grew
    → IsReady members ring ids views → IsReady members ring ids now
ready_acted members ring ids place (Choice.Hear k) v views now grew h e p x a =
    let c = some_at v.way k p in
    let d = x c.0 c.1 in
    let q = heard_keeps k c.0 v in
    subst (λ (l : List SeatView). IsReady members ring ids l) (sym d.0) (ready_set members ring ids views place v _ h e q.0 q.1 a)
ready_acted members ring ids place (Choice.Give mover) v views now grew h e p x a =
    subst (λ (l : List SeatView). IsReady members ring ids l) (sym x.0) (ready_given members ring ids views place mover v h e a)
