-- A step that makes no entry takes a copy off the way.
use Rattle.std.proofs.Common.{◌≡◌, ℕ, zero, suc, ◌+◌, ◌<◌, Bool, false, List, [], ◌∷◌, length, get_or, set, refl, ap, arith, Ok, Err, Result, remove}
use Rattle.std.proofs.lemmas.List.Edits.{length-remove}
use Rattle.fab_base.specs.declared.messages.Message.{Message}
use Rattle.bft_verify.specs.declared.refusals.Refusal.{Refusal}
use Rattle.run_words.specs.declared.logs.Pending.{Pending}
use Rattle.run_words.specs.Journal.{reads}
use Rattle.sim_sched.specs.declared.seats.Choice.{Choice}
use Rattle.sim_sched.specs.Seats.{SeatView, IsPossible, copies, heard_by, seat_heard}
use Rattle.sim_sched.specs.Simulating.{Acts}
use Rattle.sim_sched.proofs.Ready.{some_at}

way_heard : (k : ℕ) (c : Pending) (s : SeatView) → (seat_heard k c s).way ≡ remove s.way k
unfolding seat_heard
way_heard k c s = go (reads s.maker c.load)
  where
    go : (q : Result Message Refusal) → (heard_by c (record s { way = remove s.way k }) q).way ≡ remove s.way k
    go (Ok x) = refl
    go (Err e) = refl

copies_set : (views : List SeatView) (k : ℕ) (v w : SeatView) → k < length views → get_or views k v ≡ v
    → copies (set views k w) + length v.way ≡ copies views + length w.way
copies_set [] k v w h e = absurd (omega arith)
copies_set (x ∷ rest) zero v w h e =
    let n : length x.way ≡ length v.way = ap (λ (s : SeatView). length s.way) e in
    omega arith
copies_set (x ∷ rest) (suc k) v w h e =
    let r = copies_set rest k v w (omega arith) e in
    omega arith

pub fewer : (place : ℕ) (choice : Choice) (v : SeatView) (views now : List SeatView) (grew : Bool) → grew ≡ false → place < length views
    → get_or views place v ≡ v → IsPossible v choice → Acts place choice v views now grew → copies views ≡ copies now + 1
fewer place (Choice.Hear k) v views now grew f h e p x =
    let c = some_at v.way k p in
    let w = seat_heard k c.0 v in
    let n : copies now ≡ copies (set views place w) = ap copies (x c.0 c.1).0 in
    let s = copies_set views place v w h e in
    let t : length w.way ≡ length (remove v.way k) = ap length (way_heard k c.0 v) in
    let one = length-remove v.way k p in
    omega arith
fewer place (Choice.Give mover) v views now grew f h e p x = absurd (cc)
