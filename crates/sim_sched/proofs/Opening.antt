-- How a run begins, and what it leaves.
use Rattle.std.proofs.Common.{◌≡◌, ℕ, Bool, false, List, [], ◌∷◌, ◌++◌, map, length, take, refl, sym, ap, subst, ◌∙◌, Result, Ok, Err, IfOk}
use Rattle.fab_base.specs.declared.ids.ReplicaId.{ReplicaId}
use Rattle.run_words.specs.declared.logs.Entry.{Entry}
use Rattle.run_words.specs.declared.logs.Moment.{Moment}
use Rattle.run_words.specs.declared.logs.Pending.{Pending}
use Rattle.run_words.specs.declared.logs.Trace.{Trace}
use Rattle.run_words.specs.declared.logs.Transcript.{Transcript}
use Rattle.fab_base.specs.Limits.{Roster}
use Rattle.fault_script.specs.declared.scripts.Script.{Script}
use Rattle.fault_script.specs.declared.twists.TimeoutLine.{TimeoutLine}
use Rattle.bft_verify.specs.Ring.{Ring}
use Rattle.run_words.specs.Journal.{Maker}
use Rattle.run_words.specs.Lawful.{IsApart, AreApart}
use Rattle.run_words.specs.Runs.{Rules, Run, start, after, trace_in}
use Rattle.rand_chacha.specs.ChaCha.{ChaCha, key_of, of_seed}
use Rattle.sim_sched.specs.Seats.{SeatView, AllOpen, receive, seat_in}
use Rattle.sim_sched.specs.Putting.{IsNone, AreDistinct, ids_of}
use Rattle.sim_sched.specs.Simulating.{AreRules, AllMadeWith, IsHeld, IsReady}
use Rattle.sim_sched.specs.Playing.{Played}
use Rattle.sim_sched.proofs.Receiving.{mapped_more}
use Rattle.sim_sched.specs.Whole.{seed_bytes, rules_of, IsRunBy, AreFresh, AreMadeWith, empty_seat, seat_trace}

take_front : {X : Type 0} (xs ys : List X) → take (length xs) (xs ++ ys) ≡ xs
take_front [] ys = refl
take_front (x ∷ xs) ys = ap (λ l. x ∷ l) (take_front xs ys)

-- what a slice of a `Vec` is after a call
pub put_back : {X : Type 0} (n : ℕ) (xs ys : List X) → n ≡ length xs → take n (xs ++ ys) ≡ xs
put_back n xs ys e = ap (λ k. take k (xs ++ ys)) e ∙ take_front xs ys

module _ {P : Type 0} (made : P → Maker) (journal : P → List Entry) (shut : P → Bool) where
  pub ids_fresh : (parties : List P) → ids_of (map (empty_seat made journal shut) parties) ≡ map (λ p. (made p).id) parties
  ids_fresh [] = refl
  ids_fresh (p ∷ rest) = ap (λ l. (made p).id ∷ l) (ids_fresh rest)

  open_fresh : (parties : List P) → AreFresh journal shut parties → AllOpen (map (empty_seat made journal shut) parties)
  open_fresh [] f = tt
  open_fresh (p ∷ rest) f = (f.0.1, open_fresh rest f.1)

  made_fresh : (members : Roster) (ring : Ring) (parties : List P) → AreMadeWith made members ring parties
      → AllMadeWith members ring (map (empty_seat made journal shut) parties)
  made_fresh members ring [] f = tt
  made_fresh members ring (p ∷ rest) f = (f.0, made_fresh members ring rest f.1)

  pub ready_first : (members : Roster) (ring : Ring) (parties : List P) (ids : List ReplicaId) (views : List SeatView)
      → ids ≡ map (λ p. (made p).id) parties → AreFresh journal shut parties → AreMadeWith made members ring parties
      → views ≡ map (empty_seat made journal shut) parties → IsReady members ring ids views
  ready_first members ring parties ids views i f m v =
      subst (λ (l : List SeatView). IsReady members ring ids l) (sym v)
      (record { named = i ∙ sym (ids_fresh parties); open_all = open_fresh parties f; made = made_fresh members ring parties m })

  none_apart : (m : Maker) (parties : List P) → IsNone m.id (map (λ p. (made p).id) parties) → IsApart m (map made parties)
  none_apart m [] n = tt
  none_apart m (p ∷ rest) n = (n.0, none_apart m rest n.1)

  apart_makers : (parties : List P) → AreDistinct (map (λ p. (made p).id) parties) → AreApart (map made parties)
  apart_makers [] d = tt
  apart_makers (p ∷ rest) d = (none_apart (made p) rest d.0, apart_makers rest d.1)

  seat_first : (r : Rules) (p : P) → journal p ≡ [] → shut p ≡ false
      → receive r.requests (empty_seat made journal shut p) ≡ seat_in (start r) (made p)
  seat_first r p j s =
      let f : List Entry → SeatView = λ l. record (receive r.requests (empty_seat made journal shut p)) { journal = l } in
      let g : Bool → SeatView = λ b. record (seat_in (start r) (made p)) { shut = b } in
      ap f j ∙ ap g s

  seats_first : (r : Rules) (parties : List P) → AreFresh journal shut parties
      → map (receive r.requests) (map (empty_seat made journal shut) parties) ≡ map (seat_in (start r)) (map made parties)
  seats_first r [] f = refl
  seats_first r (p ∷ rest) f =
      ap (λ x. x ∷ map (receive r.requests) (map (empty_seat made journal shut) rest)) (seat_first r p f.0.0 f.0.1)
      ∙ ap (λ l. seat_in (start r) (made p) ∷ l) (seats_first r rest f.1)

  traces_of : (run : Run) (makers : List Maker) → map seat_trace (map (seat_in run) makers) ≡ map (trace_in run) makers
  traces_of run [] = refl
  traces_of run (m ∷ rest) = ap (λ l. trace_in run m ∷ l) (traces_of run rest)

  pub schedule : (script : Script) (parties : List P) (ids : List ReplicaId) (requests : List (ReplicaId × Pending)) (limit : ℕ)
      (views now : List SeatView) (g : ChaCha) (begun later : List Moment) (left : ℕ) (spent : Bool) (traces : List Trace) → ids ≡ map (λ p. (made p).id) parties
      → AreDistinct ids → AreFresh journal shut parties → limit ≡ script.turns → views ≡ map (receive requests) (map (empty_seat made journal shut) parties)
      → g ≡ of_seed (seed_bytes script.seed) → begun ≡ [] → Played limit views g script.timeouts script.patience begun spent now left later
      → traces ≡ map seat_trace now
      → IsRunBy script (map made parties) requests (record { script = script; traces = traces; moments = later; timeouts_left = left }) spent
  schedule script parties ids requests limit views now g begun later left spent traces i d f t v w b played e lines are =
      let r = rules_of script (map made parties) lines requests in
      let rules : AreRules r (key_of (seed_bytes script.seed)) limit =
      record { distinct = apart_makers parties (subst AreDistinct i d); word_so = λ t. refl; turns_so = sym t } in
      let held : IsHeld r (key_of (seed_bytes script.seed)) (start r) views g 0 script.patience begun = record {
        seated = v ∙ seats_first r parties f;
        placed = w;
        counted = refl;
        left = refl;
        noted = b;
      } in
      let end = played r (key_of (seed_bytes script.seed)) rules are held in
      let run : Run = after r end.number in
      let by_traces : List Trace → Transcript = λ l. record { script = script; traces = l; moments = later; timeouts_left = left } in
      let by_moments : List Moment → Transcript = λ l. record
      { script = script; traces = map (trace_in run) (map made parties); moments = l; timeouts_left = left } in
      let by_left : ℕ → Transcript = λ n. record
      { script = script; traces = map (trace_in run) (map made parties); moments = run.moments; timeouts_left = n } in (
        end.number,
        end.phase,
        ap by_traces (e ∙ ap (map seat_trace) end.seated ∙ traces_of run (map made parties)) ∙ ap by_moments end.noted
            ∙ ap by_left end.left,
      )

open_more : {X : Type 0} (f : X → SeatView) (xs : List X) (x : X) → AllOpen (map f (xs ++ x ∷ []))
    → AllOpen (map f xs) × ((f x).shut ≡ false)
open_more f [] x a = (tt, a.0)
open_more f (y ∷ ys) x a = let r = open_more f ys x a.1 in ((a.0, r.0), r.1)

-- a trace more
pub collected : {X : Type 0} (f : X → SeatView) (xs : List X) (x : X) (traces now : List Trace) (t : Trace)
    → (AllOpen (map f xs) → traces ≡ map seat_trace (map f xs)) → ((f x).shut ≡ false → t ≡ seat_trace (f x)) → now ≡ traces ++ t ∷ []
    → AllOpen (map f (xs ++ x ∷ [])) → now ≡ map seat_trace (map f (xs ++ x ∷ []))
collected f xs x traces now t h s e a =
    let o = open_more f xs x a in
    e ∙ ap (λ l. l ++ t ∷ []) (h o.0) ∙ ap (λ y. map seat_trace (map f xs) ++ y ∷ []) (s o.1)
    ∙ sym (ap (map seat_trace) (mapped_more f xs x) ∙ mapped_more seat_trace (map f xs) (f x))

pub played_so : {E : Type 0} (turns : ℕ) (views first now : List SeatView) (g h : ChaCha) (timeouts : List TimeoutLine) (patience left : ℕ) (begun later : List Moment) (told : Result Bool E)
    → views ≡ first → g ≡ h → IfOk told (λ spent. Played turns views g timeouts patience begun spent now left later)
    → IfOk told (λ spent. Played turns first h timeouts patience begun spent now left later)
played_so turns views first now g h timeouts patience left begun later (Err e) v w t = tt
played_so turns views first now g h timeouts patience left begun later (Ok spent) v w t =
    subst (λ (q : ChaCha). Played turns first q timeouts patience begun spent now left later) w
    (subst (λ (l : List SeatView). Played turns l g timeouts patience begun spent now left later) v t)
