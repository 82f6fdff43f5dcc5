-- From the start of a run to its end: turns until an entry is made, and the loop over entries.
use Rattle.std.proofs.Common.{◌≡◌, ℕ, zero, ◌+◌, ◌<◌, ◌≤◌, Bool, true, false, cond, List, [], ◌∷◌, map, length, refl, sym, ap, subst, ◌∙◌, arith, Some, None}
use Rattle.fab_base.specs.declared.ids.ReplicaId.{ReplicaId}
use Rattle.fab_base.specs.Limits.{Roster}
use Rattle.fault_script.specs.declared.twists.TimeoutLine.{TimeoutLine}
use Rattle.bft_verify.specs.Ring.{Ring}
use Rattle.run_words.specs.declared.logs.Moment.{Moment}
use Rattle.run_words.specs.Journal.{Maker}
use Rattle.run_words.specs.Runs.{Rules, Run, Line, Phase, journal_in, numbers_in, ended, look, is_due, next, next_in, start, pick_from, steps}
use Rattle.rand_chacha.specs.ChaCha.{ChaCha}
use Rattle.sim_sched.specs.Seats.{SeatView, seat_in, numbers_of}
use Rattle.sim_sched.specs.Simulating.{AreRules, AreLines, IsHeld, IsReady, Picked}
use Rattle.sim_sched.specs.Playing.{IsIn, IsBefore, IsEnded, WalkedBy, Walked, Turned, Quieted, Played}
use Rattle.sim_sched.specs.declared.rounds.Round.{Round}
use Rattle.sim_sched.specs.declared.rounds.Progress.{Progress}
use Rattle.sim_sched.proofs.EachInTurn.{reached_next, reached_to, spent_is, spent_not, ended_by}

own_rules : (r : Rules) (key : List ℕ) (turns : ℕ) → AreRules r key turns → AreRules r key r.turns
own_rules r key turns u = record { distinct = u.distinct; word_so = u.word_so; turns_so = refl }

-- ---- a turn

-- the run is cut off at a choice
cut_at : (r : Rules) (key : List ℕ) (turns entries patience : ℕ) (timeouts : List TimeoutLine) (moments : List Moment) (views : List SeatView) (g : ChaCha)
    → AreRules r key turns → turns ≤ entries → IsIn r key Phase.Pick timeouts views g entries patience moments → IsEnded r true views patience moments
cut_at r key turns entries patience timeouts moments views g u s (run, w, p, ls, held) =
    let end : Run = ended true run in
    let e : next r run ≡ end =
    ap (next_in r run) p
    ∙ ap (λ b. cond b (ended true run) (pick_from r run (steps r run))) (spent_is r run turns entries u.turns_so held.counted s) in
    ended_by r end views patience moments true (reached_to r run end w e) refl held.seated held.left held.noted

-- a step is picked
picked_in : (r : Rules) (key : List ℕ) (turns entries patience : ℕ) (timeouts : List TimeoutLine) (moments : List Moment) (views now : List SeatView) (g h : ChaCha) (grew : Bool)
    → AreRules r key turns → entries < turns → Picked views g (Some grew) now h → IsIn r key Phase.Pick timeouts views g entries patience moments
    → IsBefore r key timeouts now h (entries + cond grew 1 0) patience moments
picked_in r key turns entries patience timeouts moments views now g h grew u l x (run, w, p, ls, held) =
    let d = x r key run timeouts entries patience moments (own_rules r key turns u) (record { phase = p; lines = ls; held = held })
    (spent_not r run turns entries u.turns_so held.counted l) in
    (next r run, reached_next r run w, d)

numbers_all : (run : Run) (makers : List Maker)
    → numbers_of (map (seat_in run) makers) ≡ map (λ m. length (journal_in run m)) makers
numbers_all run [] = refl
numbers_all run (m ∷ rest) = ap (λ l. length (journal_in run m) ∷ l) (numbers_all run rest)

-- no step can move: the quiet moment begins
quiet_in : (r : Rules) (key : List ℕ) (turns entries patience : ℕ) (timeouts : List TimeoutLine) (moments : List Moment) (views now : List SeatView) (g h : ChaCha)
    → AreRules r key turns → entries < turns → Picked views g None now h → IsIn r key Phase.Pick timeouts views g entries patience moments
    → IsIn r key (Phase.Nudging (numbers_of now) r.makers false) timeouts now h entries patience moments
quiet_in r key turns entries patience timeouts moments views now g h u l x (run, w, p, ls, held) =
    let s = spent_not r run turns entries u.turns_so held.counted l in
    let d = x r key run timeouts entries patience moments (own_rules r key turns u) (record { phase = p; lines = ls; held = held }) s in
    let v : now ≡ map (seat_in run) r.makers = d.1 ∙ held.seated in
    let quiet_run : Run = record run { phase = Phase.Nudging (numbers_in r run) r.makers false } in
    let e : next r run ≡ quiet_run =
    ap (next_in r run) p ∙ ap (λ b. cond b (ended true run) (pick_from r run (steps r run))) s ∙ ap (pick_from r run) d.0 in (
      quiet_run,
      reached_to r run quiet_run w e,
      ap (λ n. Phase.Nudging n r.makers false) (sym (ap numbers_of v ∙ numbers_all run r.makers)),
      ls,
      record { seated = v; placed = d.2 ∙ held.placed; counted = held.counted; left = held.left; noted = held.noted },
    )

module _ (turns : ℕ) (views mid : List SeatView) (g : ChaCha) (before : ℕ) (timeouts later : List TimeoutLine) (told : Round)
    (walked : Walked turns views before timeouts told mid later) where
  walked_by : (r : Rules) (key : List ℕ) (patience : ℕ) (moments : List Moment) (spent : Bool) → told.spent ≡ spent → AreRules r key turns
      → IsBefore r key timeouts views g before patience moments → WalkedBy r key told spent later mid g patience moments
  walked_by r key patience moments spent e u b =
      subst (λ x. WalkedBy r key told x later mid g patience moments) e (walked r key g patience moments u b)

  pub turn_spent : told.spent ≡ true → Turned turns views g before timeouts Progress.Cut mid g later
  turn_spent e r key patience moments u b = walked_by r key patience moments true e u b

  pub turn_cut : (spent : Bool) → told.spent ≡ spent → turns ≤ told.entries → Turned turns views g before timeouts Progress.Cut mid g later
  turn_cut true e s r key patience moments u b = walked_by r key patience moments true e u b
  turn_cut false e s r key patience moments u b =
      cut_at r key turns told.entries patience later moments mid g u s (walked_by r key patience moments false e u b)

  pub turn_picked : (now : List SeatView) (h : ChaCha) (grew : Bool) (more : ℕ) → told.spent ≡ false → told.entries < turns → Picked mid g (Some grew) now h
      → more ≡ told.entries + cond grew 1 0 → Turned turns views g before timeouts (Progress.On more) now h later
  turn_picked now h grew more e l x m r key patience moments u b =
      subst (λ n. IsBefore r key later now h n patience moments) (sym m)
      (picked_in r key turns told.entries patience later moments mid now g h grew u l x (walked_by r key patience moments false e u b))

  pub turn_quiet : (now : List SeatView) (h : ChaCha) → told.spent ≡ false → told.entries < turns → Picked mid g None now h
      → Turned turns views g before timeouts (Progress.Rest told.entries) now h later
  turn_quiet now h e l x r key patience moments u b =
      quiet_in r key turns told.entries patience later moments mid now g h u l x (walked_by r key patience moments false e u b)

-- ---- turns

-- what the loop over refused copies keeps
pub record TurnsSo (members : Roster) (ring : Ring) (ids : List ReplicaId) (turns : ℕ) (first : List SeatView) (start_at : ChaCha) (before : ℕ) (begun : List TimeoutLine) (views : List SeatView) (g : ChaCha) (entries : ℕ) (timeouts : List TimeoutLine) : Type 0 where
  pub ready : IsReady members ring ids views
  pub within : entries ≤ turns
  pub since : before ≤ entries
  pub turned : Turned turns first start_at before begun (Progress.On entries) views g timeouts

pub turns_first : (members : Roster) (ring : Ring) (ids : List ReplicaId) (turns : ℕ) (first : List SeatView) (start_at : ChaCha) (before : ℕ) (begun : List TimeoutLine)
    → before ≤ turns → IsReady members ring ids first → TurnsSo members ring ids turns first start_at before begun first start_at before begun
turns_first members ring ids turns first start_at before begun h q = record {
  ready = q;
  within = h;
  since = omega arith;
  turned = λ r key patience moments u b. b;
}

pub turns_more : (members : Roster) (ring : Ring) (ids : List ReplicaId) (turns : ℕ) (first : List SeatView) (start_at : ChaCha) (before : ℕ) (begun : List TimeoutLine) (views now : List SeatView) (g h : ChaCha) (entries : ℕ) (timeouts later : List TimeoutLine) (told : Progress)
    → Turned turns views g entries timeouts told now h later
    → TurnsSo members ring ids turns first start_at before begun views g entries timeouts
    → Turned turns first start_at before begun told now h later
turns_more members ring ids turns first start_at before begun views now g h entries timeouts later told x s r key patience moments u b =
    x r key patience moments u (s.turned r key patience moments u b)

-- ---- the loop over entries

pub record PlaysSo (members : Roster) (ring : Ring) (ids : List ReplicaId) (turns : ℕ) (first : List SeatView) (start_at : ChaCha) (listed : List TimeoutLine) (units : ℕ) (begun : List Moment) (views : List SeatView) (g : ChaCha) (entries : ℕ) (timeouts : List TimeoutLine) (patience : ℕ) (moments : List Moment) : Type 0 where
  pub ready : IsReady members ring ids views
  pub within : entries ≤ turns
  pub plays : (r : Rules) (key : List ℕ) → AreRules r key turns → AreLines r.makers listed r.lines → IsHeld r key (start r) first start_at 0 units begun
      → IsBefore r key timeouts views g entries patience moments

pub plays_first : (members : Roster) (ring : Ring) (ids : List ReplicaId) (turns : ℕ) (first : List SeatView) (start_at : ChaCha) (listed : List TimeoutLine) (units : ℕ) (begun : List Moment)
    → IsReady members ring ids first → PlaysSo members ring ids turns first start_at listed units begun first start_at 0 listed units begun
plays_first members ring ids turns first start_at listed units begun q = record {
  ready = q;
  within = omega arith;
  plays = λ r key u l a. (start r, (zero, refl), record { lines = r.lines; phase = refl; are = l; held = a });
}

-- a run that has as many entries as it may is cut off, whatever lines are left
spent_before : (r : Rules) (key : List ℕ) (turns entries patience : ℕ) (timeouts : List TimeoutLine) (moments : List Moment) (views : List SeatView) (g : ChaCha)
    → AreRules r key turns → turns ≤ entries → IsBefore r key timeouts views g entries patience moments → IsEnded r true views patience moments
spent_before r key turns entries patience timeouts moments views g u s (run, w, o) = go o.lines o.phase
  where
    go : (ls : List Line) → run.phase ≡ Phase.Lines [] ls → IsEnded r true views patience moments
    go [] p =
        let then : Run = record run { lines = []; phase = Phase.Pick } in
        let end : Run = ended true then in
        let a = reached_to r run then w (ap (next_in r run) p) in
        let e : next r then ≡ end =
        ap (λ b. cond b (ended true then) (pick_from r then (steps r then))) (spent_is r then turns entries u.turns_so o.held.counted s) in
        ended_by r end views patience moments true (reached_to r then end a e) refl o.held.seated o.held.left o.held.noted
    go (l ∷ ls) p =
        let end : Run = ended true run in
        let e : next r run ≡ end = ap (next_in r run) p
        ∙ ap (λ b. cond b (ended true run) (look run [] l ls (is_due run l))) (spent_is r run turns entries u.turns_so o.held.counted s) in
        ended_by r end views patience moments true (reached_to r run end w e) refl o.held.seated o.held.left o.held.noted

module _ (members : Roster) (ring : Ring) (ids : List ReplicaId) (turns : ℕ) (first : List SeatView) (start_at : ChaCha) (listed : List TimeoutLine) (units : ℕ)
    (begun : List Moment) (views : List SeatView) (g : ChaCha) (entries : ℕ) (timeouts : List TimeoutLine) (patience : ℕ) (moments : List Moment)
    (so : PlaysSo members ring ids turns first start_at listed units begun views g entries timeouts patience moments) where
  pub play_spent : turns ≤ entries → Played turns first start_at listed units begun true views patience moments
  play_spent s r key u l a = spent_before r key turns entries patience timeouts moments views g u s (so.plays r key u l a)

  module _ (mid : List SeatView) (h : ChaCha) (later : List TimeoutLine) where
    pub play_cut : Turned turns views g entries timeouts Progress.Cut mid h later → Played turns first start_at listed units begun true mid patience moments
    play_cut x r key u l a = x r key patience moments u (so.plays r key u l a)

    pub play_on : (more : ℕ) → Turned turns views g entries timeouts (Progress.On more) mid h later → IsReady members ring ids mid → more ≤ turns
        → PlaysSo members ring ids turns first start_at listed units begun mid h more later patience moments
    play_on more x q n = record {
      ready = q;
      within = n;
      plays = λ r key u l a. x r key patience moments u (so.plays r key u l a);
    }

    module _ (more : ℕ) (x : Turned turns views g entries timeouts (Progress.Rest more) mid h later) (now : List SeatView) (left : ℕ) (noted : List Moment) where
      pub rest_cut : Quieted turns mid more patience moments Progress.Cut now left noted → Played turns first start_at listed units begun true now left noted
      rest_cut y r key u l a = y r key later h u (x r key patience moments u (so.plays r key u l a))

      pub rest_over : (n : ℕ) → Quieted turns mid more patience moments (Progress.Rest n) now left noted
          → Played turns first start_at listed units begun false now left noted
      rest_over n y r key u l a = y r key later h u (x r key patience moments u (so.plays r key u l a))

      pub rest_on : (after : ℕ) → Quieted turns mid more patience moments (Progress.On after) now left noted → IsReady members ring ids now → after ≤ turns
          → PlaysSo members ring ids turns first start_at listed units begun now h after later left noted
      rest_on after y q n = record {
        ready = q;
        within = n;
        plays = λ r key u l a. y r key later h u (x r key patience moments u (so.plays r key u l a));
      }
