-- One event after another: one of the code is one step of the fold.
use Rattle.std.proofs.Common.{◌≡◌, ℕ, zero, suc, ◌+◌, ◌<◌, ◌≤◌, Bool, true, false, cond, ◌||◌, List, [], ◌∷◌, map, length, get_or, drop, refl, sym, ap, subst, ◌∙◌, arith, add-one, add-zero}
use Rattle.std.proofs.lemmas.Bool.Decides.{nat_tests}
use Rattle.fab_base.specs.declared.ids.ReplicaId.{ReplicaId}
use Rattle.fault_script.specs.declared.twists.TimeoutLine.{TimeoutLine}
use Rattle.run_words.specs.declared.movers.Mover.{Mover}
use Rattle.run_words.specs.declared.logs.Moment.{Moment}
use Rattle.fab_base.specs.Limits.{Roster}
use Rattle.bft_verify.specs.Ring.{Ring}
use Rattle.run_words.specs.Journal.{Maker, moves}
use Rattle.run_words.specs.Runs.{Rules, Run, Phase, journal_in, give, over, ended, next, is_spent}
use Rattle.rand_chacha.specs.ChaCha.{ChaCha}
use Rattle.sim_sched.specs.Seats.{SeatView, seat_in}
use Rattle.sim_sched.specs.Putting.{given_at}
use Rattle.sim_sched.specs.Simulating.{AreRules, AreLines, IsHeld, generator_at, IsReady}
use Rattle.sim_sched.specs.Playing.{IsReached, IsIn, IsEnded, with_moment, IsRound}
use Rattle.sim_sched.proofs.Picking.{long_map}
use Rattle.sim_sched.proofs.Picked.{beside_give}
use Rattle.sim_sched.proofs.Ready.{some_at, ready_given}
use Rattle.sim_sched.proofs.Bridge.{IsPlaced, placed, placed_view, given_is, given_long}

pub reached_next : (r : Rules) (run : Run) → IsReached r run → IsReached r (next r run)
reached_next r run (n, e) = (suc n, ap (next r) e)

-- the run after it, by its name
pub reached_to : (r : Rules) (run now : Run) → IsReached r run → next r run ≡ now → IsReached r now
reached_to r run now w e = subst (λ (x : Run). IsReached r x) e (reached_next r run w)

drop_placed : (makers : List Maker) (k : ℕ) (m : Maker) → IsPlaced k makers m → drop k makers ≡ m ∷ drop (suc k) makers
drop_placed [] k m p = absurd p
drop_placed (n ∷ rest) zero m p = ap (λ x. x ∷ rest) p
drop_placed (n ∷ rest) (suc k) m p = drop_placed rest k m p

drop_whole : (makers : List Maker) (k : ℕ) → length makers ≤ k → drop k makers ≡ []
drop_whole [] zero h = refl
drop_whole [] (suc k) h = refl
drop_whole (n ∷ rest) zero h = absurd (omega arith)
drop_whole (n ∷ rest) (suc k) h = drop_whole rest k (omega arith)

pub spent_is : (r : Rules) (run : Run) (turns entries : ℕ) → r.turns ≡ turns → entries ≡ length run.done → turns ≤ entries
    → is_spent r run ≡ true
spent_is r run turns entries t e h = let k : r.turns ≤ length run.done = omega arith in grind (arith, nat_tests)

pub spent_not : (r : Rules) (run : Run) (turns entries : ℕ) → r.turns ≡ turns → entries ≡ length run.done → entries < turns
    → is_spent r run ≡ false
spent_not r run turns entries t e h = let k : length run.done < r.turns = omega arith in grind (arith, nat_tests)

-- ---- the end of a run

pub ended_by : (r : Rules) (run : Run) (views : List SeatView) (patience : ℕ) (moments : List Moment) (spent : Bool) → IsReached r run
    → run.phase ≡ Phase.Ended spent → views ≡ map (seat_in run) r.makers → patience ≡ run.left → moments ≡ run.moments
    → IsEnded r spent views patience moments
ended_by r run views patience moments spent (n, e) p v l m = record {
  number = n;
  phase = ap (λ (x : Run). x.phase) e ∙ p;
  seated = v ∙ sym (ap (λ (x : Run). map (seat_in x) r.makers) e);
  left = l ∙ sym (ap (λ (x : Run). x.left) e);
  noted = m ∙ sym (ap (λ (x : Run). x.moments) e);
}

-- ---- an event is given

pub held_given : (r : Rules) (key : List ℕ) (run : Run) (views now : List SeatView) (g : ChaCha) (entries patience turns place : ℕ) (moments : List Moment) (mover : Mover) (m : Maker) (grew : Bool)
    → AreRules r key turns → IsPlaced place r.makers m → now ≡ given_at place mover (seat_in run m) views → grew ≡ moves m (journal_in run m) mover
    → IsHeld r key run views g entries patience moments
    → IsHeld r key (give m mover run) now g (entries + cond grew 1 0) patience moments
held_given r key run views now g entries patience turns place moments mover m grew u p v h held =
    let b = beside_give m mover run in
    record {
      seated = v ∙ ap (λ (k : List SeatView). given_at place mover (seat_in run m) k) held.seated ∙ given_is r run place m mover u.distinct p;
      placed = held.placed ∙ ap (λ k. generator_at key k) (sym b.picks);
      counted = ap (λ k. k + cond grew 1 0) held.counted ∙ ap (λ b. length run.done + cond b 1 0) h ∙ sym (given_long m mover run);
      left = held.left ∙ sym b.left;
      noted = held.noted ∙ sym b.moments;
    }

or_true : (b : Bool) → (b || true) ≡ true
or_true true = refl
or_true false = refl

or_false : (b : Bool) → (b || false) ≡ b
or_false true = refl
or_false false = refl

-- one event of the code at a place
abbrev Gives : Mover → List SeatView → List SeatView → ℕ → Bool → Type 0
Gives mover views now place grew = (v : SeatView) → get_or views place v ≡ v → (now ≡ given_at place mover v views) × (grew ≡ moves v.maker v.journal mover)

module _ (mover : Mover) (timed : Bool) (phase : List ℕ → List Maker → Bool → Phase) (round : IsRound mover timed phase)
    (r : Rules) (key at : List ℕ) (timeouts : List TimeoutLine) (g : ChaCha) (patience : ℕ) (moments : List Moment) where
  pub round_spent : (views : List SeatView) (entries turns place : ℕ) (moved : Bool) → AreRules r key turns → place < length views → turns ≤ entries
      → IsIn r key (phase at (drop place r.makers) moved) timeouts views g entries patience moments
      → IsEnded r true views patience (with_moment at timed moments)
  round_spent views entries turns place moved u h s (run, w, p, ls, held) =
      let size : length views ≡ length r.makers = ap length held.seated ∙ long_map (seat_in run) r.makers in
      let m = placed r.makers place (omega arith) in
      let q : run.phase ≡ phase at (m.0 ∷ drop (suc place) r.makers) moved = p
      ∙ ap (λ l. phase at l moved) (drop_placed r.makers place m.0 m.1) in
      let end : Run = ended true (over at timed run) in
      let e : next r run ≡ end = round.cuts r run at m.0 (drop (suc place) r.makers) moved q
      (spent_is r run turns entries u.turns_so held.counted s) in
      ended_by r end views patience (with_moment at timed moments) true (reached_to r run end w e) refl held.seated held.left
      (ap (with_moment at timed) held.noted)

  round_step : (views now : List SeatView) (entries turns place : ℕ) (moved grew : Bool) → AreRules r key turns → place < length views
      → entries < turns → Gives mover views now place grew
      → IsIn r key (phase at (drop place r.makers) moved) timeouts views g entries patience moments
      → IsIn r key (phase at (drop (suc place) r.makers) (moved || grew)) timeouts now g (entries + cond grew 1 0) patience moments
  round_step views now entries turns place moved grew u h s x (run, w, p, ls, held) =
      let size : length views ≡ length r.makers = ap length held.seated ∙ long_map (seat_in run) r.makers in
      let m = placed r.makers place (omega arith) in
      let rest : List Maker = drop (suc place) r.makers in
      let q : run.phase ≡ phase at (m.0 ∷ rest) moved = p ∙ ap (λ l. phase at l moved) (drop_placed r.makers place m.0 m.1) in
      let e = round.gives r run at m.0 rest moved q (spent_not r run turns entries u.turns_so held.counted s) in
      let v : SeatView = seat_in run m.0 in
      let here : get_or views place v ≡ v = ap (λ (k : List SeatView). get_or k place v) held.seated
      ∙ placed_view (seat_in run) r.makers place m.0 v m.1 in
      let d = x v here in
      let b = beside_give m.0 mover run in
      let k = held_given r key run views now g entries patience turns place moments mover m.0 grew u m.1 d.0 d.1 held in
      let then : Run = record (give m.0 mover run) { phase = phase at rest (moved || moves m.0 (journal_in run m.0) mover) } in (
        then,
        reached_to r run then w e,
        ap (λ b. phase at rest (moved || b)) (sym d.1),
        subst (AreLines r.makers timeouts) (sym b.lines) ls,
        record { seated = k.seated; placed = k.placed; counted = k.counted; left = k.left; noted = k.noted },
      )

  pub round_moved : (views now : List SeatView) (entries turns place : ℕ) (moved grew : Bool) → grew ≡ true → AreRules r key turns
      → place < length views → entries < turns → Gives mover views now place grew
      → IsIn r key (phase at (drop place r.makers) moved) timeouts views g entries patience moments
      → IsIn r key (phase at (drop (place + 1) r.makers) true) timeouts now g (entries + 1) patience moments
  round_moved views now entries turns place moved grew t u h s x i =
      let a = round_step views now entries turns place moved grew u h s x i in
      let b = subst (λ k. IsIn r key (phase at (drop k r.makers) (moved || grew)) timeouts now g (entries + cond grew 1 0) patience moments)
      (sym (add-one place)) a in
      subst (λ q. IsIn r key (phase at (drop (place + 1) r.makers) q) timeouts now g (entries + 1) patience moments) (or_true moved)
      (subst (λ q. IsIn r key (phase at (drop (place + 1) r.makers) (moved || q)) timeouts now g (entries + cond q 1 0) patience moments) t b)

  pub round_still : (views now : List SeatView) (entries turns place : ℕ) (moved grew : Bool) → grew ≡ false → AreRules r key turns
      → place < length views → entries < turns → Gives mover views now place grew
      → IsIn r key (phase at (drop place r.makers) moved) timeouts views g entries patience moments
      → IsIn r key (phase at (drop (place + 1) r.makers) moved) timeouts now g entries patience moments
  round_still views now entries turns place moved grew t u h s x i =
      let a = round_step views now entries turns place moved grew u h s x i in
      let b = subst (λ k. IsIn r key (phase at (drop k r.makers) (moved || grew)) timeouts now g (entries + cond grew 1 0) patience moments)
      (sym (add-one place)) a in
      let d = subst (λ q. IsIn r key (phase at (drop (place + 1) r.makers) (moved || q)) timeouts now g (entries + cond q 1 0) patience moments) t b in
      subst (λ q. IsIn r key (phase at (drop (place + 1) r.makers) q) timeouts now g entries patience moments) (or_false moved)
      (subst (λ n. IsIn r key (phase at (drop (place + 1) r.makers) (moved || false)) timeouts now g n patience moments) (add-zero entries) d)

  pub round_whole : (views : List SeatView) (entries place : ℕ) (moved : Bool) → length views ≤ place
      → IsIn r key (phase at (drop place r.makers) moved) timeouts views g entries patience moments
      → IsIn r key (phase at [] moved) timeouts views g entries patience moments
  round_whole views entries place moved h (run, w, p, ls, held) =
      let size : length views ≡ length r.makers = ap length held.seated ∙ long_map (seat_in run) r.makers in
      (run, w, p ∙ ap (λ l. phase at l moved) (drop_whole r.makers place (omega arith)), ls, held)

-- what the loop over the replicas keeps
pub record RoundSo (members : Roster) (ring : Ring) (ids : List ReplicaId) (mover : Mover) (first views : List SeatView) (before turns entries place : ℕ) (moved : Bool) : Type 0 where
  pub ready : IsReady members ring ids views
  pub within : entries ≤ turns
  pub since : before ≤ entries
  pub more : moved ≡ true → before < entries
  pub goes : (timed : Bool) (phase : List ℕ → List Maker → Bool → Phase) (r : Rules) (key at : List ℕ) (timeouts : List TimeoutLine) (g : ChaCha) (patience : ℕ) (moments : List Moment)
      → IsRound mover timed phase → AreRules r key turns
      → IsIn r key (phase at r.makers false) timeouts first g before patience moments
      → IsIn r key (phase at (drop place r.makers) moved) timeouts views g entries patience moments

ready_on : (members : Roster) (ring : Ring) (ids : List ReplicaId) (mover : Mover) (views now : List SeatView) (place : ℕ) (grew : Bool)
    → place < length views → Gives mover views now place grew → IsReady members ring ids views → IsReady members ring ids now
ready_on members ring ids mover views now place grew h x a =
    let v = some_at views place h in
    subst (λ (l : List SeatView). IsReady members ring ids l) (sym (x v.0 v.1).0)
    (ready_given members ring ids views place mover v.0 h v.1 a)

pub round_so_moved : (members : Roster) (ring : Ring) (ids : List ReplicaId) (mover : Mover) (first views now : List SeatView) (before turns entries place more : ℕ) (moved mark grew : Bool)
    → grew ≡ true → mark ≡ true → more ≡ entries + 1 → entries < turns → place < length views → Gives mover views now place grew
    → RoundSo members ring ids mover first views before turns entries place moved
    → RoundSo members ring ids mover first now before turns more (place + 1) mark
round_so_moved members ring ids mover first views now before turns entries place more moved mark grew t k m l h x s = record {
  ready = ready_on members ring ids mover views now place grew h x s.ready;
  within = omega arith;
  since = let old = s.since in omega arith;
  more = λ q. let old = s.since in omega arith;
  goes = λ timed phase r key at timeouts g patience moments round u i.
      let a = round_moved mover timed phase round r key at timeouts g patience moments views now entries turns place moved grew t u h l x
      (s.goes timed phase r key at timeouts g patience moments round u i) in
      subst (λ q. IsIn r key (phase at (drop (place + 1) r.makers) q) timeouts now g more patience moments) (sym k)
      (subst (λ n. IsIn r key (phase at (drop (place + 1) r.makers) true) timeouts now g n patience moments) (sym m) a);
}

pub round_so_still : (members : Roster) (ring : Ring) (ids : List ReplicaId) (mover : Mover) (first views now : List SeatView) (before turns entries place more : ℕ) (moved mark grew : Bool)
    → grew ≡ false → mark ≡ moved → more ≡ entries → entries < turns → place < length views → Gives mover views now place grew
    → RoundSo members ring ids mover first views before turns entries place moved
    → RoundSo members ring ids mover first now before turns more (place + 1) mark
round_so_still members ring ids mover first views now before turns entries place more moved mark grew t k m l h x s = record {
  ready = ready_on members ring ids mover views now place grew h x s.ready;
  within = omega arith;
  since = let old = s.since in omega arith;
  more = λ q. let old = s.more (sym k ∙ q) in omega arith;
  goes = λ timed phase r key at timeouts g patience moments round u i.
      let a = round_still mover timed phase round r key at timeouts g patience moments views now entries turns place moved grew t u h l x
      (s.goes timed phase r key at timeouts g patience moments round u i) in
      subst (λ q. IsIn r key (phase at (drop (place + 1) r.makers) q) timeouts now g more patience moments) (sym k)
      (subst (λ n. IsIn r key (phase at (drop (place + 1) r.makers) moved) timeouts now g n patience moments) (sym m) a);
}
