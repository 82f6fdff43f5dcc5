-- A step of the code is the step of the fold.
use Rattle.std.proofs.Common.{◌≡◌, ℕ, ◌+◌, ◌*◌, ◌/◌, ◌%◌, ◌^◌, Bool, true, false, cond, List, [], ◌∷◌, map, length, get_or, refl, sym, ap, subst, ◌∙◌, arith, Ok, Err, Result}
use Rattle.std.proofs.Math.Nat.{mod-add-div, add-mul-mod_self_left}
use Rattle.fab_base.specs.declared.messages.Message.{Message}
use Rattle.fault_script.specs.declared.twists.TimeoutLine.{TimeoutLine}
use Rattle.run_words.specs.declared.logs.Entry.{Entry}
use Rattle.run_words.specs.declared.movers.Mover.{Mover}
use Rattle.run_words.specs.declared.logs.Pending.{Pending}
use Rattle.bft_verify.specs.declared.refusals.Refusal.{Refusal}
use Rattle.run_words.specs.Journal.{Maker, moves, entry_of, reads}
use Rattle.run_words.specs.declared.logs.Moment.{Moment}
use Rattle.run_words.specs.Runs.{Rules, Run, Step, Phase, journal_in, with_entry, give, hear, hear_by, taken_out, again, ended, steps, take_step, pick_from, next, next_in, is_spent}
use Rattle.run_words.proofs.Steps.{IsStep, AreSteps, step_at, steps_made}
use Rattle.rand_chacha.specs.ChaCha.{ChaCha, next_word, word_at}
use Rattle.sim_sched.specs.declared.seats.Choice.{Choice}
use Rattle.sim_sched.specs.Seats.{SeatView, seat_in, seat_steps, all_steps, IsChosen, Finds}
use Rattle.sim_sched.specs.Simulating.{Acts, IsAt, IsOpen, AreRules, generator_at, word_of}
use Rattle.sim_sched.proofs.Picking.{long_map}
use Rattle.sim_sched.proofs.Bridge.{placed, placed_view, steps_all, acted}

pub mod_more : (a m : ℕ) → (a % m + 1) % m ≡ (a + 1) % m
mod_more a m =
    let d = mod-add-div a m in
    let e : a + 1 ≡ a % m + 1 + m * (a / m) = omega (arith, d) in
    sym (ap (λ k. k % m) e ∙ add-mul-mod_self_left (a % m + 1) m (a / m))

-- one run has what another has beside journals and copies
pub record IsBeside (a b : Run) : Type 0 where
  pub phase : a.phase ≡ b.phase
  pub picks : a.picks ≡ b.picks
  pub lines : a.lines ≡ b.lines
  pub left : a.left ≡ b.left
  pub moments : a.moments ≡ b.moments

beside_self : (run : Run) → IsBeside run run
beside_self run = record { phase = refl; picks = refl; lines = refl; left = refl; moments = refl }

beside_entry : (m : Maker) (e : Entry) (run : Run) → IsBeside (with_entry m e run) run
unfolding with_entry
beside_entry m e run = record { phase = refl; picks = refl; lines = refl; left = refl; moments = refl }

pub beside_give : (m : Maker) (mover : Mover) (run : Run) → IsBeside (give m mover run) run
unfolding give
beside_give m mover run = go (moves m (journal_in run m) mover)
  where
    go : (b : Bool) → IsBeside (cond b (with_entry m (entry_of m (journal_in run m) mover) run) run) run
    go true = beside_entry m (entry_of m (journal_in run m) mover) run
    go false = beside_self run

beside_hear : (m : Maker) (k : ℕ) (c : Pending) (run : Run) → IsBeside (hear m k c run) run
unfolding hear
beside_hear m k c run = go (reads m c.load)
  where
    go : (b : Result Message Refusal) → IsBeside (hear_by m c (taken_out m k run) b) run
    go (Ok x) =
        let h = beside_entry m (Entry.Heard c.origin x) (taken_out m k run) in
        record { phase = h.phase; picks = h.picks; lines = h.lines; left = h.left; moments = h.moments }
    go (Err refusal) = record { phase = refl; picks = refl; lines = refl; left = refl; moments = refl }

beside_step : (run : Run) (s : Step) → IsBeside (take_step run s) run
beside_step run (Step.Hear m k c) = beside_hear m k c run
beside_step run (Step.Give m mover) = beside_give m mover run

abbrev picking : Run → Run
picking run = again (record run { picks = run.picks + 1 })

step_then : (r : Rules) (run : Run) (s : Step) → IsStep r run s → IsStep r (picking run) s
step_then r run (Step.Hear m k c) h = h
step_then r run (Step.Give m mover) h = h

next_at : (r : Rules) (run : Run) → run.phase ≡ Phase.Pick → is_spent r run ≡ false → next r run ≡ pick_from r run (steps r run)
next_at r run p s =
    ap (next_in r run) p ∙ ap (λ b. cond b (ended true run) (pick_from r run (steps r run))) s

pub none_at : (r : Rules) (key : List ℕ) (run : Run) (timeouts : List TimeoutLine) (views : List SeatView) (generator : ChaCha) (entries patience : ℕ) (moments : List Moment)
    → IsAt r key run timeouts views generator entries patience moments → length (all_steps views) ≡ 0 → steps r run ≡ []
none_at r key run timeouts views generator entries patience moments a e =
    let q : all_steps views ≡ steps r run = ap all_steps a.held.seated ∙ steps_all run r.makers in
    empty (steps r run) (ap length (sym q) ∙ e)
  where
    empty : {X : Type 0} (l : List X) → length l ≡ 0 → l ≡ []
    empty [] h = refl
    empty (x ∷ l) h = absurd (omega arith)

-- the generator after one word more
abbrev one_on : ChaCha → ChaCha
one_on g = record g { word_pos = (g.word_pos + 1) % 2 ^ 68 }

-- from a step's number to the choice after it
picked_of : (r : Rules) (key : List ℕ) (run : Run) (timeouts : List TimeoutLine) (views : List SeatView) (generator : ChaCha) (entries patience : ℕ) (moments : List Moment) (number place own : ℕ) (choice : Choice) (now : List SeatView) (grew : Bool) (l : List Step)
    → steps r run ≡ l → (s : Step) (rest : List Step) → l ≡ s ∷ rest → AreRules r key r.turns → IsAt r key run timeouts views generator entries patience moments
    → number ≡ r.word run.picks % length l → Finds views number place own
    → ((v : SeatView) (d : Step) → get_or views place v ≡ v → IsChosen v choice (get_or (seat_steps v) own d))
    → ((v : SeatView) → get_or views place v ≡ v → Acts place choice v views now grew)
    → IsOpen r key (pick_from r run l) timeouts now (one_on generator) (entries + cond grew 1 0) patience moments
picked_of r key run timeouts views generator entries patience moments number place own choice now grew l q s rest z u a n f x h =
    let e : all_steps views ≡ l = ap all_steps a.held.seated ∙ steps_all run r.makers ∙ q in
    let size : length views ≡ length r.makers = ap length a.held.seated ∙ long_map (seat_in run) r.makers in
    let w = f.within in
    let p = placed r.makers place (omega arith) in
    let v : SeatView = seat_in run p.0 in
    let here : get_or views place v ≡ v = ap (λ (k : List SeatView). get_or k place v) a.held.seated
    ∙ placed_view (seat_in run) r.makers place p.0 v p.1 in
    let st : Step = get_or l number s in
    let found : get_or (all_steps views) number s ≡ get_or (seat_steps v) own s = f.same v s
    ∙ ap (λ (y : SeatView). get_or (seat_steps y) own s) here in
    let same : st ≡ get_or (seat_steps v) own s = ap (λ (k : List Step). get_or k number s) (sym e) ∙ found in
    let chosen : IsChosen v choice st = subst (λ (y : Step). IsChosen v choice y) (sym same) (x v s here) in
    let all : AreSteps r run l = subst (λ (k : List Step). AreSteps r run k) q (steps_made r run) in
    let first : IsStep r run s = (subst (λ (k : List Step). AreSteps r run k) z all).0 in
    let made : IsStep r (picking run) st = step_then r run st (step_at r run l number s all first) in
    let done : Acts place choice v (map (seat_in run) r.makers) now grew =
    subst (λ (k : List SeatView). Acts place choice v k now grew) a.held.seated (h v here) in
    let t = acted r (picking run) place p.0 choice st now grew u.distinct p.1 chosen made done in
    let b = beside_step (picking run) st in
    let goal_run : pick_from r run l ≡ take_step (picking run) st =
    ap (pick_from r run) z ∙ ap (λ (k : List Step). take_step (picking run) (get_or k (r.word run.picks % length k) s)) (sym z)
    ∙ ap (λ k. take_step (picking run) (get_or l k s)) (sym n) in
    subst (λ (y : Run). IsOpen r key y timeouts now (one_on generator) (entries + cond grew 1 0) patience moments) (sym goal_run)
    (record {
      lines = run.lines;
      phase = b.phase;
      are = a.lines;
      held = record {
        seated = t.0;
        placed =
            ap one_on a.held.placed
            ∙ ap (λ k. record (generator_at key run.picks) { word_pos = k }) (mod_more run.picks (2 ^ 68))
            ∙ ap (λ k. generator_at key k) (sym b.picks);
        counted = ap (λ k. k + cond grew 1 0) a.held.counted ∙ sym t.1;
        left = a.held.left ∙ sym b.left;
        noted = a.held.noted ∙ sym b.moments;
      };
    })

pub picked : (r : Rules) (key : List ℕ) (run : Run) (timeouts : List TimeoutLine) (views : List SeatView) (generator : ChaCha) (entries patience : ℕ) (moments : List Moment) (number place own : ℕ) (choice : Choice) (now : List SeatView) (grew : Bool)
    → AreRules r key r.turns → IsAt r key run timeouts views generator entries patience moments → is_spent r run ≡ false → (length (all_steps views) ≡ 0 → ⊥)
    → number ≡ word_of key run.picks % length (all_steps views) → Finds views number place own
    → ((v : SeatView) (d : Step) → get_or views place v ≡ v → IsChosen v choice (get_or (seat_steps v) own d))
    → ((v : SeatView) → get_or views place v ≡ v → Acts place choice v views now grew)
    → IsOpen r key (next r run) timeouts now (one_on generator) (entries + cond grew 1 0) patience moments
picked r key run timeouts views generator entries patience moments number place own choice now grew u a s some n f x h =
    subst (λ (y : Run). IsOpen r key y timeouts now (one_on generator) (entries + cond grew 1 0) patience moments) (sym (next_at r run a.phase s))
    (go (steps r run) refl)
  where
    go : (l : List Step) → steps r run ≡ l → IsOpen r key (pick_from r run l) timeouts now (one_on generator) (entries + cond grew 1 0) patience moments
    go [] q = absurd (some (ap length (ap all_steps a.held.seated ∙ steps_all run r.makers ∙ q)))
    go (y ∷ rest) q =
        let m : number ≡ r.word run.picks % length (y ∷ rest) =
        n ∙ ap (λ k. k % length (all_steps views)) (sym (u.word_so run.picks))
        ∙ ap (λ (k : List Step). r.word run.picks % length k) (ap all_steps a.held.seated ∙ steps_all run r.makers ∙ q) in
        picked_of r key run timeouts views generator entries patience moments number place own choice now grew (y ∷ rest) q y rest refl u a m f x h

pub picked_told : (r : Rules) (key : List ℕ) (run : Run) (timeouts : List TimeoutLine) (views : List SeatView) (g h : ChaCha) (entries patience : ℕ) (moments : List Moment) (word count number place own : ℕ) (choice : Choice) (now : List SeatView) (grew : Bool)
    → AreRules r key r.turns → IsAt r key run timeouts views g entries patience moments → is_spent r run ≡ false → count ≡ length (all_steps views)
    → (count ≡ 0 → ⊥) → (word, h) ≡ next_word 4 g → number ≡ word % count → Finds views number place own
    → ((v : SeatView) (d : Step) → get_or views place v ≡ v → IsChosen v choice (get_or (seat_steps v) own d))
    → ((v : SeatView) → get_or views place v ≡ v → Acts place choice v views now grew)
    → IsOpen r key (next r run) timeouts now h (entries + cond grew 1 0) patience moments
picked_told r key run timeouts views g h entries patience moments word count number place own choice now grew u a s k some w n f x acts =
    let the_word : word ≡ word_of key run.picks = ap (λ (p : ℕ × ChaCha). p.0) w
    ∙ ap (λ (q : ChaCha). word_at 4 q.key q.stream q.word_pos) a.held.placed in
    let after : h ≡ one_on g = ap (λ (p : ℕ × ChaCha). p.1) w in
    let m : number ≡ word_of key run.picks % length (all_steps views) = n ∙ ap (λ j. j % count) the_word
    ∙ ap (λ j. word_of key run.picks % j) k in
    subst (λ (q : ChaCha). IsOpen r key (next r run) timeouts now q (entries + cond grew 1 0) patience moments) (sym after)
    (picked r key run timeouts views g entries patience moments number place own choice now grew u a s (λ z. some (k ∙ z)) m f x acts)
