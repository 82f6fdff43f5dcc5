-- A run has no more entries than its rules allow, so one that is cut off has just so many.
use Rattle.std.proofs.Common.{◌≡◌, ℕ, zero, suc, ◌+◌, ◌<◌, ◌≤◌, Bool, true, false, cond, ◌||◌, List, [], ◌∷◌, length, Result, Ok, Err, refl, arith, length-append}
use Rattle.std.specs.Prelude.{slice_index_or, ◌%◌}
use Rattle.std.proofs.lemmas.Bool.Decides.{nat_tests}
use Rattle.fab_base.specs.declared.messages.Message.{Message}
use Rattle.bft_verify.specs.declared.refusals.Refusal.{Refusal}
use Rattle.run_words.specs.declared.movers.Mover.{Mover}
use Rattle.run_words.specs.declared.logs.Entry.{Entry}
use Rattle.run_words.specs.declared.logs.Pending.{Pending}
use Rattle.run_words.specs.Journal.{Maker, moves, entry_of, reads}
use Rattle.run_words.specs.Runs.{Rules, Line, Run, Phase, Step, again, over, ended, by_patience, look, is_due, journal_in, with_entry, give, hear, hear_by, taken_out, pick_from, take_step, next_in, is_spent, after, steps, trace_in, transcript}
use Rattle.run_words.specs.Lawful.{entries_of, Sane}
use Rattle.run_words.proofs.Keeping.{after_well}
use Rattle.run_words.proofs.Quieting.{sum_traces}

-- ---- one step adds one entry at most

one_more : (m : Maker) (e : Entry) (run : Run) → length (with_entry m e run).done ≡ length run.done + 1
unfolding with_entry
one_more m e run = length-append run.done ((m.id, e) ∷ [])

given : (turns : ℕ) (m : Maker) (mover : Mover) (run : Run) → length run.done < turns → length (give m mover run).done ≤ turns
unfolding give
given turns m mover run lt = go (moves m (journal_in run m) mover)
  where
    go : (b : Bool) → length (cond b (with_entry m (entry_of m (journal_in run m) mover) run) run).done ≤ turns
    go true = omega (arith, lt, one_more m (entry_of m (journal_in run m) mover) run)
    go false = omega (arith, lt)

heard : (turns : ℕ) (m : Maker) (k : ℕ) (c : Pending) (run : Run) → length run.done < turns → length (hear m k c run).done ≤ turns
unfolding hear
heard turns m k c run lt = go (reads m c.load)
  where
    go : (b : Result Message Refusal) → length (hear_by m c (taken_out m k run) b).done ≤ turns
    go (Ok x) = omega (arith, lt, one_more m (Entry.Heard c.origin x) (taken_out m k run))
    go (Err refusal) = omega (arith, lt)

taken : (turns : ℕ) (run : Run) (s : Step) → length run.done < turns → length (take_step run s).done ≤ turns
taken turns run (Step.Hear m k c) lt = heard turns m k c run lt
taken turns run (Step.Give m mover) lt = given turns m mover run lt

picked : (r : Rules) (run : Run) (all : List Step) → length run.done < r.turns → length (pick_from r run all).done ≤ r.turns
picked r run [] lt = omega (arith, lt)
picked r run (s ∷ rest) lt = taken r.turns (again (record run { picks = run.picks + 1 })) (slice_index_or (s ∷ rest) (r.word run.picks % length (s ∷ rest)) s) lt

-- ---- a run

unspent : (r : Rules) (run : Run) → is_spent r run ≡ false → length run.done < r.turns
unspent r run e = grind (arith, nat_tests)

by_left : (r : Rules) (run : Run) (at : List ℕ) (left : ℕ) → length run.done ≤ r.turns → length (by_patience r run at left).done ≤ r.turns
by_left r run at zero h = h
by_left r run at (suc left) h = h

looked : (r : Rules) (run : Run) (kept : List Line) (line : Line) (rest : List Line) (b : Bool) → length run.done < r.turns
    → length (look run kept line rest b).done ≤ r.turns
looked r run kept line rest true lt = given r.turns line.maker Mover.Timeout run lt
looked r run kept line rest false lt = omega (arith, lt)

few_next : (r : Rules) (run : Run) (p : Phase) → length run.done ≤ r.turns → length (next_in r run p).done ≤ r.turns
few_next r run (Phase.Lines kept []) h = h
few_next r run (Phase.Lines kept (line ∷ rest)) h = go (is_spent r run) refl
  where
    go : (b : Bool) → is_spent r run ≡ b → length (cond b (ended true run) (look run kept line rest (is_due run line))).done ≤ r.turns
    go true e = h
    go false e = looked r run kept line rest (is_due run line) (unspent r run e)
few_next r run Phase.Pick h = go (is_spent r run) refl
  where
    go : (b : Bool) → is_spent r run ≡ b → length (cond b (ended true run) (pick_from r run (steps r run))).done ≤ r.turns
    go true e = h
    go false e = picked r run (steps r run) (unspent r run e)
few_next r run (Phase.Nudging at [] true) h = h
few_next r run (Phase.Nudging at [] false) h = by_left r run at run.left h
few_next r run (Phase.Nudging at (m ∷ rest) moved) h = go (is_spent r run) refl
  where
    go : (b : Bool) → is_spent r run ≡ b
        → length (cond b (ended true (over at false run))
        (record (give m Mover.Nudge run) { phase = Phase.Nudging at rest (moved || moves m (journal_in run m) Mover.Nudge) })).done ≤ r.turns
    go true e = h
    go false e = given r.turns m Mover.Nudge run (unspent r run e)
few_next r run (Phase.Timing at []) h = h
few_next r run (Phase.Timing at (m ∷ rest)) h = go (is_spent r run) refl
  where
    go : (b : Bool) → is_spent r run ≡ b
        → length (cond b (ended true (over at true run)) (record (give m Mover.Timeout run) { phase = Phase.Timing at rest })).done ≤ r.turns
    go true e = h
    go false e = given r.turns m Mover.Timeout run (unspent r run e)
few_next r run (Phase.Ended spent) h = h

few : (r : Rules) (n : ℕ) → length (after r n).done ≤ r.turns
few r zero = omega arith
few r (suc n) = few_next r (after r n) (after r n).phase (few r n)

-- ---- its transcript

-- all journals together have no more entries than are allowed
pub few_entries : (r : Rules) (n : ℕ) → Sane r → entries_of (transcript r (after r n)) ≤ r.turns
few_entries r n sane =
    let run = after r n in
    omega (arith, few r n, (after_well r n sane).entries, sum_traces (λ t. length t.journal) (trace_in run) r.makers)
