-- A step of the one run, as the journal of the first replica has it: the journal stays, or has one entry more, which the replica could make.
-- The first replica is nudged only where nothing else can move.
use Rattle.std.proofs.Common.{◌≡◌, ℕ, zero, suc, ◌+◌, ◌%◌, Bool, true, false, cond, ◌||◌, List, [], ◌∷◌, ◌++◌, length, get_or, ◌⊎◌, inl, inr, Result, Ok, Err, refl, sym, subst, ◌∙◌}
use Rattle.fab_base.specs.declared.messages.Message.{Message}
use Rattle.bft_verify.specs.declared.refusals.Refusal.{Refusal}
use Rattle.run_words.specs.Keyed.{is_same}
use Rattle.run_words.specs.Journal.{Maker, moves, entry_of, IsNext, reads}
use Rattle.run_words.specs.Runs.{Rules, Line, Run, Phase, Step, again, over, ended, by_patience, look, is_due, journal_in, waiting_in, hearings, moving, steps_of, steps_from, with_entry, give, hear, hear_by, taken_out, steps, pick_from, take_step, next, next_in, is_spent, after}
use Rattle.run_words.specs.Lawful.{IsApart, AreApart, Sane}
use Rattle.run_words.specs.declared.movers.Mover.{Mover}
use Rattle.run_words.specs.declared.logs.Entry.{Entry}
use Rattle.run_words.specs.declared.logs.Pending.{Pending}
use Rattle.run_words.proofs.Counts.{IsIn, one_by_id, journal_more, journal_other}
use Rattle.run_words.proofs.Keeping.{AreStill, Stands, stepped, after_well}
use Rattle.run_words.proofs.Keys.{same_self}
use Rattle.run_words.proofs.Steps.{IsStep, AreSteps, step_at, steps_made}
use Rattle.run_words.proofs.Walks.{entry_next}

-- ---- a step that is picked is no Nudge

abbrev IsPicked : Step → Type 0
IsPicked (Step.Give m Mover.Nudge) = ⊥
IsPicked step = Unit {0}

abbrev ArePicked : List Step → Type 0
ArePicked [] = Unit {0}
ArePicked (s ∷ rest) = IsPicked s × ArePicked rest

picked_at : (l : List Step) (k : ℕ) (s : Step) → ArePicked l → IsPicked s → IsPicked (get_or l k s)
picked_at [] k s a h = h
picked_at (x ∷ rest) zero s a h = a.0
picked_at (x ∷ rest) (suc k) s a h = picked_at rest k s a.1 h

picked_both : (a b : List Step) → ArePicked a → ArePicked b → ArePicked (a ++ b)
picked_both [] b h g = g
picked_both (s ∷ rest) b h g = (h.0, picked_both rest b h.1 g)

hearings_picked : (m : Maker) (k : ℕ) (l : List Pending) → ArePicked (hearings m k l)
hearings_picked m k [] = tt
hearings_picked m k (c ∷ rest) = (tt, hearings_picked m (suc k) rest)

moving_picked : (run : Run) (m : Maker) (mover : Mover) → IsPicked (Step.Give m mover) → ArePicked (moving run m mover)
moving_picked run m mover h = go (moves m (journal_in run m) mover)
  where
    go : (b : Bool) → ArePicked (cond b (Step.Give m mover ∷ []) [])
    go true = (h, tt)
    go false = tt

one_picked : (run : Run) (m : Maker) → ArePicked (steps_of run m)
unfolding steps_of
one_picked run m =
    picked_both _ _ (hearings_picked m 0 (waiting_in run m))
    (picked_both _ _ (moving_picked run m Mover.Batch tt)
    (picked_both _ _ (moving_picked run m Mover.Emit tt)
    (picked_both _ _ (moving_picked run m Mover.Execute tt) (moving_picked run m Mover.Checkpoint tt))))

all_picked : (run : Run) (makers : List Maker) → ArePicked (steps_from run makers)
all_picked run [] = tt
all_picked run (m ∷ rest) = picked_both _ _ (one_picked run m) (all_picked run rest)

-- ---- what a step does to a journal

-- the replica is nudged only then
abbrev pub IsMoment : Type 0 → Entry → Type 0
IsMoment Still Entry.Nudged = Still
IsMoment Still e = Unit {0}

pub record HasEntry (Still : Type 0) (p : Maker) (before now : List Entry) : Type 0 where
  pub entry : Entry
  pub grown : now ≡ before ++ entry ∷ []
  pub next_is : IsNext p before entry
  pub moment : IsMoment Still entry

abbrev pub IsStepOf : Type 0 → Maker → List Entry → List Entry → Type 0
IsStepOf Still p before now = (now ≡ before) ⊎ HasEntry Still p before now

with_one : (Still : Type 0) (p m : Maker) (e : Entry) (run : Run) → (is_same p.id m.id ≡ true → p ≡ m) → IsNext m (journal_in run m) e → (p ≡ m → IsMoment Still e)
    → IsStepOf Still p (journal_in run p) (journal_in (with_entry m e run) p)
with_one Still p m e run one next_one moment = go (is_same p.id m.id) refl
  where
    go : (b : Bool) → is_same p.id m.id ≡ b → IsStepOf Still p (journal_in run p) (journal_in (with_entry m e run) p)
    go true q =
        inr (subst (λ (y : Maker). HasEntry Still y (journal_in run y) (journal_in (with_entry m e run) y)) (sym (one q))
        (record { entry = e; grown = journal_more m e run; next_is = next_one; moment = moment (one q) }))
    go false q = inl (journal_other p m e run q)

give_one : (Still : Type 0) (p m : Maker) (mover : Mover) (run : Run) → (is_same p.id m.id ≡ true → p ≡ m)
    → (p ≡ m → IsMoment Still (entry_of m (journal_in run m) mover)) → IsStepOf Still p (journal_in run p) (journal_in (give m mover run) p)
unfolding give
give_one Still p m mover run one moment = go (moves m (journal_in run m) mover) refl
  where
    go : (b : Bool) → moves m (journal_in run m) mover ≡ b
        → IsStepOf Still p (journal_in run p) (journal_in (cond b (with_entry m (entry_of m (journal_in run m) mover) run) run) p)
    go true e = with_one Still p m (entry_of m (journal_in run m) mover) run one (entry_next m (journal_in run m) mover e) moment
    go false e = inl refl

hear_one : (Still : Type 0) (p m : Maker) (k : ℕ) (c : Pending) (run : Run) → (is_same p.id m.id ≡ true → p ≡ m)
    → IsStepOf Still p (journal_in run p) (journal_in (hear m k c run) p)
unfolding hear
hear_one Still p m k c run one = go (reads m c.load)
  where
    go : (b : Result Message Refusal) → IsStepOf Still p (journal_in run p) (journal_in (hear_by m c (taken_out m k run) b) p)
    go (Ok x) = with_one Still p m (Entry.Heard c.origin x) (taken_out m k run) one tt (λ e. tt)
    go (Err refusal) = inl refl

no_nudge : (Still : Type 0) (m : Maker) (journal : List Entry) (mover : Mover) → IsPicked (Step.Give m mover) → IsMoment Still (entry_of m journal mover)
no_nudge Still m journal Mover.Batch h = tt
no_nudge Still m journal Mover.Nudge h = absurd h
no_nudge Still m journal Mover.Emit h = tt
no_nudge Still m journal Mover.Execute h = tt
no_nudge Still m journal Mover.Checkpoint h = tt
no_nudge Still m journal Mover.Timeout h = tt

-- ---- the first replica

-- no one was moved when it is nudged, and then it is nudged no more
abbrev IsFirst : Maker → List Maker → Phase → Type 0
IsFirst p makers (Phase.Nudging at l moved) = ((l ≡ makers) × (moved ≡ false)) ⊎ IsApart p l
IsFirst p makers phase = Unit {0}

module _ (r : Rules) (p : Maker) (others : List Maker) (first : r.makers ≡ p ∷ others) (s : Sane r) where
  there : IsIn p r.makers
  there = subst (IsIn p) (sym first) (inl refl)

  one : (m : Maker) → IsIn m r.makers → is_same p.id m.id ≡ true → p ≡ m
  one m i e = one_by_id p m r.makers s.apart there i e

  apart : IsApart p others
  apart = (subst (λ l. AllApart l) first s.apart).0
    where
      AllApart : List Maker → Type 0
      AllApart l = AreApart l

  taken : (Still : Type 0) (run : Run) (x : Step) → IsStep r run x → IsPicked x → IsStepOf Still p (journal_in run p) (journal_in (take_step run x) p)
  taken Still run (Step.Hear m k c) h q = hear_one Still p m k c run (one m h.0)
  taken Still run (Step.Give m mover) h q = give_one Still p m mover run (one m h.0) (λ e. no_nudge Still m (journal_in run m) mover q)

  picked : (Still : Type 0) (run : Run) (l : List Step) → AreSteps r run l → ArePicked l → IsStepOf Still p (journal_in run p) (journal_in (pick_from r run l) p)
  picked Still run [] a q = inl refl
  picked Still run (x ∷ rest) a q =
      let k = r.word run.picks % length (x ∷ rest) in
      taken_at run (get_or (x ∷ rest) k x) (step_at r run (x ∷ rest) k x a a.0) (picked_at (x ∷ rest) k x q q.0)
    where
      taken_at : (run : Run) (x : Step) → IsStep r run x → IsPicked x → IsStepOf Still p (journal_in run p) (journal_in (take_step (again (record run { picks = run.picks + 1 })) x) p)
      taken_at run (Step.Hear m k c) h q = hear_one Still p m k c (again (record run { picks = run.picks + 1 })) (one m h.0)
      taken_at run (Step.Give m mover) h q =
          give_one Still p m mover (again (record run { picks = run.picks + 1 })) (one m h.0) (λ e. no_nudge Still m (journal_in run m) mover q)

  still_then : (run : Run) (at : List ℕ) (m : Maker) (rest : List Maker) (moved : Bool) → Stands r run (Phase.Nudging at (m ∷ rest) moved)
      → IsFirst p r.makers (Phase.Nudging at (m ∷ rest) moved) → p ≡ m → AreStill r run
  still_then run at m rest moved h (inl f) e = h.still f.1
  still_then run at m rest moved h (inr apart) e = absurd (let q = apart.0 in let w : is_same p.id m.id ≡ true = subst (λ (y : Maker). is_same p.id y.id ≡ true) e (same_self p.id) in cc)

  by_left : (run : Run) (at : List ℕ) (left : ℕ) → IsStepOf (AreStill r run) p (journal_in run p) (journal_in (by_patience r run at left) p)
  by_left run at zero = inl refl
  by_left run at (suc left) = inl refl

  looked : (run : Run) (kept : List Line) (line : Line) (rest : List Line) (b : Bool) → IsIn line.maker r.makers
      → IsStepOf (AreStill r run) p (journal_in run p) (journal_in (look run kept line rest b) p)
  looked run kept line rest true i = give_one (AreStill r run) p line.maker Mover.Timeout run (one line.maker i) (λ e. tt)
  looked run kept line rest false i = inl refl

  by_phase : (run : Run) (phase : Phase) → Stands r run phase → IsFirst p r.makers phase → IsStepOf (AreStill r run) p (journal_in run p) (journal_in (next_in r run phase) p)
  by_phase run (Phase.Lines kept []) h f = inl refl
  by_phase run (Phase.Lines kept (line ∷ rest)) h f = go (is_spent r run)
    where
      go : (b : Bool) → IsStepOf (AreStill r run) p (journal_in run p) (journal_in (cond b (ended true run) (look run kept line rest (is_due run line))) p)
      go true = inl refl
      go false = looked run kept line rest (is_due run line) (h.1 line (inl refl))
  by_phase run Phase.Pick h f = go (is_spent r run)
    where
      go : (b : Bool) → IsStepOf (AreStill r run) p (journal_in run p) (journal_in (cond b (ended true run) (pick_from r run (steps r run))) p)
      go true = inl refl
      go false = picked (AreStill r run) run (steps r run) (steps_made r run) (all_picked run r.makers)
  by_phase run (Phase.Nudging at [] true) h f = inl refl
  by_phase run (Phase.Nudging at [] false) h f = by_left run at run.left
  by_phase run (Phase.Nudging at (m ∷ rest) moved) h f = go (is_spent r run)
    where
      go : (b : Bool) → IsStepOf (AreStill r run) p (journal_in run p) (journal_in (cond b (ended true (over at false run))
          (record (give m Mover.Nudge run) { phase = Phase.Nudging at rest (moved || moves m (journal_in run m) Mover.Nudge) })) p)
      go true = inl refl
      go false = give_one (AreStill r run) p m Mover.Nudge run (one m (h.inside m (inl refl))) (still_then run at m rest moved h f)
  by_phase run (Phase.Timing at []) h f = inl refl
  by_phase run (Phase.Timing at (m ∷ rest)) h f = go (is_spent r run)
    where
      go : (b : Bool) → IsStepOf (AreStill r run) p (journal_in run p) (journal_in (cond b (ended true (over at true run))
          (record (give m Mover.Timeout run) { phase = Phase.Timing at rest })) p)
      go true = inl refl
      go false = give_one (AreStill r run) p m Mover.Timeout run (one m (h.inside m (inl refl))) (λ e. tt)
  by_phase run (Phase.Ended spent) h f = inl refl

  -- ---- the phases

  picked_first : (run : Run) (l : List Step) → IsFirst p r.makers (pick_from r run l).phase
  picked_first run [] = inl (refl, refl)
  picked_first run (x ∷ rest) =
      subst (IsFirst p r.makers) (sym (stepped (again (record run { picks = run.picks + 1 })) (get_or (x ∷ rest) (r.word run.picks % length (x ∷ rest)) x)
      (Phase.Lines [] run.lines) refl)) tt

  left_first : (run : Run) (at : List ℕ) (left : ℕ) → IsFirst p r.makers (by_patience r run at left).phase
  left_first run at zero = tt
  left_first run at (suc left) = tt

  looked_first : (run : Run) (kept : List Line) (line : Line) (rest : List Line) (b : Bool) → IsFirst p r.makers (look run kept line rest b).phase
  looked_first run kept line rest true = tt
  looked_first run kept line rest false = tt

  first_by : (run : Run) (phase : Phase) → run.phase ≡ phase → IsFirst p r.makers phase → IsFirst p r.makers (next_in r run phase).phase
  first_by run (Phase.Lines kept []) e f = tt
  first_by run (Phase.Lines kept (line ∷ rest)) e f = go (is_spent r run)
    where
      go : (b : Bool) → IsFirst p r.makers (cond b (ended true run) (look run kept line rest (is_due run line))).phase
      go true = tt
      go false = looked_first run kept line rest (is_due run line)
  first_by run Phase.Pick e f = go (is_spent r run)
    where
      go : (b : Bool) → IsFirst p r.makers (cond b (ended true run) (pick_from r run (steps r run))).phase
      go true = tt
      go false = picked_first run (steps r run)
  first_by run (Phase.Nudging at [] true) e f = tt
  first_by run (Phase.Nudging at [] false) e f = left_first run at run.left
  first_by run (Phase.Nudging at (m ∷ rest) moved) e f = go (is_spent r run)
    where
      tail : IsFirst p r.makers (Phase.Nudging at (m ∷ rest) moved) → IsApart p rest
      tail (inl h) = (let same_rest : rest ≡ others = (let q = h.0 ∙ first in cc) in subst (IsApart p) (sym same_rest) apart)
      tail (inr h) = h.1

      go : (b : Bool) → IsFirst p r.makers (cond b (ended true (over at false run))
          (record (give m Mover.Nudge run) { phase = Phase.Nudging at rest (moved || moves m (journal_in run m) Mover.Nudge) })).phase
      go true = tt
      go false = inr (tail f)
  first_by run (Phase.Timing at []) e f = tt
  first_by run (Phase.Timing at (m ∷ rest)) e f = go (is_spent r run)
    where
      go : (b : Bool) → IsFirst p r.makers (cond b (ended true (over at true run)) (record (give m Mover.Timeout run) { phase = Phase.Timing at rest })).phase
      go true = tt
      go false = tt
  first_by run (Phase.Ended spent) e f = subst (IsFirst p r.makers) (sym e) tt

  all_first : (n : ℕ) → IsFirst p r.makers (after r n).phase
  all_first zero = tt
  all_first (suc n) = first_by (after r n) (after r n).phase refl (all_first n)

  pub step_of : (n : ℕ) → IsStepOf (AreStill r (after r n)) p (journal_in (after r n) p) (journal_in (next r (after r n)) p)
  step_of n = by_phase (after r n) (after r n).phase (after_well r n s).stands (all_first n)
