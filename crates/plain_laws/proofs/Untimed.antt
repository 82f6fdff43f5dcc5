-- Along a run whose rules have no lines nobody times out, as long as at each quiet moment that ends in timeouts all are calm: none would make
-- an entry.
use Rattle.std.proofs.Common.{◌≡◌, ℕ, suc, Bool, true, false, cond, List, [], ◌∷◌, ◌++◌, inl, inr, refl, ap, subst, arith, sum_by, Result, Ok, Err}
use Rattle.std.specs.List.{count_by}
use Rattle.std.proofs.lemmas.List.Sums.{sum_by-append, sum_by-cons, sum_by_push}
use Rattle.fab_base.specs.declared.messages.Message.{Message}
use Rattle.bft_verify.specs.declared.refusals.Refusal.{Refusal}
use Rattle.fab_rules.specs.Lists.{In}
use Rattle.fab_rules.proofs.Lists.{in_append_cases}
use Rattle.run_words.specs.Keyed.{is_same}
use Rattle.run_words.specs.Journal.{Maker, moves, entry_of, reads}
use Rattle.run_words.specs.Runs.{Rules, Line, Run, Phase, journal_in, with_entry, give, hear, hear_by, taken_out, after}
use Rattle.run_words.specs.Lawful.{is_timed_out, Sane}
use Rattle.run_words.specs.declared.movers.Mover.{Mover}
use Rattle.run_words.specs.declared.logs.Entry.{Entry}
use Rattle.run_words.specs.declared.logs.Moment.{Moment}
use Rattle.run_words.specs.declared.logs.Pending.{Pending}
use Rattle.run_words.proofs.Counts.{IsIn, journal_other}
use Rattle.run_words.proofs.Giving.{AreLined, IsLined, after_lined}
use Rattle.run_words.proofs.Keeping.{Lasts, MayBe, next_lasts, known, AreStill, AreUnmoved, Stands, after_well}
use Rattle.run_words.proofs.Keys.{of_more}
use Rattle.run_words.proofs.Moments.{noted_in, noted_by, moment}
use Rattle.run_words.proofs.Steps.{IsOwn}
use Rattle.run_words.proofs.Trying.{timed_in, IsTried, after_tried, IsPatient, after_patient}

-- no replica of the run has an entry of a Timeout
abbrev pub AreUntimed : Rules → Run → Type 0
AreUntimed r run = (m : Maker) → IsIn m r.makers → In Entry.TimedOut (journal_in run m) → ⊥

-- ---- what makes no such entry

abbrev IsOther : Entry → Type 0
IsOther Entry.TimedOut = ⊥
IsOther e = Unit {0}

entry_untimed : (r : Rules) (m : Maker) (e : Entry) (run : Run) → IsOther e → AreUntimed r run → AreUntimed r (with_entry m e run)
unfolding with_entry
entry_untimed r m e run other h n j i = go (is_same n.id m.id) refl
  where
    go : (b : Bool) → is_same n.id m.id ≡ b → ⊥
    go true q = elim (in_append_cases Entry.TimedOut (journal_in run n) (e ∷ []) (subst (In Entry.TimedOut) (of_more n.id m.id run.done e q) i)) [
      | inl old ↦ h n j old
      | inr (inl same) ↦ subst (λ (x : Entry). IsOther x) same other
      | inr (inr none) ↦ none
    ]
    go false q = h n j (subst (In Entry.TimedOut) (journal_other n m e run q) i)

-- a Timeout may be given where it makes none
abbrev MayTime : Run → Maker → Mover → Type 0
MayTime run m Mover.Timeout = moves m (journal_in run m) Mover.Timeout ≡ false
MayTime run m mover = Unit {0}

given_untimed : (r : Rules) (run : Run) (m : Maker) (mover : Mover) → (moves m (journal_in run m) mover ≡ true → IsOther (entry_of m (journal_in run m) mover)) → AreUntimed r run
    → AreUntimed r (give m mover run)
unfolding give
given_untimed r run m mover other h = go (moves m (journal_in run m) mover) refl
  where
    go : (b : Bool) → moves m (journal_in run m) mover ≡ b → AreUntimed r (cond b (with_entry m (entry_of m (journal_in run m) mover) run) run)
    go true e = entry_untimed r m (entry_of m (journal_in run m) mover) run (other e) h
    go false e = h

own_other : (m : Maker) (journal : List Entry) (mover : Mover) → IsOwn mover → IsOther (entry_of m journal mover)
own_other m journal Mover.Batch o = tt
own_other m journal Mover.Nudge o = tt
own_other m journal Mover.Emit o = tt
own_other m journal Mover.Execute o = tt
own_other m journal Mover.Checkpoint o = tt
own_other m journal Mover.Timeout o = absurd o

may_other : (run : Run) (m : Maker) (mover : Mover) → MayTime run m mover → moves m (journal_in run m) mover ≡ true → IsOther (entry_of m (journal_in run m) mover)
may_other run m Mover.Batch may e = tt
may_other run m Mover.Nudge may e = tt
may_other run m Mover.Emit may e = tt
may_other run m Mover.Execute may e = tt
may_other run m Mover.Checkpoint may e = tt
may_other run m Mover.Timeout may e = absurd (differ (moves m (journal_in run m) Mover.Timeout) e may)
  where
    differ : (b : Bool) → b ≡ true → b ≡ false → ⊥
    differ b p q = cc

heard_untimed : (r : Rules) (run : Run) (m : Maker) (k : ℕ) (c : Pending) → AreUntimed r run → AreUntimed r (hear m k c run)
unfolding hear
heard_untimed r run m k c h = go (reads m c.load)
  where
    go : (b : Result Message Refusal) → AreUntimed r (hear_by m c (taken_out m k run) b)
    go (Ok x) = entry_untimed r m (Entry.Heard c.origin x) (taken_out m k run) tt h
    go (Err refusal) = h

untimed_lasts : (r : Rules) → Lasts r MayTime (AreUntimed r)
untimed_lasts r = record {
  beside = λ run picks given lines left moments p h. h;
  gives = λ run m mover i o h. given_untimed r run m mover (λ e. own_other m (journal_in run m) mover o) h;
  asked = λ run m mover i may h. given_untimed r run m mover (may_other run m mover may) h;
  hears = λ run m k c i lt g h. heard_untimed r run m k c h;
}

-- ---- numbers

-- no entry is timed out
none_counted : (l : List Entry) → (In Entry.TimedOut l → ⊥) → count_by is_timed_out l ≡ 0
none_counted [] h = refl
none_counted (e ∷ rest) h =
    let more = sum_by-cons (λ (x : Entry). cond (is_timed_out x) 1 0) e rest in
    omega (arith, more, none_counted rest (λ i. h (inr i)), first e (λ q. h (inl q)))
  where
    one_if : Bool → ℕ
    one_if b = cond b 1 0

    first : (e : Entry) → (e ≡ Entry.TimedOut → ⊥) → one_if (is_timed_out e) ≡ 0
    first (Entry.Heard origin x) k = refl
    first Entry.Proposed k = refl
    first Entry.Nudged k = refl
    first (Entry.Sent item) k = refl
    first Entry.Executed k = refl
    first Entry.Marked k = refl
    first Entry.TimedOut k = absurd (k refl)

none_timed : (run : Run) (makers : List Maker) → ((m : Maker) → IsIn m makers → In Entry.TimedOut (journal_in run m) → ⊥) → sum_by (timed_in run) makers ≡ 0
none_timed run [] h = refl
none_timed run (m ∷ rest) h =
    omega (arith, sum_by-cons (timed_in run) m rest, none_counted (journal_in run m) (h m (inl refl)), none_timed run rest (λ n i. h n (inr i)))

-- ---- a step

module _ (r : Rules) (n : ℕ) (s : Sane r) (none : r.lines ≡ []) where
  abbrev run : Run
  run = after r n

  abbrev AllCalm : Type 0
  AllCalm = AreStill r (after r n) → AreUnmoved r (after r n) → (m : Maker) → IsIn m r.makers → moves m (journal_in (after r n) m) Mover.Timeout ≡ false

  no_line : (given kept rest : List Line) (line : Line) (entries : ℕ) → AreLined r given (kept ++ line ∷ rest) entries → ⊥
  no_line given kept rest line entries lined =
      let one : Line → ℕ = λ (x : Line). cond true 1 0 in
      let all = lined.all (λ x. true) in
      let lines = ap (λ (l : List Line). count_by (λ (x : Line). true) l) none in
      omega (arith, all, lines, sum_by-append one kept (line ∷ rest), sum_by-cons one line rest)

  -- a unit of patience is on, and nobody timed out: so it wasn't used before, and nothing moves
  in_time : (at : List ℕ) (m : Maker) (rest : List Maker) → (after r n).phase ≡ Phase.Timing at (m ∷ rest) → IsIn m r.makers → IsTried r (after r n) (Phase.Timing at (m ∷ rest))
      → AreUntimed r (after r n) → AllCalm → moves m (journal_in (after r n) m) Mover.Timeout ≡ false
  in_time at m rest e i (inl (inl few)) h calm =
      let patient : IsPatient r (after r n) = after_patient r n s in
      let timed_ones : List Moment → ℕ = λ l. count_by (λ (x : Moment). x.timed) l in
      let noted : timed_ones (noted_in run) ≡ timed_ones (run.moments ++ moment at true ∷ []) = ap (λ (p : Phase). timed_ones (noted_by run p)) e in
      let one = sum_by_push (λ (x : Moment). cond x.timed 1 0) run.moments (moment at true) in
      absurd (omega (arith, few, none_timed run r.makers h, patient, noted, one))
  in_time at m rest e i (inl (inr dead)) h calm = dead.calm m i
  in_time at m rest e i (inr trying) h calm = calm trying.still trying.unmoved m i

  may_by : (p : Phase) → (after r n).phase ≡ p → Stands r (after r n) p → IsLined r (after r n) p → IsTried r (after r n) p → AreUntimed r (after r n) → AllCalm
      → MayBe MayTime (after r n) p
  may_by (Phase.Lines kept []) e st lined tried h calm = tt
  may_by (Phase.Lines kept (line ∷ rest)) e st lined tried h calm = absurd (no_line run.given kept rest line _ lined)
  may_by Phase.Pick e st lined tried h calm = tt
  may_by (Phase.Nudging at [] moved) e st lined tried h calm = tt
  may_by (Phase.Nudging at (m ∷ rest) moved) e st lined tried h calm = tt
  may_by (Phase.Timing at []) e st lined tried h calm = tt
  may_by (Phase.Timing at (m ∷ rest)) e st lined tried h calm = in_time at m rest e (st.inside m (inl refl)) tried h calm
  may_by (Phase.Ended spent) e st lined tried h calm = tt

  -- where all are calm once nothing else moves, a step makes no entry of a Timeout
  pub untimed_next : AreUntimed r (after r n)
      → (AreStill r (after r n) → AreUnmoved r (after r n) → (m : Maker) → IsIn m r.makers → moves m (journal_in (after r n) m) Mover.Timeout ≡ false)
      → AreUntimed r (after r (suc n))
  untimed_next h calm =
      let stands = (after_well r n s).stands in
      next_lasts r MayTime (AreUntimed r) (untimed_lasts r) run run.phase (known r run run.phase stands)
      (may_by run.phase refl stands (after_lined r n) (after_tried r n s) h calm) h

-- at the start there is no entry
pub start_untimed : (r : Rules) → AreUntimed r (after r 0)
start_untimed r m i h = absurd h
