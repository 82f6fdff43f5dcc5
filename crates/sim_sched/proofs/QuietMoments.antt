-- A quiet moment: nudges, and timeouts where these move nothing and there is patience; then the moment is over.
use Rattle.std.proofs.Common.{◌≡◌, ℕ, suc, Bool, true, false, cond, ◌||◌, List, [], refl, sym, ap, subst, ◌∙◌}
use Rattle.fault_script.specs.declared.twists.TimeoutLine.{TimeoutLine}
use Rattle.run_words.specs.declared.movers.Mover.{Mover}
use Rattle.run_words.specs.declared.logs.Moment.{Moment}
use Rattle.run_words.specs.Journal.{Maker, moves}
use Rattle.run_words.specs.Runs.{Rules, Run, Phase, journal_in, give, again, over, ended, by_patience, next, next_in}
use Rattle.rand_chacha.specs.ChaCha.{ChaCha}
use Rattle.sim_sched.specs.Seats.{SeatView, numbers_of}
use Rattle.sim_sched.specs.Simulating.{AreRules}
use Rattle.sim_sched.specs.Playing.{IsIn, IsBefore, IsEnded, with_moment, IsRound, RoundedBy, Rounded, Quieted}
use Rattle.sim_sched.specs.declared.rounds.Round.{Round}
use Rattle.sim_sched.specs.declared.rounds.Progress.{Progress}
use Rattle.sim_sched.proofs.EachInTurn.{reached_to, ended_by}

-- ---- the two rounds

abbrev nudging : List ℕ → List Maker → Bool → Phase
nudging at rest moved = Phase.Nudging at rest moved

abbrev timing : List ℕ → List Maker → Bool → Phase
timing at rest moved = Phase.Timing at rest

pub nudges : IsRound Mover.Nudge false nudging
nudges = record {
  gives = λ r run at m rest moved p s.
      ap (next_in r run) p
      ∙ ap (λ b. cond b (ended true (over at false run)) (record (give m Mover.Nudge run) { phase = nudging at rest (moved || moves m (journal_in run m) Mover.Nudge) })) s;
  cuts = λ r run at m rest moved p s.
      ap (next_in r run) p
      ∙ ap (λ b. cond b (ended true (over at false run)) (record (give m Mover.Nudge run) { phase = nudging at rest (moved || moves m (journal_in run m) Mover.Nudge) })) s;
}

pub timeouts : IsRound Mover.Timeout true timing
timeouts = record {
  gives = λ r run at m rest moved p s.
      ap (next_in r run) p
      ∙ ap (λ b. cond b (ended true (over at true run)) (record (give m Mover.Timeout run) { phase = Phase.Timing at rest })) s;
  cuts = λ r run at m rest moved p s.
      ap (next_in r run) p
      ∙ ap (λ b. cond b (ended true (over at true run)) (record (give m Mover.Timeout run) { phase = Phase.Timing at rest })) s;
}

-- ---- the moment is over

module _ (r : Rules) (key : List ℕ) (lines : List TimeoutLine) (views : List SeatView) (g : ChaCha) (entries patience : ℕ) (at : List ℕ) (moments : List Moment) where
  -- the run is to go through its lines again
  over_by : (timed : Bool) (phase : Phase) → ((run : Run) → next_in r run phase ≡ again (over at timed run))
      → IsIn r key phase lines views g entries patience moments → IsBefore r key lines views g entries patience (with_moment at timed moments)
  over_by timed phase so (run, w, p, ls, held) =
      let then : Run = again (over at timed run) in (
        then,
        reached_to r run then w (ap (next_in r run) p ∙ so run),
        record {
          lines = run.lines;
          phase = refl;
          are = ls;
          held = record {
            seated = held.seated;
            placed = held.placed;
            counted = held.counted;
            left = held.left;
            noted = ap (with_moment at timed) held.noted;
          };
        },
      )

  pub over_moved : IsIn r key (Phase.Nudging at [] true) lines views g entries patience moments
      → IsBefore r key lines views g entries patience (with_moment at false moments)
  over_moved i = over_by false (Phase.Nudging at [] true) (λ run. refl) i

  pub over_timed : IsIn r key (Phase.Timing at []) lines views g entries patience moments
      → IsBefore r key lines views g entries patience (with_moment at true moments)
  over_timed i = over_by true (Phase.Timing at []) (λ run. refl) i

  -- nobody moved, and there is no patience: the run has ended
  pub over_still : patience ≡ 0 → IsIn r key (Phase.Nudging at [] false) lines views g entries patience moments
      → IsEnded r false views patience (with_moment at false moments)
  over_still none (run, w, p, ls, held) =
      let end : Run = ended false (over at false run) in
      let e : next r run ≡ end = ap (next_in r run) p ∙ ap (by_patience r run at) (sym held.left ∙ none) in
      ended_by r end views patience (with_moment at false moments) false (reached_to r run end w e) refl held.seated held.left
      (ap (with_moment at false) held.noted)

  -- a unit of patience is used
  pub patience_used : (left : ℕ) → patience ≡ suc left → IsIn r key (Phase.Nudging at [] false) lines views g entries patience moments
      → IsIn r key (Phase.Timing at r.makers) lines views g entries left moments
  patience_used left some (run, w, p, ls, held) =
      let then : Run = record run { left = left; phase = Phase.Timing at r.makers } in
      let e : next r run ≡ then = ap (next_in r run) p ∙ ap (by_patience r run at) (sym held.left ∙ some) in (
        then,
        reached_to r run then w e,
        refl,
        ls,
        record { seated = held.seated; placed = held.placed; counted = held.counted; left = refl; noted = held.noted },
      )

-- ---- what comes of it

-- the numbers that are noted are those at which the moment began
abbrev NotedAt : List SeatView → Bool → List Moment → List Moment → Type 0
NotedAt views timed moments later = later ≡ with_moment (numbers_of views) timed moments

pub noted_at : (views : List SeatView) (timed : Bool) (counts : List ℕ) (moments later : List Moment) → counts ≡ numbers_of views
    → later ≡ with_moment counts timed moments → NotedAt views timed moments later
noted_at views timed counts moments later c l = l ∙ ap (λ k. with_moment k timed moments) c

module _ (turns : ℕ) (views now : List SeatView) (before patience : ℕ) (moments later : List Moment) (told : Round)
    (nudged : Rounded Mover.Nudge views before turns told now) where
  abbrev Nudged : Rules → List ℕ → List TimeoutLine → ChaCha → Bool → Type 0
  Nudged r key lines g spent = RoundedBy nudging false r key (numbers_of views) lines patience moments told spent now g

  abbrev IsQuiet : Rules → List ℕ → List TimeoutLine → ChaCha → Type 0
  IsQuiet r key lines g = IsIn r key (Phase.Nudging (numbers_of views) r.makers false) lines views g before patience moments

  by_nudges : (r : Rules) (key : List ℕ) (lines : List TimeoutLine) (g : ChaCha) (spent : Bool) → told.spent ≡ spent → AreRules r key turns
      → IsQuiet r key lines g → Nudged r key lines g spent
  by_nudges r key lines g spent e u i =
      subst (λ b. Nudged r key lines g b) e (nudged false nudging r key (numbers_of views) lines g patience moments nudges u i)

  nudged_to : (r : Rules) (key : List ℕ) (lines : List TimeoutLine) (g : ChaCha) (moved : Bool) → told.spent ≡ false → told.moved ≡ moved
      → AreRules r key turns → IsQuiet r key lines g
      → IsIn r key (Phase.Nudging (numbers_of views) [] moved) lines now g told.entries patience moments
  nudged_to r key lines g moved e m u i =
      subst (λ b. IsIn r key (Phase.Nudging (numbers_of views) [] b) lines now g told.entries patience moments) m
      (by_nudges r key lines g false e u i)

  pub quiet_cut : told.spent ≡ true → NotedAt views false moments later → Quieted turns views before patience moments Progress.Cut now patience later
  quiet_cut e l r key lines g u i =
      subst (λ (k : List Moment). IsEnded r true now patience k) (sym l) (by_nudges r key lines g true e u i)

  pub quiet_moved : told.spent ≡ false → told.moved ≡ true → NotedAt views false moments later
      → Quieted turns views before patience moments (Progress.On told.entries) now patience later
  quiet_moved e m l r key lines g u i =
      subst (λ (k : List Moment). IsBefore r key lines now g told.entries patience k) (sym l)
      (over_moved r key lines now g told.entries patience (numbers_of views) moments (nudged_to r key lines g true e m u i))

  pub quiet_still : told.spent ≡ false → told.moved ≡ false → patience ≡ 0 → NotedAt views false moments later
      → Quieted turns views before patience moments (Progress.Rest told.entries) now patience later
  quiet_still e m none l r key lines g u i =
      subst (λ (k : List Moment). IsEnded r false now patience k) (sym l)
      (over_still r key lines now g told.entries patience (numbers_of views) moments none (nudged_to r key lines g false e m u i))

  module _ (last : List SeatView) (left : ℕ) (some : patience ≡ suc left) (e : told.spent ≡ false) (m : told.moved ≡ false) (ends : Round)
      (timed : Rounded Mover.Timeout now told.entries turns ends last) (l : NotedAt views true moments later) where
    timed_by : (r : Rules) (key : List ℕ) (lines : List TimeoutLine) (g : ChaCha) (spent : Bool) → ends.spent ≡ spent → AreRules r key turns
        → IsQuiet r key lines g → RoundedBy timing true r key (numbers_of views) lines left moments ends spent last g
    timed_by r key lines g spent s u i =
        let j = patience_used r key lines now g told.entries patience (numbers_of views) moments left some (nudged_to r key lines g false e m u i) in
        subst (λ b. RoundedBy timing true r key (numbers_of views) lines left moments ends b last g) s
        (timed true timing r key (numbers_of views) lines g left moments timeouts u j)

    pub quiet_timed_cut : ends.spent ≡ true → Quieted turns views before patience moments Progress.Cut last left later
    quiet_timed_cut s r key lines g u i =
        subst (λ (k : List Moment). IsEnded r true last left k) (sym l) (timed_by r key lines g true s u i)

    pub quiet_timed : ends.spent ≡ false → Quieted turns views before patience moments (Progress.On ends.entries) last left later
    quiet_timed s r key lines g u i =
        subst (λ (k : List Moment). IsBefore r key lines last g ends.entries left k) (sym l)
        (over_timed r key lines last g ends.entries left (numbers_of views) moments (timed_by r key lines g false s u i))
