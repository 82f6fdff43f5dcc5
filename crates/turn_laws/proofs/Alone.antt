-- What the laws of fleets ask can be met.
use Rattle.std.proofs.Common.{◌≡◌, ℕ, true, false, cond, Bool, List, [], ◌∷◌, ◌++◌, refl, ap, subst, inl, inr, arith}
use Rattle.fab_rules.specs.Lists.{In}
use Rattle.run_words.specs.Journal.{state, is_blocked, moves, walk}
use Rattle.run_words.specs.Runs.{Rules}
use Rattle.run_words.specs.declared.logs.Entry.{Entry}
use Rattle.run_words.specs.declared.movers.Mover.{Mover}
use Rattle.turn_laws.specs.Ends.{End, IsFed, AreFed, IsCalm, IsQuiet}
use Rattle.turn_laws.specs.Pauses.{Pause, IsPause, given, GoesOn, AreTimely}
use Rattle.turn_laws.specs.Examples.{lone_patient, lone_end, lone_pause, IsMet, MetLaw}

module _ (leaves : ℕ) (signature : ℕ → List ℕ → List ℕ) (word : ℕ → ℕ) where
  abbrev r : Rules
  r = lone_patient leaves signature word

  abbrev e : End
  e = lone_end leaves signature

  abbrev ends : List End
  ends = e ∷ []

  abbrev pause : Bool → Pause
  pause timed = lone_pause leaves signature timed

  -- nothing moves it
  calm : (mover : Mover) → IsCalm mover e
  unfolding moves state is_blocked
  calm Mover.Batch = refl
  calm Mover.Nudge = refl
  calm Mover.Emit = refl
  calm Mover.Execute = refl
  calm Mover.Checkpoint = refl
  calm Mover.Timeout = refl

  -- what holds of it holds of each
  only : (P : End → Type 0) → P e → (x : End) → In x ends → P x
  only P h x (inl q) = subst P q h
  only P h x (inr none) = absurd none

  fed : AreFed r ends
  unfolding walk
  fed = record {
    makers = refl;
    fed = only (IsFed r ends) (record {
      made = tt;
      sound = tt;
      links = only (λ s. _) refl;
      requests = refl;
      known = λ c h. absurd h;
      heard = λ p. refl;
    });
  }

  quiet : (x : End) → In x ends → IsQuiet x
  quiet = only IsQuiet (record {
    none_left = refl;
    none_unheard = refl;
    batch = calm Mover.Batch;
    emit = calm Mover.Emit;
    execute = calm Mover.Execute;
    checkpoint = calm Mover.Checkpoint;
  })

  quiet_pause : (timed : Bool) → IsPause r (pause timed)
  quiet_pause timed = record { fed = fed; quiet = quiet; unmoved = λ q. only (IsCalm Mover.Nudge) (calm Mover.Nudge) }

  none_given : (timed : Bool) → given (pause timed) e ≡ []
  none_given true = ap (λ b. cond b (Entry.TimedOut ∷ []) []) (calm Mover.Timeout)
  none_given false = ap (λ b. cond b (Entry.Nudged ∷ []) []) (calm Mover.Nudge)

  goes_on : (first : List Entry) → first ≡ [] → GoesOn first e e
  goes_on first q = record {
    maker = refl;
    later = [];
    journal = ap (λ l. [] ++ (l ++ [])) q;
    unnudged = λ h. h;
    lined = omega arith;
    links = λ i. ([], refl);
    requests = ([], refl);
  }

  timely : AreTimely r (pause true ∷ pause false ∷ []) ends
  timely = record {
    quiet = quiets;
    ungiven = only _ ((λ h. h), omega arith);
    followed = ((goes_on (given (pause true) e) (none_given true), tt), (inl (goes_on (given (pause false) e) (none_given false)), tt));
    lines = only _ (omega arith);
  }
    where
      quiets : (p : Pause) → In p (pause true ∷ pause false ∷ []) → IsPause r p
      quiets p (inl q) = subst (IsPause r) q (quiet_pause true)
      quiets p (inr (inl q)) = subst (IsPause r) q (quiet_pause false)
      quiets p (inr (inr none)) = absurd none

  pub lone_met : IsMet r ends (pause true ∷ pause false ∷ [])
  lone_met = record {
    sane = record { apart = (tt, tt); requests = λ m c i h. absurd h; lines = λ line i. absurd i };
    fed = fed;
    timely = timely;
    patient = refl;
    tried = inr (only (IsCalm Mover.Timeout) (calm Mover.Timeout));
    quiet = quiet;
    calm = only (IsCalm Mover.Nudge) (calm Mover.Nudge);
  }

pub met : MetLaw
met leaves signature word = lone_met leaves signature word
