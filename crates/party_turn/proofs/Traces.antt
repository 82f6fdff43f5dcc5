-- A legal history leaves a trace that is kept.
use Rattle.std.proofs.Common.{◌≡◌, ℕ, List, [], Result, Ok, Err, refl, sym, ap, subst, ◌∙◌}
use Rattle.std.specs.Prelude.{IfOk}
use Rattle.turn_lock.specs.Histories.{Legal, entries}
use Rattle.run_words.specs.Journal.{Maker}
use Rattle.run_words.specs.Runs.{trace_of}
use Rattle.run_words.specs.Lawful.{Kept}
use Rattle.run_words.specs.declared.logs.Entry.{Entry}
use Rattle.run_words.specs.declared.logs.Trace.{Trace}
use Rattle.party_turn.specs.Playing.{Plays}
use Rattle.party_turn.proofs.Legals.{history}

module _ {P : Type 0} (made : P → Maker) (first : P) (seats : ℕ) (log : List (ℕ × Entry)) where
  kept_trace : Legal (λ p. Plays (made p)) first seats log → Kept (made first) (trace_of (made first) (entries log) [])
  kept_trace h =
      let k = history made first seats log h in
      record { named = refl; fault = refl; replays = k.0; sound = k.1; signed = refl; parcels = refl; unsent = refl }

module _ {P F : Type 0} (made : P → Maker) (first : P) (seats : ℕ) (log : List (ℕ × Entry)) where
  -- the trace of the party is that of the history
  pub trace_is : (at : P) (journal : List Entry) (r : Result Trace F) → at ≡ first → journal ≡ entries log
      → IfOk r (λ trace. trace ≡ trace_of (made at) journal [])
      → IfOk r (λ trace. trace ≡ trace_of (made first) (entries log) [])
  trace_is at journal (Err e) p q h = h
  trace_is at journal (Ok t) p q h = h ∙ ap (λ x. trace_of (made x) journal []) p ∙ ap (λ j. trace_of (made first) j []) q

  pub trace_kept : (r : Result Trace F) → Legal (λ p. Plays (made p)) first seats log
      → IfOk r (λ trace. trace ≡ trace_of (made first) (entries log) [])
      → IfOk r (λ trace. Kept (made first) trace)
  trace_kept (Err e) l h = h
  trace_kept (Ok t) l h = subst (Kept (made first)) (sym h) (kept_trace made first seats log l)
