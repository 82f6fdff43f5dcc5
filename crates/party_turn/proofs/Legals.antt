-- A legal history is a journal of the replica's machine.
use Rattle.std.proofs.Common.{ℕ, List, [], ◌∷◌, ◌++◌}
use Rattle.turn_lock.specs.Histories.{LegalFrom, entries}
use Rattle.run_words.specs.Journal.{Maker, IsMadeFrom, AreSound}
use Rattle.run_words.specs.declared.logs.Entry.{Entry}
use Rattle.party_turn.specs.Playing.{Plays}
use Rattle.party_turn.specs.Histories.{HistoryLaw}
use Rattle.party_turn.proofs.Entering.{acted_next}

module _ {P : Type 0} (made : P → Maker) (first : P) (seats : ℕ) where
  made_from : (before : List Entry) (log : List (ℕ × Entry)) → LegalFrom (λ p. Plays (made p)) first seats before log
      → IsMadeFrom (made first) before (entries log)
  made_from before [] h = tt
  made_from before (x ∷ rest) h =
      let played = h.0.0.2 in
      ((acted_next (made first) before h.0.0.0 h.0.0.1.told x.1 played.acted).0, made_from (before ++ x.1 ∷ []) rest h.1)

  sound_from : (before : List Entry) (log : List (ℕ × Entry)) → LegalFrom (λ p. Plays (made p)) first seats before log
      → AreSound (made first) (entries log)
  sound_from before [] h = tt
  sound_from before (x ∷ rest) h = (h.0.0.2.sound, sound_from (before ++ x.1 ∷ []) rest h.1)

pub history : {P : Type 0} (made : P → Maker) → HistoryLaw made
history made first seats log h = (made_from made first seats [] log h, sound_from made first seats [] log h)
