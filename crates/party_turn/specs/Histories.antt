-- What a turn's history says of the journal.
use Rattle.std.specs.Prelude.{ℕ, List}
use Rattle.turn_lock.specs.Histories.{Legal, entries}
use Rattle.run_words.specs.Journal.{Maker, IsMade, AreSound}
use Rattle.run_words.specs.declared.logs.Entry.{Entry}
use Rattle.party_turn.specs.Playing.{Plays}

abbrev pub HistoryLaw : {P : Type 0} → (P → Maker) → Type 0
HistoryLaw {P} made = (first : P) (seats : ℕ) (log : List (ℕ × Entry)) → Legal (λ p. Plays (made p)) first seats log
    → IsMade (made first) (entries log) × AreSound (made first) (entries log)
