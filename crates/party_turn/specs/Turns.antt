-- The turn of a party, its passes, and what a call does to what a pass knows.
use Rattle.turn_lock.specs.Passes.{IsPassOf}
use Rattle.turn_lock.specs.Views.{Acted}
use Rattle.turn_lock.specs.declared.known.Known.{Known}
use Rattle.turn_lock.specs.declared.lock.Pass.{Pass}
use Rattle.turn_lock.specs.declared.lock.Turn.{Turn}
use Rattle.run_words.specs.Journal.{Maker}
use Rattle.run_words.specs.declared.logs.Entry.{Entry}
use Rattle.run_words.specs.declared.party.Act.{Act}
use Rattle.party_turn.specs.Playing.{Actor, Plays}
use Rattle.party_turn.specs.declared.answered.Answered.{Answered}

abbrev pub PartyTurn : Type 0 → Type 0
PartyTurn P = Turn (Actor P) Act Answered Entry P

abbrev pub PartyPass : Type 0 → Type 0
PartyPass P = Pass (Actor P) Act Answered Entry P

module _ {P : Type 0} (made : P → Maker) where
  -- it is a pass of the turn of such a party, at rest
  abbrev pub IsPartyPass : PartyTurn P → PartyPass P → Type 0
  IsPartyPass turn pass = IsPassOf (λ first. Plays (made first)) (λ (a : Actor P). a.first) turn pass

  -- one call that was answered, of the turn of the party that was handed in as `first`
  abbrev pub Acts : P → Known Entry P → Act → Answered → Known Entry P → Type 0
  Acts first v act answer w = Acted (λ p. Plays (made p)) first v act answer w
