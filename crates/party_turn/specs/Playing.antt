-- A party under a turn, and what one act of it does.
use Rattle.std.specs.Prelude.{◌≡◌, List, Option, Some, None, length}
use Rattle.bft_verify.specs.Sound.{IsSound}
use Rattle.turn_lock.specs.Histories.{with_entry}
use Rattle.run_words.specs.Journal.{Maker, IsHeardSound}
use Rattle.run_words.specs.Acts.{Acted}
use Rattle.run_words.specs.declared.logs.Entry.{Entry}
use Rattle.run_words.specs.declared.party.Act.{Act}
use Rattle.party_turn.specs.declared.answered.Answered.{Answered}

-- the party, and the party as it was handed in
pub record Actor (P : Type 0) : Type 0 where
  pub party : P
  pub first : P

abbrev pub first_of : {P : Type 0} → P → Actor P
first_of party = record { party = party; first = party }

-- what is heard is sound for the members and keys that it names
abbrev pub IsSoundAct : Act → Type 0
IsSoundAct (Act.Hear origin heard) = IsSound heard.members heard.ring heard.message
IsSoundAct act = Unit {0}

-- where there is an entry, it hears a sound message or none
abbrev pub IsSoundIf : Maker → Option Entry → Type 0
IsSoundIf m None = Unit {0}
IsSoundIf m (Some e) = IsHeardSound m e

-- the act's step on the journal, by a sound message where it hears one; and the number of entries that is told
pub record Plays (m : Maker) (journal : List Entry) (act : Act) (answer : Answered) (e : Option Entry) : Type 0 where
  pub acted : Acted m journal act answer.told (with_entry journal e)
  pub sound : IsSoundIf m e
  pub count : answer.entries ≡ length (with_entry journal e)
