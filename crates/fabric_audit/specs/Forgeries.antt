-- What the audit finds in a message: the parts that their signers didn't make.
use Rattle.std.specs.Prelude.{Bool, true, false, List, [], ◌∷◌, Option, Some, None}
use Rattle.fab_base.specs.declared.ids.Who.{Who}
use Rattle.fab_base.specs.declared.messages.Message.{Message}
use Rattle.fab_rules.specs.Spelling.{content_of}
use Rattle.fab_rules.specs.Statements.{signer_of}
use Rattle.run_words.specs.declared.logs.Transcript.{Transcript}
use Rattle.run_worlds.specs.Sights.{is_made_by}
use Rattle.fabric_audit.specs.declared.makers.Unmade.{Unmade}

-- the fault of a part, by whether its signer made it
abbrev pub unmade_by : Bool → Option Who → List Unmade
unmade_by true signer = []
unmade_by false None = []
unmade_by false (Some who) = Unmade.By who ∷ []

abbrev pub unmade : Transcript → Message → List Unmade
unmade t p = unmade_by (is_made_by t (signer_of p) (content_of p)) (signer_of p)

-- faults that need no cause in the message
abbrev pub IsFree : Unmade → Type 0
IsFree (Unmade.By who) = ⊥
IsFree Unmade.NoMemory = Unit {0}
