-- The parts of a message as a judge gets them (ours).
use Rattle.std.specs.Prelude.{◌≡◌, ℕ, true, List, Option, Some}
use Rattle.fab_base.specs.declared.ids.Who.{Who}
use Rattle.fab_base.specs.declared.messages.Message.{Message}
use Rattle.fab_rules.specs.Format.{fields_fit}
use Rattle.fab_rules.specs.Spelling.{content_of}
use Rattle.fab_rules.specs.Statements.{signer_of, signature_of}

-- there is a part that he signs, with this content and this signature
pub record IsSignedPart (who : Who) (content signature : List ℕ) : Type 0 where
  pub part : Message
  pub part_fits : fields_fit part ≡ true
  pub signer_is : signer_of part ≡ Some who
  pub content_is : content_of part ≡ content
  pub signature_is : signature_of part ≡ signature

-- what a judge finds in a part, by who signs it, if anybody does, its content and its signature
abbrev pub found_in : {F : Type 0} → (ℕ → Option Who → List ℕ → List ℕ → List F) → ℕ → Message → List F
found_in wrong k p = wrong k (signer_of p) (content_of p) (signature_of p)
