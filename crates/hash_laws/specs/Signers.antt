-- What a world's signers sign with, and what it means that nothing heard in it breaks SHA-256. Their public keys are the world's ring.
use Rattle.std.specs.Prelude.{◌≡◌, ◌⊎◌, ℕ, List, [], Option, Some}
use Rattle.fab_base.specs.declared.ids.ReplicaId.{ReplicaId}
use Rattle.fab_base.specs.declared.ids.Who.{Who}
use Rattle.fab_base.specs.declared.requests.Request.{Request}
use Rattle.fab_base.specs.declared.messages.Message.{Message}
use Rattle.fab_rules.specs.Lists.{In}
use Rattle.fab_rules.specs.Statements.{parts_of, signer_of}
use Rattle.fab_rules.specs.Spelling.{content_of, spelling_of_batch}
use Rattle.fab_rules.specs.Diary.{Heard}
use Rattle.bft_verify.specs.Ring.{key_of}
use Rattle.bft_verify.specs.Sound.{signature_of}
use Rattle.world_laws.specs.World.{World, IsCorrect, IsCorrectSigner, IsOfMade, IsKnown}
use Rattle.lms_tree.specs.declared.public.Public.{Public}
use Rattle.lms_tree.specs.Keys.{TreeKey, public_of_key}
use Rattle.lms_laws.specs.Hashed.{IsBytes, IsCollision}
use Rattle.lms_laws.specs.Signed.{Signing, IsRecord}
use Rattle.lms_laws.specs.Forgery.{GivesBreak}

-- the key that each signer holds, and what its leaves signed
pub record Signers : Type 0 where
  pub key_by : Who → TreeKey
  pub signed_by : Who → ℕ → Option Signing

-- a part of what a correct replica heard, which bears the name of a correct signer
pub record IsSeen (w : World) (who : Who) (part : Message) : Type 0 where
  pub hearer : ReplicaId
  pub correct : IsCorrect w hearer
  pub message : Message
  pub heard : In (Heard message) (w.diary hearer)
  pub inside : In part (parts_of message)
  pub names : signer_of part ≡ Some who
  pub correct_signer : IsCorrectSigner w who

-- a signer whose key in the ring, if it has one there, is that of the key it holds, and whose leaves signed nothing but what it made
pub record SignsWhatItMade (w : World) (signers : Signers) (who : Who) : Type 0 where
  pub id : IsBytes (signers.key_by who).seed.id
  pub is_key : (key : Public) → key_of w.ring who ≡ Some key → key ≡ public_of_key (signers.key_by who)
  pub sound : IsRecord (signers.signed_by who)
  pub made : (q : ℕ) (signing : Signing) → signers.signed_by who q ≡ Some signing → IsOfMade w who signing.content

-- correct signers sign nothing but what they made
abbrev pub IsSigned : World → Signers → Type 0
IsSigned w signers = (who : Who) → IsCorrectSigner w who → SignsWhatItMade w signers who

-- a batch that was heard, or the null batch
abbrev pub IsKnownOrNull : World → List Request → Type 0
IsKnownOrNull w batch = (batch ≡ []) ⊎ IsKnown w batch

-- no part that was seen gives a collision or an inverted step under its signer's key, and no two batches collide
pub record IsUnbroken (w : World) (signers : Signers) : Type 0 where
  pub parts : (who : Who) (part : Message) → IsSeen w who part
      → GivesBreak (signers.key_by who) (signers.signed_by who) (content_of part) (signature_of part) → ⊥
  pub batches : (a b : List Request) → IsKnownOrNull w a → IsKnownOrNull w b → IsCollision (spelling_of_batch a) (spelling_of_batch b) → ⊥
