-- What the signers of the lone replica's world sign: the replica three statements by the leaves of its key, in order, and clients nothing.
use Rattle.std.specs.Prelude.{ℕ, List, [], ◌∷◌, Option, None}
use Rattle.lmots_core.specs.declared.seed.OtsSeed.{OtsSeed}
use Rattle.fab_base.specs.declared.ids.Who.{Who}
use Rattle.fab_base.specs.declared.messages.Message.{Message}
use Rattle.fab_rules.specs.Spelling.{content_of}
use Rattle.world_laws.specs.Signing.{signing_key}
use Rattle.world_laws.specs.LoneWorld.{lone_proposal, lone_vote}
use Rattle.lms_laws.specs.Signed.{Signing, signed_in_order}
use Rattle.hash_laws.specs.Signers.{Signers}

-- what its leaves sign, in order
abbrev pub lone_contents : List (List ℕ)
lone_contents = content_of (Message.PrePrepare lone_proposal) ∷ content_of (Message.Prepare lone_vote) ∷ content_of (Message.Commit lone_vote) ∷ []

abbrev pub signings_of : OtsSeed → Who → ℕ → Option Signing
signings_of seed (Who.Replica i) = signed_in_order (signing_key seed) lone_contents
signings_of seed (Who.Client c) = λ q. None

abbrev pub lone_signers : OtsSeed → Signers
lone_signers seed = record { key_by = λ who. signing_key seed; signed_by = signings_of seed }
