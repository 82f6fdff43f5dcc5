-- A world that meets every premise of the headline, and whose ledger isn't empty: one replica that orders the null batch, and signs what
-- it says by the leaves of one key.
use Rattle.std.specs.Prelude.{false, List, [], ◌∷◌}
use Rattle.fab_base.specs.Limits.{Roster}
use Rattle.fab_base.specs.declared.ids.ReplicaId.{ReplicaId}
use Rattle.fab_base.specs.declared.messages.Vote.{Vote}
use Rattle.fab_base.specs.declared.messages.PrePrepare.{PrePrepare}
use Rattle.fab_base.specs.declared.messages.Message.{Message}
use Rattle.fab_rules.specs.declared.blocks.Block.{Block}
use Rattle.fab_rules.specs.Digests.{batch_digest}
use Rattle.fab_rules.specs.Diary.{Entry, Heard, Said, Did}
use Rattle.lmots_core.specs.declared.seed.OtsSeed.{OtsSeed}
use Rattle.lms_tree.specs.Keys.{public_of_key}
use Rattle.bft_verify.specs.Ring.{Ring}
use Rattle.world_laws.specs.World.{World}
use Rattle.world_laws.specs.Signing.{signing_key, signed_proposal, signed_vote}

abbrev pub lone : Roster
lone = record { sizes = 1 ∷ []; homes = []; window = 1; interval = 1; batch = 1 }

abbrev pub only : ReplicaId
only = record { cluster = 1; index = 0 }

abbrev pub lone_proposal : PrePrepare
lone_proposal = record { signer = only; view = 0; slot = 1; batch = []; sig = [] }

abbrev pub lone_vote : Vote
lone_vote = record { signer = only; view = 0; slot = 1; digest = batch_digest []; sig = [] }

abbrev pub lone_block : Block
lone_block = record { round = 1; cluster = 1; batch = [] }

-- ---- what it is with its signature: the leaves are used in order

abbrev pub lone_signed_proposal : OtsSeed → PrePrepare
lone_signed_proposal seed = signed_proposal seed 0 lone_proposal

abbrev pub lone_prepare : OtsSeed → Vote
lone_prepare seed = signed_vote Message.Prepare seed 1 lone_vote

abbrev pub lone_commit : OtsSeed → Vote
lone_commit seed = signed_vote Message.Commit seed 2 lone_vote

-- the replica proposes, prepares and commits, hears each of these from itself, and does the block
abbrev pub lone_diary : OtsSeed → List Entry
lone_diary seed =
    Did lone_block ∷
    Heard (Message.Commit (lone_commit seed)) ∷ Said (Message.Commit lone_vote) ∷
    Heard (Message.Prepare (lone_prepare seed)) ∷ Said (Message.Prepare lone_vote) ∷
    Heard (Message.PrePrepare (lone_signed_proposal seed)) ∷ Said (Message.PrePrepare lone_proposal) ∷ []

abbrev pub lone_ring : OtsSeed → Ring
lone_ring seed = record { replicas = (public_of_key (signing_key seed) ∷ []) ∷ []; clients = [] }

abbrev pub lone_world : OtsSeed → World
lone_world seed = record {
  roster = lone;
  ring = lone_ring seed;
  faulty = λ who. false;
  issued = λ client. [];
  diary = λ i. lone_diary seed;
}
