-- A world that meets every premise of the headline and does more: a replica alone in its cluster orders a client's request, repeats
-- what it came to, states a checkpoint, prepares another client's, and carries it over into view 1. It signs what it says by the leaves
-- of one key.
use Rattle.std.specs.Prelude.{ℕ, false, nat_eq, List, [], ◌∷◌, if◌then◌else◌}
use Rattle.fab_base.specs.Limits.{Roster}
use Rattle.fab_base.specs.declared.requests.Request.{Request}
use Rattle.fab_base.specs.declared.requests.Reply.TheVariants.{Wrote}
use Rattle.fab_base.specs.declared.requests.Outcome.TheVariants.{Done}
use Rattle.fab_base.specs.declared.messages.Vote.{Vote}
use Rattle.fab_base.specs.declared.messages.StableVote.{StableVote}
use Rattle.fab_base.specs.declared.messages.PrePrepare.{PrePrepare}
use Rattle.fab_base.specs.declared.messages.PreparedCert.{PreparedCert}
use Rattle.fab_base.specs.declared.messages.ViewChange.{ViewChange}
use Rattle.fab_base.specs.declared.messages.NewView.{NewView}
use Rattle.fab_base.specs.declared.messages.NoteLine.{NoteLine}
use Rattle.fab_base.specs.declared.messages.Note.{Note}
use Rattle.fab_base.specs.declared.messages.Message.{Message}
use Rattle.fab_rules.specs.declared.blocks.Block.{Block}
use Rattle.fab_rules.specs.Digests.{batch_digest}
use Rattle.fab_rules.specs.Ledger.{chain_of}
use Rattle.fab_rules.specs.Diary.{Entry, Heard, Said, Did}
use Rattle.fab_rules.specs.Spelling.{content_of}
use Rattle.lmots_core.specs.declared.seed.OtsSeed.{OtsSeed}
use Rattle.lms_tree.specs.Keys.{public_of_key}
use Rattle.bft_verify.specs.Ring.{Ring}
use Rattle.world_laws.specs.World.{World}
use Rattle.world_laws.specs.Signing.{signing_key, signed_proposal, signed_vote, signed_mark, signed_change, signed_new_view, key_for, signed_request}
use Rattle.world_laws.specs.Examples.{put, line}
use Rattle.world_laws.specs.LoneWorld.{only}

abbrev pub busy : Roster
busy = record { sizes = 1 ∷ []; homes = 1 ∷ 1 ∷ []; window = 4; interval = 1; batch = 1 }

-- ---- what is asked and said

-- each client's request
abbrev pub first_request : Request
first_request = signed_request (put 0 1)

abbrev pub second_request : Request
second_request = signed_request (put 1 1)

abbrev pub first_batch : List Request
first_batch = first_request ∷ []

abbrev pub second_batch : List Request
second_batch = second_request ∷ []

-- a proposal and a vote, unsigned as they are said. The proposal is of view 0
abbrev pub proposal_for : ℕ → List Request → PrePrepare
proposal_for slot batch = record { signer = only; view = 0; slot = slot; batch = batch; sig = [] }

abbrev pub vote_for : ℕ → ℕ → List Request → Vote
vote_for view slot batch = record { signer = only; view = view; slot = slot; digest = batch_digest batch; sig = [] }

abbrev pub first_block : Block
first_block = record { round = 1; cluster = 1; batch = first_batch }

abbrev pub first_lines : List NoteLine
first_lines = line 0 1 (Done Wrote) ∷ []

abbrev pub first_note : Note
first_note = record { signer = only; round = 1; digest = batch_digest first_batch; lines = first_lines; sig = [] }

abbrev pub first_mark : StableVote
first_mark = record { signer = only; round = 1; digest = chain_of (first_block ∷ []); sig = [] }

-- ---- what is heard, signed by the leaf after that of what was said before (leaf 3 is the note's)

abbrev pub first_proposal : OtsSeed → PrePrepare
first_proposal seed = signed_proposal seed 0 (proposal_for 1 first_batch)

abbrev pub first_prepare : OtsSeed → Vote
first_prepare seed = signed_vote Message.Prepare seed 1 (vote_for 0 1 first_batch)

abbrev pub first_commit : OtsSeed → Vote
first_commit seed = signed_vote Message.Commit seed 2 (vote_for 0 1 first_batch)

abbrev pub heard_mark : OtsSeed → StableVote
heard_mark seed = signed_mark seed 4 first_mark

abbrev pub second_proposal : OtsSeed → PrePrepare
second_proposal seed = signed_proposal seed 5 (proposal_for 2 second_batch)

abbrev pub second_prepare : OtsSeed → Vote
second_prepare seed = signed_vote Message.Prepare seed 6 (vote_for 0 2 second_batch)

-- slot 2 was prepared in view 0
abbrev pub second_certificate : OtsSeed → PreparedCert
second_certificate seed = record { view = 0; slot = 2; batch = second_batch; votes = second_prepare seed ∷ [] }

-- the change to view 1: the mark with its proof, and the certificate
abbrev pub only_change : OtsSeed → ViewChange
only_change seed = record {
  signer = only;
  view = 1;
  low = 1;
  proof = heard_mark seed ∷ [];
  prepared = second_certificate seed ∷ [];
  sig = [];
}

abbrev pub heard_change : OtsSeed → ViewChange
heard_change seed = signed_change seed 7 (only_change seed)

abbrev pub only_new_view : OtsSeed → NewView
only_new_view seed = record { signer = only; view = 1; changes = heard_change seed ∷ []; sig = [] }

abbrev pub heard_new_view : OtsSeed → NewView
heard_new_view seed = signed_new_view seed 8 (only_new_view seed)

-- ---- the diary, part by part, the newest entry first

-- the clients' requests
abbrev pub asked : List Entry
asked = Heard (Message.Request second_request) ∷ Heard (Message.Request first_request) ∷ []

-- the first is proposed, prepared and committed
abbrev pub proposed_first : OtsSeed → List Entry
proposed_first seed =
    Heard (Message.PrePrepare (first_proposal seed)) ∷ Said (Message.PrePrepare (proposal_for 1 first_batch)) ∷ asked

abbrev pub prepared_first : OtsSeed → List Entry
prepared_first seed =
    Heard (Message.Prepare (first_prepare seed)) ∷ Said (Message.Prepare (vote_for 0 1 first_batch)) ∷ proposed_first seed

abbrev pub committed_first : OtsSeed → List Entry
committed_first seed =
    Heard (Message.Commit (first_commit seed)) ∷ Said (Message.Commit (vote_for 0 1 first_batch)) ∷ prepared_first seed

-- its block is done, and what it came to is told
abbrev pub done_first : OtsSeed → List Entry
done_first seed = Said (Message.ReplyNote first_note) ∷ Did first_block ∷ committed_first seed

abbrev pub marked : OtsSeed → List Entry
marked seed = Heard (Message.Checkpoint (heard_mark seed)) ∷ Said (Message.Checkpoint first_mark) ∷ done_first seed

-- the second is proposed and prepared
abbrev pub proposed_second : OtsSeed → List Entry
proposed_second seed =
    Heard (Message.PrePrepare (second_proposal seed)) ∷ Said (Message.PrePrepare (proposal_for 2 second_batch)) ∷ marked seed

abbrev pub prepared_second : OtsSeed → List Entry
prepared_second seed =
    Heard (Message.Prepare (second_prepare seed)) ∷ Said (Message.Prepare (vote_for 0 2 second_batch)) ∷ proposed_second seed

-- view 1 is asked for and begins
abbrev pub asking : OtsSeed → List Entry
asking seed = Heard (Message.ViewChange (heard_change seed)) ∷ Said (Message.ViewChange (only_change seed)) ∷ prepared_second seed

abbrev pub begun : OtsSeed → List Entry
begun seed = Heard (Message.NewView (heard_new_view seed)) ∷ Said (Message.NewView (only_new_view seed)) ∷ asking seed

-- the chosen batch is prepared again
abbrev pub busy_diary : OtsSeed → List Entry
busy_diary seed = Said (Message.Prepare (vote_for 1 2 second_batch)) ∷ begun seed

-- ---- the world

abbrev pub busy_ring : OtsSeed → Ring
busy_ring seed = record {
  replicas = (public_of_key (signing_key seed) ∷ []) ∷ [];
  clients = key_for (content_of (Message.Request (put 0 1))) ∷ key_for (content_of (Message.Request (put 1 1))) ∷ [];
}

abbrev pub busy_world : OtsSeed → World
busy_world seed = record {
  roster = busy;
  ring = busy_ring seed;
  faulty = λ who. false;
  issued = λ client. if nat_eq client.number 0 then put 0 1 ∷ [] else put 1 1 ∷ [];
  diary = λ i. busy_diary seed;
}
