-- The diary of a replica: what it heard, said and did, and the questions that rules ask of it.
use Rattle.std.specs.Prelude.{◌≡◌, ℕ, ◌++◌, ◌&&◌, List, [], ◌∷◌, Option, Some, None, nat_eq, if◌then◌else◌}
use Rattle.fab_base.specs.Limits.{Roster}
use Rattle.fab_base.specs.Quorums.{IsQuorum}
use Rattle.fab_base.specs.Roster.{size_of}
use Rattle.fab_base.specs.declared.ids.ReplicaId.{ReplicaId}
use Rattle.fab_base.specs.declared.ids.Hash32.{Hash32}
use Rattle.fab_base.specs.declared.requests.Request.{Request}
use Rattle.fab_base.specs.declared.messages.Vote.{Vote}
use Rattle.fab_base.specs.declared.messages.PrePrepare.{PrePrepare}
use Rattle.fab_base.specs.declared.messages.NewView.{NewView}
use Rattle.fab_base.specs.declared.messages.Plea.{Plea}
use Rattle.fab_base.specs.declared.messages.Message.{Message}
use Rattle.fab_rules.specs.declared.blocks.Block.{Block}
use Rattle.fab_rules.specs.Lists.{In}
use Rattle.fab_rules.specs.Digests.{batch_digest}
use Rattle.fab_rules.specs.Statements.{statements_of, batches_of}
use Rattle.fab_rules.specs.Quoted.{IsVoteFor}

-- a message was heard, a statement of the replica's own was said (it is a message without its own signature), or a block took its
-- place in the ledger
pub data Entry : Type 0 where
  Heard : Message → Entry
  Said : Message → Entry
  Did : Block → Entry

-- A diary is a list of entries, the newest first. So what is earlier than an entry is what stands behind it.

-- the blocks that were done, the oldest first
abbrev pub ledger : List Entry → List Block
ledger [] = []
ledger (Heard m ∷ past) = ledger past
ledger (Said m ∷ past) = ledger past
ledger (Did block ∷ past) = ledger past ++ block ∷ []

-- ---- what was heard

-- the Prepare was heard
abbrev pub PrepareHeard : List Entry → Vote → Type 0
PrepareHeard past v = In (Heard (Message.Prepare v)) past

-- the statement was heard: as a message, or inside one
pub record StatementHeard (past : List Entry) (statement : Message) : Type 0 where
  pub message : Message
  pub heard : In (Heard message) past
  pub inside : In statement (statements_of message)

-- the Commit was heard: as a message, or inside a Share
abbrev pub CommitHeard : List Entry → Vote → Type 0
CommitHeard past v = StatementHeard past (Message.Commit v)

-- a heard message has the batch
pub record BatchHeard (past : List Entry) (batch : List Request) : Type 0 where
  pub message : Message
  pub heard : In (Heard message) past
  pub inside : In batch (batches_of message)

-- a vote of this member, for this view, slot and digest, was heard in this sense
pub record VoteOf (WasHeard : Vote → Type 0) (member : ReplicaId) (view slot : ℕ) (digest : Hash32) : Type 0 where
  pub vote : Vote
  pub heard : WasHeard vote
  pub signer : vote.signer ≡ member
  pub votes_for : IsVoteFor view slot digest vote

-- such votes of a quorum of distinct members of a cluster were heard
pub record QuorumHeard (r : Roster) (WasHeard : Vote → Type 0) (cluster view slot : ℕ) (digest : Hash32) : Type 0 where
  pub members : List ℕ
  pub quorum : IsQuorum (size_of r cluster) members
  pub each : (k : ℕ) → In k members → VoteOf WasHeard (record { cluster = cluster; index = k }) view slot digest

-- the cluster's PrePrepare for this view, slot and digest was heard
pub record ProposalHeard (past : List Entry) (cluster view slot : ℕ) (digest : Hash32) : Type 0 where
  pub proposal : PrePrepare
  pub heard : In (Heard (Message.PrePrepare proposal)) past
  pub cluster_is : proposal.signer.cluster ≡ cluster
  pub view_is : proposal.view ≡ view
  pub slot_is : proposal.slot ≡ slot
  pub digest_is : batch_digest proposal.batch ≡ digest

-- the member's Drvc of this target, round and count was heard
pub record PleaHeard (past : List Entry) (member : ReplicaId) (target round count : ℕ) : Type 0 where
  pub plea : Plea
  pub heard : In (Heard (Message.Drvc plea)) past
  pub signer : plea.signer ≡ member
  pub target_is : plea.target ≡ target
  pub round_is : plea.round ≡ round
  pub count_is : plea.count ≡ count

-- ---- the first new view

-- the message as a NewView of the cluster and view, if it is one
abbrev pub as_new_view : ℕ → ℕ → Message → Option NewView
as_new_view cluster view (Message.NewView x) = if nat_eq x.signer.cluster cluster && nat_eq x.view view then Some x else None
as_new_view cluster view m = None

abbrev pub or_else : {X : Type 0} → Option X → Option X → Option X
or_else None later = later
or_else (Some x) later = Some x

-- the first NewView of the cluster and view that was heard
abbrev pub first_new_view : ℕ → ℕ → List Entry → Option NewView
first_new_view cluster view [] = None
first_new_view cluster view (Heard m ∷ past) = or_else (first_new_view cluster view past) (as_new_view cluster view m)
first_new_view cluster view (Said m ∷ past) = first_new_view cluster view past
first_new_view cluster view (Did block ∷ past) = first_new_view cluster view past
