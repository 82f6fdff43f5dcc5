-- The rules of an honest replica. Each is about one diary: `past` has the entries before the one that the rule is asked of, and `i` is
-- the replica whose diary it is. PBFT is Castro and Liskov's protocol, GeoBFT the one of Gupta and others that joins its clusters.
-- There are eleven: ten on what is said, which are the fields of `MaySay` below, and `WholeRounds` on what is done.
use Rattle.std.specs.Prelude.{◌≡◌, ℕ, ◌+◌, ◌*◌, ◌/◌, ◌%◌, ◌<◌, ◌≤◌, ◌⊎◌, List, [], ◌∷◌, length, take, Some, IsTrue}
use Rattle.fab_base.specs.Limits.{Roster}
use Rattle.fab_base.specs.Quorums.{IsQuorum}
use Rattle.fab_base.specs.Roster.{size_of}
use Rattle.fab_base.specs.declared.ids.ReplicaId.{ReplicaId}
use Rattle.fab_base.specs.declared.ids.Hash32.{Hash32}
use Rattle.fab_base.specs.declared.messages.Vote.{Vote}
use Rattle.fab_base.specs.declared.messages.PrePrepare.{PrePrepare}
use Rattle.fab_base.specs.declared.messages.PreparedCert.{PreparedCert}
use Rattle.fab_base.specs.declared.messages.StableVote.{StableVote}
use Rattle.fab_base.specs.declared.messages.ViewChange.{ViewChange}
use Rattle.fab_base.specs.declared.messages.NewView.{NewView}
use Rattle.fab_base.specs.declared.messages.Note.{Note}
use Rattle.fab_base.specs.declared.messages.Message.{Message}
use Rattle.fab_rules.specs.declared.blocks.Block.{Block}
use Rattle.fab_rules.specs.Lists.{In}
use Rattle.fab_rules.specs.Digests.{batch_digest}
use Rattle.fab_rules.specs.Choice.{base, top, chosen}
use Rattle.fab_rules.specs.Shape.{IsShaped, is_primary}
use Rattle.fab_rules.specs.Ledger.{chain_of, RunBlock, run, lines_of}
use Rattle.fab_rules.specs.Diary.{Entry, Heard, Said, Did, ledger, PrepareHeard, CommitHeard, BatchHeard, QuorumHeard, ProposalHeard, PleaHeard, first_new_view}

-- ---- one vote (PBFT, section 4.2)

-- at most one PrePrepare, one Prepare and one Commit is said per view and slot
abbrev pub OneVote : List Entry → Message → Type 0
OneVote past (Message.PrePrepare x) =
    (other : PrePrepare) → In (Said (Message.PrePrepare other)) past → other.view ≡ x.view → other.slot ≡ x.slot → ⊥
OneVote past (Message.Prepare x) =
    (other : Vote) → In (Said (Message.Prepare other)) past → other.view ≡ x.view → other.slot ≡ x.slot → ⊥
OneVote past (Message.Commit x) =
    (other : Vote) → In (Said (Message.Commit other)) past → other.view ≡ x.view → other.slot ≡ x.slot → ⊥
OneVote past m = Unit {0}

-- ---- what may be prepared (PBFT, sections 4.2 and 4.4)

-- in a view above 0: the first NewView of the view that was heard opens the slot for this digest. Up to its top it is that of the chosen
-- batch, and beyond that one which the primary proposed
pub record IsOpenedFor (past : List Entry) (cluster view slot : ℕ) (digest : Hash32) : Type 0 where
  pub new_view : NewView
  pub is_first : first_new_view cluster view past ≡ Some new_view
  pub above_base : base new_view < slot
  pub as_chosen : slot ≤ top new_view → digest ≡ batch_digest (chosen new_view slot)
  pub as_proposed : top new_view < slot → ProposalHeard past cluster view slot digest

pub record MayPrepare (i : ReplicaId) (past : List Entry) (x : Vote) : Type 0 where
  pub in_view_zero : x.view ≡ 0 → ProposalHeard past i.cluster 0 x.slot x.digest
  pub in_later_views : 1 ≤ x.view → IsOpenedFor past i.cluster x.view x.slot x.digest

abbrev pub PrepareRule : ReplicaId → List Entry → Message → Type 0
PrepareRule i past (Message.Prepare x) = MayPrepare i past x
PrepareRule i past m = Unit {0}

-- ---- what may be committed (PBFT, section 4.2)

-- a Commit is said only after a quorum's Prepares of its view, slot and digest were heard
abbrev pub CommitRule : Roster → ReplicaId → List Entry → Message → Type 0
CommitRule r i past (Message.Commit x) = QuorumHeard r (PrepareHeard past) i.cluster x.view x.slot x.digest
CommitRule r i past m = Unit {0}

-- ---- views rise (PBFT, section 4.4)

-- no ViewChange for a view beyond this one was said
abbrev pub HasNotLeft : List Entry → ℕ → Type 0
HasNotLeft past view = (c : ViewChange) → In (Said (Message.ViewChange c)) past → c.view ≤ view

-- the views of the ViewChanges rise strictly, and nothing is said in a view that was left
abbrev pub ViewsRise : List Entry → Message → Type 0
ViewsRise past (Message.ViewChange x) = (c : ViewChange) → In (Said (Message.ViewChange c)) past → c.view < x.view
ViewsRise past (Message.PrePrepare x) = HasNotLeft past x.view
ViewsRise past (Message.Prepare x) = HasNotLeft past x.view
ViewsRise past (Message.Commit x) = HasNotLeft past x.view
ViewsRise past m = Unit {0}

-- ---- what a view change reports (PBFT, section 4.4: the set P)

-- it covers a Commit: by its low mark, or by a certificate of the slot whose view is no older
abbrev pub Covers : ViewChange → Vote → Type 0
Covers c v = (v.slot ≤ c.low) ⊎ ((k : PreparedCert) × In k c.prepared × (k.slot ≡ v.slot) × (v.view ≤ k.view))

-- a ViewChange covers each own Commit that was said before
abbrev pub ChangeReports : List Entry → Message → Type 0
ChangeReports past (Message.ViewChange x) = (v : Vote) → In (Said (Message.Commit v)) past → Covers x v
ChangeReports past m = Unit {0}

-- ---- who proposes, and who begins a view (PBFT, sections 4.2 and 4.4)

pub record MayBegin (r : Roster) (i : ReplicaId) (past : List Entry) (x : NewView) : Type 0 where
  pub primary : IsTrue (is_primary r i.cluster x.view i.index)
  pub heard : (c : ViewChange) → In c x.changes → In (Heard (Message.ViewChange c)) past

-- PrePrepare and NewView are said by the primary of their view alone, and the changes of a NewView were heard
abbrev pub PrimaryOnly : Roster → ReplicaId → List Entry → Message → Type 0
PrimaryOnly r i past (Message.PrePrepare x) = IsTrue (is_primary r i.cluster x.view i.index)
PrimaryOnly r i past (Message.NewView x) = MayBegin r i past x
PrimaryOnly r i past m = Unit {0}

-- ---- when a block is done (GeoBFT: rounds are executed whole, in the order of the clusters)

-- the block is the next one. Its cluster's Commits for one view, its round and its batch were heard from a quorum, and the batch, unless
-- it is the null batch, in some message
pub record WholeRounds (r : Roster) (past : List Entry) (block : Block) : Type 0 where
  pub round_is : block.round ≡ length (ledger past) / length r.sizes + 1
  pub cluster_is : block.cluster ≡ length (ledger past) % length r.sizes + 1
  pub view : ℕ
  pub committed : QuorumHeard r (CommitHeard past) block.cluster view block.round (batch_digest block.batch)
  pub batch_heard : (block.batch ≡ []) ⊎ BatchHeard past block.batch

-- ---- checkpoints (PBFT, section 4.3)

-- one for a round, each so many rounds, after the round was done: the chain of the replica's own ledger up to the round
pub record MayMark (r : Roster) (past : List Entry) (x : StableVote) : Type 0 where
  pub once : (other : StableVote) → In (Said (Message.Checkpoint other)) past → other.round ≡ x.round → ⊥
  pub due : x.round % r.interval ≡ 0
  pub done : x.round * length r.sizes ≤ length (ledger past)
  pub chain_is : x.digest ≡ chain_of (take (x.round * length r.sizes) (ledger past))

abbrev pub CheckpointRule : Roster → List Entry → Message → Type 0
CheckpointRule r past (Message.Checkpoint x) = MayMark r past x
CheckpointRule r past m = Unit {0}

-- ---- replies (PBFT, section 4.1; in GeoBFT a cluster answers its own clients)

-- one for a round, after the round was done: what the block of the replica's cluster came to, in the run of its own ledger
pub record MayNote (r : Roster) (i : ReplicaId) (past : List Entry) (x : Note) : Type 0 where
  pub once : (other : Note) → In (Said (Message.ReplyNote other)) past → other.round ≡ x.round → ⊥
  pub done : x.round * length r.sizes ≤ length (ledger past)
  pub ran : RunBlock
  pub in_run : In ran (run r (ledger past))
  pub round_is : ran.block.round ≡ x.round
  pub cluster_is : ran.block.cluster ≡ i.cluster
  pub digest_is : x.digest ≡ batch_digest ran.block.batch
  pub lines_are : x.lines ≡ lines_of ran

abbrev pub NoteRule : Roster → ReplicaId → List Entry → Message → Type 0
NoteRule r i past (Message.ReplyNote x) = MayNote r i past x
NoteRule r i past m = Unit {0}

-- ---- remote view changes (GeoBFT)

-- a quorum of the cluster's members found the same certificate missing
pub record MayPlead (r : Roster) (past : List Entry) (cluster target round count : ℕ) : Type 0 where
  pub members : List ℕ
  pub quorum : IsQuorum (size_of r cluster) members
  pub each : (k : ℕ) → In k members → PleaHeard past (record { cluster = cluster; index = k }) target round count

-- an Rvc is said only after a quorum's Drvcs of its target, round and count were heard
abbrev pub RemoteQuorum : Roster → ReplicaId → List Entry → Message → Type 0
RemoteQuorum r i past (Message.Rvc x) = MayPlead r past i.cluster x.target x.round x.count
RemoteQuorum r i past m = Unit {0}

-- ---- an honest diary

-- the rules of what is said
pub record MaySay (r : Roster) (i : ReplicaId) (past : List Entry) (m : Message) : Type 0 where
  pub one_vote : OneVote past m
  pub prepare_rule : PrepareRule i past m
  pub commit_rule : CommitRule r i past m
  pub views_rise : ViewsRise past m
  pub change_reports : ChangeReports past m
  pub primary_only : PrimaryOnly r i past m
  pub checkpoint_rule : CheckpointRule r past m
  pub note_rule : NoteRule r i past m
  pub remote_quorum : RemoteQuorum r i past m
  -- what is said, taken as a message, is shaped (ours)
  pub shaped_speech : IsShaped r m

-- what an entry asks of those before it. Whatever is heard may be heard
abbrev pub May : Roster → ReplicaId → List Entry → Entry → Type 0
May r i past (Heard m) = Unit {0}
May r i past (Said m) = MaySay r i past m
May r i past (Did block) = WholeRounds r past block

-- each entry keeps the rules after those before it
abbrev pub KeepsRules : Roster → ReplicaId → List Entry → Type 0
KeepsRules r i [] = Unit {0}
KeepsRules r i (entry ∷ past) = May r i past entry × KeepsRules r i past

-- the diary of an honest replica. Its rounds are whole: none is left in the middle
pub record IsHonest (r : Roster) (i : ReplicaId) (diary : List Entry) : Type 0 where
  pub rules : KeepsRules r i diary
  pub whole : length (ledger diary) % length r.sizes ≡ 0
