-- A world: who takes part, who is faulty, what clients issued, and the diaries. And the premises of the laws about it.
use Rattle.std.specs.Prelude.{◌≡◌, ℕ, ◌+◌, ◌≤◌, ◌⊎◌, Bool, false, not, List, [], ◌∷◌, length, map, nat_lt, Option, Some, IsTrue, if◌then◌else◌}
use Rattle.std.specs.List.{filter, flat_map, range_with_len}
use Rattle.fab_base.specs.Limits.{Roster}
use Rattle.fab_base.specs.Quorums.{greatest_faulty, count_members, AreMembers, IsQuorum}
use Rattle.fab_base.specs.Roster.{is_cluster, is_replica, size_of}
use Rattle.fab_base.specs.declared.ids.ReplicaId.{ReplicaId}
use Rattle.fab_base.specs.declared.ids.ClientId.{ClientId}
use Rattle.fab_base.specs.declared.ids.Who.{Who}
use Rattle.fab_base.specs.declared.ids.Hash32.{Hash32}
use Rattle.fab_base.specs.declared.requests.Request.{Request}
use Rattle.fab_base.specs.declared.messages.Vote.{Vote}
use Rattle.fab_base.specs.declared.messages.NoteLine.{NoteLine}
use Rattle.fab_base.specs.declared.messages.Note.{Note}
use Rattle.fab_base.specs.declared.messages.Message.{Message}
use Rattle.fab_rules.specs.declared.blocks.Block.{Block}
use Rattle.fab_rules.specs.Lists.{In}
use Rattle.fab_rules.specs.Digests.{batch_digest}
use Rattle.fab_rules.specs.Spelling.{content_of}
use Rattle.fab_rules.specs.Format.{fields_fit}
use Rattle.fab_rules.specs.Statements.{parts_of, statements_of, signer_of, unsigned, batches_of}
use Rattle.fab_rules.specs.Quoted.{IsVoteFor}
use Rattle.fab_rules.specs.Diary.{Entry, Heard, Said, ledger, CommitHeard, QuorumHeard}
use Rattle.fab_rules.specs.Rules.{IsHonest}
use Rattle.bft_verify.specs.Ring.{Ring}
use Rattle.bft_verify.specs.Sound.{IsSound, IsSignedBy}

pub record World : Type 0 where
  pub roster : Roster
  -- the public keys of all who sign
  pub ring : Ring
  pub faulty : Who → Bool
  -- the requests that a client issued, without their signatures
  pub issued : ClientId → List Request
  -- the diary of each replica. Only those of correct replicas count
  pub diary : ReplicaId → List Entry

-- a member of a cluster by its index
abbrev pub member_of : ℕ → ℕ → ReplicaId
member_of cluster index = record { cluster = cluster; index = index }

-- a replica of the world that isn't faulty
pub record IsCorrect (w : World) (i : ReplicaId) : Type 0 where
  pub takes_part : IsTrue (is_replica w.roster i)
  pub not_faulty : w.faulty (Who.Replica i) ≡ false

-- each cluster has a member, and what correct replicas heard is sound: well formed for the members, and each statement in it is validly
-- signed under its signer's key
pub record IsWorld (w : World) : Type 0 where
  pub peopled : (c : ℕ) → IsTrue (is_cluster w.roster c) → 1 ≤ size_of w.roster c
  pub sound : (i : ReplicaId) → IsCorrect w i → (m : Message) → In (Heard m) (w.diary i) → IsSound w.roster w.ring m

-- the correct replicas are honest
abbrev pub AllHonest : World → Type 0
AllHonest w = (i : ReplicaId) → IsCorrect w i → IsHonest w.roster i (w.diary i)

-- ---- premises

abbrev pub is_faulty : World → ℕ → ℕ → Bool
is_faulty w cluster index = w.faulty (Who.Replica (member_of cluster index))

-- each cluster has no more faulty members than it bears (PBFT)
abbrev pub FewFaulty : World → Type 0
FewFaulty w = (c : ℕ) → IsTrue (is_cluster w.roster c)
    → count_members (size_of w.roster c) (is_faulty w c) ≤ greatest_faulty (size_of w.roster c)

-- where the signer is a correct client, it issued the request; where it is a correct replica, it said the statement
abbrev pub IsMade : World → Message → Type 0
IsMade w (Message.Request x) = w.faulty (Who.Client x.client) ≡ false → In (record x { sig = [] }) (w.issued x.client)
IsMade w m = IsSaid (signer_of m)
  where
    IsSaid : Option Who → Type 0
    IsSaid (Some (Who.Replica i)) = IsCorrect w i → In (Said (unsigned m)) (w.diary i)
    IsSaid other = Unit {0}

-- a signer that isn't faulty; of replicas, one that takes part
abbrev pub IsCorrectSigner : World → Who → Type 0
IsCorrectSigner w (Who.Replica i) = IsCorrect w i
IsCorrectSigner w (Who.Client c) = w.faulty (Who.Client c) ≡ false

-- the content is that of a statement of the format that the signer made
pub record IsOfMade (w : World) (who : Who) (content : List ℕ) : Type 0 where
  pub statement : Message
  pub fields : IsTrue (fields_fit statement)
  pub names : signer_of statement ≡ Some who
  pub made : IsMade w statement
  pub content_is : content ≡ content_of statement

-- nothing is forged: where a part of what a correct replica heard bears a signature that is valid under a correct signer's key, that
-- signer made its content
abbrev pub Unforged : World → Type 0
Unforged w = (i : ReplicaId) → IsCorrect w i → (m : Message) → In (Heard m) (w.diary i)
    → (part : Message) → In part (parts_of m) → (who : Who) → signer_of part ≡ Some who → IsCorrectSigner w who → IsSignedBy w.ring who part
    → IsOfMade w who (content_of part)

-- no statement that a correct replica heard bears the name of a correct signer who didn't make it
abbrev pub AllMade : World → Type 0
AllMade w = (i : ReplicaId) → IsCorrect w i → (m : Message) → In (Heard m) (w.diary i)
    → (statement : Message) → In statement (statements_of m) → IsMade w statement

-- a batch that stands in a message which a correct replica heard
pub record IsKnown (w : World) (batch : List Request) : Type 0 where
  pub hearer : ReplicaId
  pub correct : IsCorrect w hearer
  pub message : Message
  pub heard : In (Heard message) (w.diary hearer)
  pub inside : In batch (batches_of message)

-- two batches that were heard or are the null batch, and that share a digest, are one
abbrev pub NoClash : World → Type 0
NoClash w = (a b : List Request) → (a ≡ []) ⊎ IsKnown w a → (b ≡ []) ⊎ IsKnown w b → batch_digest a ≡ batch_digest b → a ≡ b

-- ---- what quorums say

-- the replica said such a vote
pub record VoteSaid (kind : Vote → Message) (w : World) (i : ReplicaId) (view slot : ℕ) (digest : Hash32) : Type 0 where
  pub vote : Vote
  pub said : In (Said (kind vote)) (w.diary i)
  pub votes_for : IsVoteFor view slot digest vote

-- a quorum of a cluster, whose correct members said such a vote
pub record QuorumSaid (kind : Vote → Message) (w : World) (cluster view slot : ℕ) (digest : Hash32) : Type 0 where
  pub members : List ℕ
  pub quorum : IsQuorum (size_of w.roster cluster) members
  pub each : (k : ℕ) → In k members → IsCorrect w (member_of cluster k) → VoteSaid kind w (member_of cluster k) view slot digest

-- two quorums that prepared in one view and slot of a cluster prepared one digest
abbrev pub OnePrepared : World → Type 0
OnePrepared w = (c : ℕ) → IsTrue (is_cluster w.roster c) → (view slot : ℕ) (d e : Hash32)
    → QuorumSaid Message.Prepare w c view slot d → QuorumSaid Message.Prepare w c view slot e → d ≡ e

-- two quorums that committed in one slot of a cluster, in whatever views, committed one digest
abbrev pub OneCommitted : World → Type 0
OneCommitted w = (c : ℕ) → IsTrue (is_cluster w.roster c) → (u v slot : ℕ) (d e : Hash32)
    → QuorumSaid Message.Commit w c u slot d → QuorumSaid Message.Commit w c v slot e → d ≡ e

-- the same of two quorums whose Commits correct replicas heard: two commit certificates of a cluster and round have one digest
abbrev pub OneCertificate : World → Type 0
OneCertificate w = (c : ℕ) → IsTrue (is_cluster w.roster c) → (i j : ReplicaId) → IsCorrect w i → IsCorrect w j
    → (u v slot : ℕ) (d e : Hash32)
    → QuorumHeard w.roster (CommitHeard (w.diary i)) c u slot d → QuorumHeard w.roster (CommitHeard (w.diary j)) c v slot e → d ≡ e

-- no correct replica committed beyond view 0
abbrev pub InViewZero : World → Type 0
InViewZero w = (i : ReplicaId) → IsCorrect w i → (x : Vote) → In (Said (Message.Commit x)) (w.diary i) → x.view ≡ 0

-- ---- the common ledger, and replies

-- the replicas of a roster by id: by cluster, and in a cluster by index
abbrev pub replicas_of : Roster → List ReplicaId
replicas_of r = flat_map (λ c. map (member_of c) (range_with_len 0 (size_of r c))) (range_with_len 1 (length r.sizes))

-- the first of the longest lists, or the empty list where there is none
abbrev pub longest : {X : Type 0} → List (List X) → List X
longest [] = []
longest (xs ∷ rest) = if nat_lt (length xs) (length (longest rest)) then longest rest else xs

-- the longest ledger of a correct replica, the first such by id
abbrev pub common_ledger : World → List Block
common_ledger w = longest (map (λ i. ledger (w.diary i)) (filter (λ i. not (w.faulty (Who.Replica i))) (replicas_of w.roster)))

-- the replica said such a note
pub record NoteSaid (w : World) (i : ReplicaId) (round : ℕ) (digest : Hash32) (lines : List NoteLine) : Type 0 where
  pub note : Note
  pub said : In (Said (Message.ReplyNote note)) (w.diary i)
  pub round_is : note.round ≡ round
  pub digest_is : note.digest ≡ digest
  pub lines_are : note.lines ≡ lines

-- more distinct members of the cluster than may be faulty, of whom each correct one said this note (PBFT, section 4.1: the client
-- waits for f + 1 equal replies)
pub record IsRepeated (w : World) (cluster round : ℕ) (digest : Hash32) (lines : List NoteLine) : Type 0 where
  pub members : List ℕ
  pub enough : AreMembers (size_of w.roster cluster) (greatest_faulty (size_of w.roster cluster) + 1) members
  pub each : (k : ℕ) → In k members → IsCorrect w (member_of cluster k) → NoteSaid w (member_of cluster k) round digest lines
