-- What the headline promises of a world: the correct replicas agree.
use Rattle.std.specs.Prelude.{◌≡◌, ℕ, ◌+◌, ◌/◌, ◌%◌, false, List, [], ◌∷◌, length, IsTrue}
use Rattle.fab_base.specs.Limits.{Roster}
use Rattle.fab_base.specs.Roster.{is_cluster}
use Rattle.fab_base.specs.declared.ids.ReplicaId.{ReplicaId}
use Rattle.fab_base.specs.declared.ids.Who.{Who}
use Rattle.fab_base.specs.declared.ids.Hash32.{Hash32}
use Rattle.fab_base.specs.declared.requests.Outcome.{Outcome}
use Rattle.fab_base.specs.declared.requests.Outcome.TheVariants.{Done, Again, Early}
use Rattle.fab_base.specs.declared.requests.Request.{Request}
use Rattle.fab_base.specs.declared.messages.NoteLine.{NoteLine}
use Rattle.fab_rules.specs.declared.blocks.Block.{Block}
use Rattle.fab_rules.specs.Lists.{In, IsPrefixOf}
use Rattle.fab_rules.specs.Digests.{batch_digest}
use Rattle.fab_rules.specs.Ledger.{RunBlock, run, lines_of, all_lines}
use Rattle.fab_rules.specs.Diary.{ledger}
use Rattle.world_laws.specs.World.{World, IsCorrect, common_ledger, IsRepeated}

-- in a fabric of so many clusters the blocks, from place k of the ledger on, are those of rounds from 1, in each round the clusters in
-- order
abbrev pub IsInOrder : (clusters k : ℕ) → List Block → Type 0
IsInOrder clusters k [] = Unit {0}
IsInOrder clusters k (block ∷ rest) =
    (block.round ≡ k / clusters + 1) × (block.cluster ≡ k % clusters + 1) × IsInOrder clusters (k + 1) rest

abbrev pub IsDone : Outcome → Type 0
IsDone (Done reply) = Unit {0}
IsDone Again = ⊥
IsDone Early = ⊥

-- none of these lines of the line's client and stamp is done
abbrev pub NoneDoneOf : NoteLine → List NoteLine → Type 0
NoneDoneOf line lines =
    (other : NoteLine) → In other lines → IsDone other.outcome → other.client ≡ line.client → other.stamp ≡ line.stamp → ⊥

-- no request is done twice: behind a line that is done, none of its client and stamp is
abbrev pub IsDoneOnce : List NoteLine → Type 0
IsDoneOnce [] = Unit {0}
IsDoneOnce (line ∷ rest) = (IsDone line.outcome → NoneDoneOf line rest) × IsDoneOnce rest

-- the ledger has the block of the cluster and round, this is its batch's digest, and these are its lines in the ledger's run
pub record IsReplyOf (r : Roster) (blocks : List Block) (cluster round : ℕ) (digest : Hash32) (lines : List NoteLine) : Type 0 where
  pub ran : RunBlock
  pub in_run : In ran (run r blocks)
  pub round_is : ran.block.round ≡ round
  pub cluster_is : ran.block.cluster ≡ cluster
  pub digest_is : digest ≡ batch_digest ran.block.batch
  pub lines_are : lines ≡ lines_of ran

-- the client of each request of the ledger, where it is correct, issued it
abbrev pub AllIssued : World → List Block → Type 0
AllIssued w blocks = (block : Block) → In block blocks → (x : Request) → In x block.batch → w.faulty (Who.Client x.client) ≡ false
    → In (record x { sig = [] }) (w.issued x.client)

-- G is the longest ledger of a correct replica
pub record IsSafe (w : World) : Type 0 where
  -- (a) the ledger of each correct replica begins G, and G has whole rounds from 1, in each the clusters in order
  pub prefixes : (i : ReplicaId) → IsCorrect w i → IsPrefixOf (ledger (w.diary i)) (common_ledger w)
  pub in_order : IsInOrder (length w.roster.sizes) 0 (common_ledger w)
  pub whole : length (common_ledger w) % length w.roster.sizes ≡ 0
  -- (b) the requests of G whose clients are correct were issued by them
  pub issued : AllIssued w (common_ledger w)
  -- (c) in the run of G no pair of client and stamp takes effect twice
  pub once : IsDoneOnce (all_lines (run w.roster (common_ledger w)))
  -- (d) what more members of a cluster than may be faulty repeat is what the run of G gives
  pub replied : (cluster round : ℕ) (digest : Hash32) (lines : List NoteLine) → IsTrue (is_cluster w.roster cluster)
      → IsRepeated w cluster round digest lines
      → IsReplyOf w.roster (common_ledger w) cluster round digest lines
