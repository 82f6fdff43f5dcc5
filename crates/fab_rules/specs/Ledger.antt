-- The ledger: its chain of digests (ours), and what its requests come to.
use Rattle.std.specs.Prelude.{List, [], ◌∷◌, ◌++◌, length, replicate}
use Rattle.std.specs.Int.{w64, to_be_bytes}
use Rattle.sha2.specs.Sha256.{sha256}
use Rattle.fab_base.specs.Limits.{Roster}
use Rattle.fab_base.specs.Table.{State, empty_state, outcomes_of, state_after_all}
use Rattle.fab_base.specs.declared.ids.Hash32.{Hash32}
use Rattle.fab_base.specs.declared.requests.Outcome.{Outcome}
use Rattle.fab_base.specs.declared.requests.Request.{Request}
use Rattle.fab_base.specs.declared.messages.NoteLine.{NoteLine}
use Rattle.fab_rules.specs.declared.blocks.Block.{Block}
use Rattle.fab_rules.specs.Digests.{batch_digest}

-- ---- the chain

-- the chain of the empty ledger: 32 zero bytes
unfoldable pub chain_start : Hash32
chain_start = record { bytes = replicate 32 0 }

-- the chain after one block more: the digest of the chain before it, the round, the cluster and the digest of the batch
unfoldable pub linked : Hash32 → Block → Hash32
linked chain block =
    record { bytes = sha256 (chain.bytes ++ to_be_bytes w64 block.round ++ block.cluster ∷ (batch_digest block.batch).bytes) }

-- the chain after some blocks more
abbrev pub chain_from : Hash32 → List Block → Hash32
chain_from chain [] = chain
chain_from chain (block ∷ rest) = chain_from (linked chain block) rest

-- the chain of a ledger
abbrev pub chain_of : List Block → Hash32
chain_of blocks = chain_from chain_start blocks

-- ---- a run

-- a block with the outcomes of its requests
pub record RunBlock : Type 0 where
  pub block : Block
  pub outcomes : List Outcome

-- the blocks of a ledger, applied one after another to the sequential table
abbrev pub run_from : State → List Block → List RunBlock
run_from state [] = []
run_from state (block ∷ rest) =
    record { block = block; outcomes = outcomes_of state block.batch } ∷ run_from (state_after_all state block.batch) rest

-- what these blocks leave
abbrev pub state_after_blocks : State → List Block → State
state_after_blocks state [] = state
state_after_blocks state (block ∷ rest) = state_after_blocks (state_after_all state block.batch) rest

-- the state in which nothing was applied
abbrev pub start_of : Roster → State
start_of r = empty_state (length r.homes)

-- the run of a ledger: from the empty table, with all stamps 0
abbrev pub run : Roster → List Block → List RunBlock
run r blocks = run_from (start_of r) blocks

-- for each request its client, its stamp and its outcome
abbrev pub lines_with : List Request → List Outcome → List NoteLine
lines_with [] outcomes = []
lines_with (request ∷ rest) [] = []
lines_with (request ∷ rest) (outcome ∷ outcomes) =
    record { client = request.client; stamp = request.stamp; outcome = outcome } ∷ lines_with rest outcomes

abbrev pub lines_of : RunBlock → List NoteLine
lines_of x = lines_with x.block.batch x.outcomes

-- the lines of a run, in order
abbrev pub all_lines : List RunBlock → List NoteLine
all_lines [] = []
all_lines (x ∷ rest) = lines_of x ++ all_lines rest
