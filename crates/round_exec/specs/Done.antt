-- What was executed, and how it is stored beside the ledger: the outcomes of each block, the chain after each round, and the table.
use Rattle.std.specs.Prelude.{◌≡◌, ℕ, ◌++◌, ◌+◌, ◌-◌, ◌*◌, ◌<◌, ◌≤◌, List, [], length, map, take, slice_get, IsTrue, All, if◌then◌else◌, Option, Some, None}
use Rattle.fab_base.specs.Table.{State, empty_state}
use Rattle.fab_base.specs.declared.ids.Hash32.{Hash32}
use Rattle.fab_base.specs.declared.requests.Outcome.{Outcome}
use Rattle.fab_rules.specs.declared.blocks.Block.{Block}
use Rattle.fab_rules.specs.Format.{batch_fits}
use Rattle.fab_rules.specs.Ledger.{chain_of, run_from, state_after_blocks}
use Rattle.fab_machine.specs.State.{Rounds}
use Rattle.fab_machine.specs.Rounds.{has_block, place_of}
use Rattle.seq_table.specs.Holding.{Holding, state_of}
use Rattle.seq_table.specs.Batches.{values_written, HoldsFor}
use Rattle.round_exec.specs.Book.{are_clients}

pub record Done : Type 0 where
  pub clusters : ℕ
  pub clients : ℕ
  pub executed : ℕ
  pub blocks : List Block

-- a round more
abbrev pub with_blocks : Done → List Block → Done
with_blocks d more = record { clusters = d.clusters; clients = d.clients; executed = d.executed + 1; blocks = d.blocks ++ more }

-- the rounds that it is of
abbrev pub rounds_of : Done → Rounds
rounds_of d = record { executed = d.executed; certificates = []; blocks = d.blocks }

-- the place of a block in the ledger
abbrev pub place_at : Done → ℕ → ℕ → Option ℕ
place_at d round cluster = if has_block d.clusters (rounds_of d) round cluster then Some (place_of d.clusters round cluster) else None

-- what the blocks come to, one after another
abbrev pub outcomes_in : State → List Block → List (List Outcome)
outcomes_in state blocks = map (λ ran. ran.outcomes) (run_from state blocks)

-- the chain before the first round, after it, and so on
abbrev pub AreChains : ℕ → List Block → List Hash32 → Type 0
AreChains clusters blocks chains = (i : ℕ) → i < length chains → slice_get chains i ≡ Some (chain_of (take (i * clusters) blocks))

-- each block's batch fits, and is of so many clients
abbrev pub AreSound : ℕ → List Block → Type 0
AreSound clients blocks = All (λ b. IsTrue (batch_fits b.batch) × IsTrue (are_clients clients b.batch)) blocks

-- how all of it is stored
pub record IsStored (clusters clients : ℕ) (blocks : List Block) (outcomes : List (List Outcome)) (chains : List Hash32) (table : Holding) : Type 0 where
  pub begun : 1 ≤ length chains
  pub whole : length blocks ≡ (length chains - 1) * clusters
  pub outcomes_are : outcomes ≡ outcomes_in (empty_state clients) blocks
  pub chains_are : AreChains clusters blocks chains
  pub state_is : state_of table ≡ state_after_blocks (empty_state clients) blocks
  pub clients_are : length table.stamps ≡ clients
  pub sound : AreSound clients blocks

-- the keys that the blocks may write are among these
abbrev pub AreHeld : List (List ℕ) → List Block → Type 0
AreHeld keys blocks = All (λ b. All (λ r. HoldsFor keys r.op) b.batch) blocks

-- what the blocks may write
abbrev pub rooms_for : List Block → List (List (Option (List ℕ)))
rooms_for blocks = map (λ b. values_written b.batch) blocks

-- so many sound blocks
abbrev pub AreWhole : ℕ → ℕ → List Block → Type 0
AreWhole count clients blocks = (length blocks ≡ count) × AreSound clients blocks
