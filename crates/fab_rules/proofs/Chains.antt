-- A ledger that has grown: its chain, the state that it leaves, and its run.
use Rattle.std.proofs.Common.{◌≡◌, ℕ, zero, suc, ◌+◌, List, [], ◌∷◌, ◌++◌, length, Some, refl, ap, ◌∙◌, arith}
use Rattle.std.specs.List.{slice_get}
use Rattle.fab_base.specs.Limits.{Roster}
use Rattle.fab_base.specs.Table.{State, outcomes_of, state_after_all}
use Rattle.fab_base.specs.declared.ids.Hash32.{Hash32}
use Rattle.fab_rules.specs.declared.blocks.Block.{Block}
use Rattle.fab_rules.specs.Ledger.{chain_start, linked, chain_from, chain_of, RunBlock, run_from, state_after_blocks, start_of, run}

-- ---- the chain

pub chain_from-append : (chain : Hash32) (xs ys : List Block) → chain_from chain (xs ++ ys) ≡ chain_from (chain_from chain xs) ys
chain_from-append chain [] ys = refl
chain_from-append chain (x ∷ xs) ys = chain_from-append (linked chain x) xs ys

-- one block more
pub chain_of-more : (blocks : List Block) (block : Block) → chain_of (blocks ++ block ∷ []) ≡ linked (chain_of blocks) block
chain_of-more blocks block = chain_from-append chain_start blocks (block ∷ [])

-- ---- the state that is left

pub state_after_blocks-append : (state : State) (xs ys : List Block)
    → state_after_blocks state (xs ++ ys) ≡ state_after_blocks (state_after_blocks state xs) ys
state_after_blocks-append state [] ys = refl
state_after_blocks-append state (x ∷ xs) ys = state_after_blocks-append (state_after_all state x.batch) xs ys

-- one block more
pub state_after_blocks-more : (state : State) (blocks : List Block) (block : Block)
    → state_after_blocks state (blocks ++ block ∷ []) ≡ state_after_all (state_after_blocks state blocks) block.batch
state_after_blocks-more state blocks block = state_after_blocks-append state blocks (block ∷ [])

-- ---- the run

pub run_from-append : (state : State) (xs ys : List Block)
    → run_from state (xs ++ ys) ≡ run_from state xs ++ run_from (state_after_blocks state xs) ys
run_from-append state [] ys = refl
run_from-append state (x ∷ xs) ys =
    ap (λ rest. record { block = x; outcomes = outcomes_of state x.batch } ∷ rest) (run_from-append (state_after_all state x.batch) xs ys)

-- a block that comes after a state, with its outcomes
abbrev pub run_after : State → Block → RunBlock
run_after state block = record { block = block; outcomes = outcomes_of state block.batch }

-- one block more
pub run-more : (r : Roster) (blocks : List Block) (block : Block)
    → run r (blocks ++ block ∷ []) ≡ run r blocks ++ run_after (state_after_blocks (start_of r) blocks) block ∷ []
run-more r blocks block = run_from-append (start_of r) blocks (block ∷ [])

pub length-run_from : (state : State) (blocks : List Block) → length (run_from state blocks) ≡ length blocks
length-run_from state [] = refl
length-run_from state (x ∷ rest) = ap suc (length-run_from (state_after_all state x.batch) rest)

-- ---- place by place

-- the run stands at the place of its block
pub run_at : (state : State) (blocks : List Block) (i : ℕ) (ran : RunBlock) → slice_get (run_from state blocks) i ≡ Some ran
    → slice_get blocks i ≡ Some ran.block
run_at state [] i ran h = cc
run_at state (b ∷ rest) zero ran h = ap (λ x. Some x.block) (same_run _ ran h)
  where
    same_run : (x y : RunBlock) → Some x ≡ Some y → x ≡ y
    same_run x y e = cc
run_at state (b ∷ rest) (suc i) ran h = run_at (state_after_all state b.batch) rest i ran h

-- each block has its run
pub run_there : (state : State) (blocks : List Block) (i : ℕ) (b : Block) → slice_get blocks i ≡ Some b
    → (ran : RunBlock) × (slice_get (run_from state blocks) i ≡ Some ran)
run_there state [] i b h = cc
run_there state (x ∷ rest) zero b h = (run_after state x, refl)
run_there state (x ∷ rest) (suc i) b h = run_there (state_after_all state x.batch) rest i b h

-- the run of what comes after a ledger, at its place in the run of the whole
pub run_behind : (state : State) (xs ys : List Block) (i : ℕ)
    → slice_get (run_from state (xs ++ ys)) (length xs + i) ≡ slice_get (run_from (state_after_blocks state xs) ys) i
run_behind state [] ys i = ap (slice_get (run_from state ys)) (let e : 0 + i ≡ i = omega arith in e)
run_behind state (x ∷ xs) ys i =
    ap (slice_get (run_from state (x ∷ (xs ++ ys)))) (let e : suc (length xs) + i ≡ suc (length xs + i) = omega arith in e)
    ∙ run_behind (state_after_all state x.batch) xs ys i
