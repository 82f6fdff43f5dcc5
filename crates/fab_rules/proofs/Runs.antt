-- Runs of ledgers that begin with one another.
use Rattle.std.proofs.Common.{List, [], ◌∷◌, ◌++◌, inl, inr, subst}
use Rattle.fab_base.specs.Table.{State, state_after_all}
use Rattle.fab_rules.specs.declared.blocks.Block.{Block}
use Rattle.fab_rules.specs.Lists.{In, IsPrefixOf}
use Rattle.fab_rules.specs.Ledger.{RunBlock, run_from}

in_run-append : (state : State) (xs ys : List Block) (x : RunBlock) → In x (run_from state xs) → In x (run_from state (xs ++ ys))
in_run-append state [] ys x h = absurd h
in_run-append state (block ∷ xs) ys x (inl e) = inl e
in_run-append state (block ∷ xs) ys x (inr h) = inr (in_run-append (state_after_all state block.batch) xs ys x h)

-- what a ledger comes to, each that begins with it comes to
pub in_longer_run : (state : State) (xs ys : List Block) (x : RunBlock) → IsPrefixOf xs ys → In x (run_from state xs)
    → In x (run_from state ys)
in_longer_run state xs ys x p h = subst (λ l. In x (run_from state l)) p.1 (in_run-append state xs p.0 x h)
