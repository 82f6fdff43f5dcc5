-- what is left leads to the same chain
use Rattle.std.proofs.Common.{◌≡◌, drop}
use Rattle.fab_rules.specs.Ledger.{chain_from}
use Rattle.round_exec.proofs.applying.chain_after.Given as goal

abbrev pub invariant-loop-block : goal.invariant-loop-block
invariant-loop-block l = chain_from l.chain (drop l.block-index l.blocks) ≡ chain_from l.fn.chain l.blocks
