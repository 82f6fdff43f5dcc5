use Rattle.std.proofs.Common.{◌≡◌, ◌<◌, ◌*◌, ℕ, length}
use Rattle.lmots_core.specs.Chains.{chain_start}
use Rattle.lmots_core.specs.Running.{value_in}
use Rattle.lmots_core.proofs.chains.starts.Given as goal

abbrev pub invariant-starts : goal.invariant-starts
invariant-starts l =
    (length l.values ≡ length l.fn.values) × ((k : ℕ) → k < 4 * l.g → k < length l.fn.values → value_in l.values k ≡ chain_start l.seed l.q k)
