use Rattle.std.proofs.Common.{ℕ, List, ◌++◌}
use Rattle.sha2.specs.Hashers.{Holds256}
use Rattle.lmots_core.specs.Chains.{joined}
use Rattle.lmots_core.specs.Running.{value_in}
use Rattle.lmots_core.proofs.public_keys.feed_values.Given as goal

abbrev pub invariant-values : goal.invariant-values
invariant-values l = (front : List ℕ) → Holds256 l.fn.hasher front → Holds256 l.hasher (front ++ joined (value_in l.values) l.i)
