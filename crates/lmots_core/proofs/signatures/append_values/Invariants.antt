use Rattle.std.proofs.Common.{◌≡◌, ◌+◌, ◌*◌, ◌≤◌, ◌++◌, vec_len, vec_capacity}
use Rattle.lmots_core.specs.Running.{value_in}
use Rattle.lmots_core.specs.Chains.{joined}
use Rattle.lmots_core.proofs.signatures.append_values.Given as goal

abbrev pub invariant-loop-i : goal.invariant-loop-i
invariant-loop-i l =
    (l.into.items ≡ l.fn.into.items ++ joined (value_in l.values) l.i)
    × (vec_len l.into ≡ vec_len l.fn.into + 32 * l.i)
    × (vec_capacity l.fn.into ≤ vec_capacity l.into)
