use Rattle.std.proofs.Common.{◌≡◌, ◌+◌, ◌*◌, ◌≤◌, ◌++◌, vec_len, vec_capacity}
use Rattle.lmots_core.specs.Chains.{joined}
use Rattle.lms_tree.specs.Paths.{nodes_beside}
use Rattle.lms_tree.proofs.paths.write_path.Given as goal

abbrev pub invariant-loop-i : goal.invariant-loop-i
invariant-loop-i l =
    (l.into.items ≡ l.initial.into.items ++ joined (nodes_beside l.nodes l.r) l.i)
    × (vec_len l.into ≡ vec_len l.initial.into + 32 * l.i)
    × (vec_capacity l.initial.into ≤ vec_capacity l.into)
