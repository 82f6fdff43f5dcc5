use Rattle.std.proofs.Common.{◌*◌}
use Rattle.lmots_core.specs.OneTime.{public_key}
use Rattle.lms_tree.specs.Tree.{HaveLeaves}
use Rattle.lms_tree.proofs.making.fill_leaves.Given as goal

abbrev pub invariant-fours : goal.invariant-fours
invariant-fours l = HaveLeaves l.seed.id l.leaves (public_key l.ots l.seed) l.nodes (4 * l.g)

abbrev pub invariant-rest : goal.invariant-rest
invariant-rest l = HaveLeaves l.seed.id l.leaves (public_key l.ots l.seed) l.nodes l.q
