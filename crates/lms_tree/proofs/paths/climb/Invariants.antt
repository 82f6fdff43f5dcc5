use Rattle.std.proofs.Common.{◌≡◌}
use Rattle.lms_tree.specs.Verdict.{climbed}
use Rattle.lms_tree.specs.Paths.{path_read}
use Rattle.lms_tree.proofs.paths.climb.Given as goal

abbrev pub invariant-loop-i : goal.invariant-loop-i
invariant-loop-i l = l.value ≡ climbed l.id (path_read l.bytes) l.r l.initial.value l.i
