use Rattle.std.proofs.Common.{◌≡◌}
use Rattle.lmots_core.specs.Digits.{lack_of}
use Rattle.lmots_core.proofs.digits.checksum.Given as goal

abbrev pub invariant-loop-i : goal.invariant-loop-i
invariant-loop-i l = l.sum ≡ lack_of l.kind l.digest l.i
