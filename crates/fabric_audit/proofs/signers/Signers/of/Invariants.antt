use Rattle.std.proofs.Common.{◌≤◌, length}
use Rattle.fabric_audit.proofs.Signed.{AreOfLast}
use Rattle.fabric_audit.proofs.signers.Signers.of.Given as goal

-- the sets are those of the correct ones of the last traces
abbrev pub invariant-loop-left : goal.invariant-loop-left
invariant-loop-left l = record {
  within : l.left ≤ length l.traces;
  last : AreOfLast l.traces l.left l.signers;
}

abbrev pub decreases-loop-left : goal.decreases-loop-left
decreases-loop-left l = l.left
