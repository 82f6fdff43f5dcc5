-- what is kept is what the source gave
use Rattle.std.proofs.Common.{◌-◌, length}
use Rattle.fabric_run.specs.declared.transfer.TheConstants.{SCRIPT_BYTES}
use Rattle.fabric_run.proofs.Transfers.{ReadSoFar}
use Rattle.fabric_run.proofs.transfer.read_all.Given as goal

abbrev pub invariant-loop-bytes : goal.invariant-loop-bytes
invariant-loop-bytes g l = ReadSoFar (g.S.Source.supply l.initial.source) (g.S.Source.supply l.source) l.bytes.items

abbrev pub decreases-loop-bytes : goal.decreases-loop-bytes
decreases-loop-bytes g l = SCRIPT_BYTES - length l.bytes.items
