-- a front part of the text was taken
use Rattle.std.proofs.Common.{◌-◌, length}
use Rattle.fabric_run.proofs.Transfers.{WrittenSoFar}
use Rattle.fabric_run.proofs.transfer.write_all.Given as goal

abbrev pub invariant-loop-written : goal.invariant-loop-written
invariant-loop-written g l = WrittenSoFar (g.K.Sink.intake l.initial.sink) (g.K.Sink.intake l.sink) l.text l.written

abbrev pub decreases-loop-written : goal.decreases-loop-written
decreases-loop-written g l = length l.text - l.written
