use Rattle.std.proofs.Common.{◌≡◌, take}
use Rattle.std.specs.List.{sum_by}
use Rattle.fabric_audit.specs.Counts.{taken_by}
use Rattle.fabric_audit.proofs.counting.taken.Given as goal

abbrev pub invariant-loop-trace : goal.invariant-loop-trace
invariant-loop-trace l = l.count ≡ sum_by taken_by (take l.trace-index l.traces)
