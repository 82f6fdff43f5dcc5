use Rattle.std.proofs.Common.{◌≡◌, length, take}
use Rattle.std.specs.List.{sum_by}
use Rattle.fabric_audit.proofs.counting.entries.Given as goal

abbrev pub invariant-loop-trace : goal.invariant-loop-trace
invariant-loop-trace l = l.count ≡ sum_by (λ trace. length trace.journal) (take l.trace-index l.traces)
