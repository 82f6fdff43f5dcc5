use Rattle.std.proofs.Common.{◌≡◌, take}
use Rattle.std.specs.List.{sum_by}
use Rattle.fabric_audit.specs.Counts.{sent_by}
use Rattle.fabric_audit.proofs.counting.sent_by_all.Given as goal

abbrev pub invariant-loop-trace : goal.invariant-loop-trace
invariant-loop-trace l = l.count ≡ sum_by (sent_by l.members) (take l.trace-index l.traces)
