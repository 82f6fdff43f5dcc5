use Rattle.std.proofs.Common.{◌≡◌, true, take}
use Rattle.std.specs.List.{list_all}
use Rattle.fabric_audit.specs.Still.{is_still}
use Rattle.fabric_audit.proofs.settling.are_still.Given as goal

abbrev pub invariant-loop-trace : goal.invariant-loop-trace
invariant-loop-trace l = list_all (is_still l.script l.timeouts) (take l.trace-index l.traces) ≡ true
