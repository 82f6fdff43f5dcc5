use Rattle.std.proofs.Common.{◌≡◌, take}
use Rattle.std.specs.List.{prefix_len}
use Rattle.fabric_audit.specs.Stamps.{served_by}
use Rattle.fabric_audit.proofs.effects.served_by_all.Given as goal

abbrev pub invariant-loop-trace : goal.invariant-loop-trace
invariant-loop-trace l = l.count ≡ prefix_len (served_by l.script (take l.trace-index l.traces)) l.script.requests
