use Rattle.std.proofs.Common.{◌≡◌, take, length}
use Rattle.fabric_audit.specs.Stamps.{NUMBERS, counted_all}
use Rattle.fabric_audit.proofs.effects.count_all.Given as goal

abbrev pub invariant-loop-request : goal.invariant-loop-request
invariant-loop-request l = (l.stamps ≡ counted_all l.fn.stamps (take l.request-index l.batch)) × (length l.stamps ≡ NUMBERS)
