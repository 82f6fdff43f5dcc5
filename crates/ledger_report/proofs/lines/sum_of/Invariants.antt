-- the sum so far
use Rattle.std.proofs.Common.{◌≡◌, sum, take}
use Rattle.ledger_report.proofs.lines.sum_of.Given as goal

abbrev pub invariant-loop-size : goal.invariant-loop-size
invariant-loop-size l = l.total ≡ sum (take l.size-index l.sizes)
