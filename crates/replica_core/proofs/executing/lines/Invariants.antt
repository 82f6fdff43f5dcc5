-- the lines so far and those to come are the whole
use Rattle.std.proofs.Common.{◌≡◌, ◌++◌}
use Rattle.fab_rules.specs.Ledger.{lines_with}
use Rattle.replica_core.proofs.executing.lines.Given as goal

abbrev pub invariant-loop-request : goal.invariant-loop-request
invariant-loop-request l = l.lines ++ lines_with l.request-iterator.a.rest.now l.request-iterator.b.rest.now ≡ lines_with l.batch l.outcomes
