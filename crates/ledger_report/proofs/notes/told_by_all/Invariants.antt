-- what each correct replica so far told
use Rattle.std.proofs.Common.{◌≡◌, map, take}
use Rattle.run_worlds.specs.Worlds.{correct_of}
use Rattle.ledger_report.specs.Telling.{telling_of}
use Rattle.ledger_report.proofs.notes.told_by_all.Given as goal

abbrev pub invariant-loop-trace : goal.invariant-loop-trace
invariant-loop-trace l = l.all.items ≡ map telling_of (correct_of (take l.trace-index l.traces))
