-- how many of the replicas so far
use Rattle.std.proofs.Common.{◌≡◌, take}
use Rattle.ledger_report.specs.Telling.{told_by}
use Rattle.ledger_report.proofs.notes.told_by.Given as goal

abbrev pub invariant-loop-told : goal.invariant-loop-told
invariant-loop-told l = l.count ≡ told_by (take l.told-index l.all) (record { block = l.block; outcomes = l.outcomes })
