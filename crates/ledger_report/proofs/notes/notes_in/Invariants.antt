-- the notes of the entries so far
use Rattle.std.proofs.Common.{◌≡◌, map, take}
use Rattle.ledger_report.specs.Telling.{notes_in}
use Rattle.ledger_report.proofs.notes.notes_in.Given as goal

abbrev pub invariant-loop-entry : goal.invariant-loop-entry
invariant-loop-entry l = map (λ n. n.now) l.notes.items ≡ notes_in (take l.entry-index l.journal)
