-- none of the notes so far
use Rattle.std.proofs.Common.{◌≡◌, false, take}
use Rattle.std.specs.List.{list_any}
use Rattle.ledger_report.specs.Report.{is_note_of}
use Rattle.ledger_report.proofs.notes.any_is_note_of.Given as goal

abbrev pub invariant-loop-note : goal.invariant-loop-note
invariant-loop-note l = list_any (λ n. is_note_of (record { block = l.block; outcomes = l.outcomes }) n.now) (take l.note-index l.notes) ≡ false
