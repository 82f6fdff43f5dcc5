-- a line for each entry so far
use Rattle.std.proofs.Common.{◌≡◌, ◌++◌, take}
use Rattle.ledger_report.specs.Text.{entry_lines}
use Rattle.ledger_report.proofs.text.push_entries.Given as goal

abbrev pub invariant-loop-entry : goal.invariant-loop-entry
invariant-loop-entry l = l.text.items ≡ l.initial.text.items ++ entry_lines (take l.entry-index l.entries)
