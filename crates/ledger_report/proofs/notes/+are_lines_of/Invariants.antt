-- the lines that are left
use Rattle.std.proofs.Common.{length}
use Rattle.ledger_report.proofs.notes.+are_lines_of.Given as goal

abbrev pub decreases-are_lines_of : goal.decreases-are_lines_of
decreases-are_lines_of l = length l.lines.now
