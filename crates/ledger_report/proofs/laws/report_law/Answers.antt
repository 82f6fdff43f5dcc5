use Rattle.ledger_report.proofs.Printed.{printed}
use Rattle.ledger_report.proofs.laws.report_law.Goals as goal

pub returns : goal.returns
returns c = printed
