use Rattle.ledger_report.proofs.lines.push_evidence.Goals as goal

pub returns-in-Clash : goal.returns-in-Clash
returns-in-Clash c = rw c.in-Clash.is c.push_clash.ensures
