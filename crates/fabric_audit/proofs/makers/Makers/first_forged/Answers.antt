use Rattle.fab_rules.specs.Statements.{parts_of}
use Rattle.fabric_audit.proofs.Forging.{none_forged, one_forged}
use Rattle.fabric_audit.proofs.makers.Makers.first_forged.Goals as goal

pub returns-in-Ok : goal.returns-in-Ok
returns-in-Ok c = none_forged c.args.self.now (parts_of c.args.message.now) c.in-Ok.ensures

pub returns-in-Err-By : goal.returns-in-Err-By
returns-in-Err-By c =
    one_forged c.args.self.now (parts_of c.args.message.now) c.in-Err-By.field-0 c.in-Err-By.signer c.in-Err-By.field-0-is c.in-Err-By.ensures
