use Rattle.forged_example.proofs.Leavings.{left}
use Rattle.forged_example.proofs.leaving.leave.Goals as goal

pub returns : goal.returns
returns c = left c.args.log c.trace.result c.trace.ensures.open
