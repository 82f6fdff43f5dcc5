use Rattle.fab_rules.proofs.Fitting.{fields_are}
use Rattle.bft_msg.proofs.Known.{parts_ready}
use Rattle.bft_msg.proofs.shaping.look.Goals as goal

pub walk-requires-2-clause-may : goal.walk-requires-2-clause-may
walk-requires-2-clause-may c =
    parts_ready c.args.members.now c.args.message.now (fields_are c.args.message.now c.requires) c.in_ok-walk.ensures
