use Rattle.std.proofs.Common.{arith, length-drop}
use Rattle.fab_rules.specs.Statements.{parts_of}
use Rattle.fab_rules.proofs.Fitting.{fields_are}
use Rattle.bft_msg.proofs.Fitting.{few_parts}
use Rattle.bft_msg.proofs.walking.walk.Goals as goal

pub walk_inside-requires-clause-room : goal.walk_inside-requires-clause-room
walk_inside-requires-clause-room g c =
    omega (arith, few_parts c.args.message.now (fields_are c.args.message.now c.requires.spelled), length-drop 1 (parts_of c.args.message.now))
