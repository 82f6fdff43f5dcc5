use Rattle.std.proofs.Common.{arith}
use Rattle.fab_machine.proofs.Asking.{view_upto}
use Rattle.view_order.proofs.timing.ask_next.Goals as goal

pub asked-requires-clause-above : goal.asked-requires-clause-above
asked-requires-clause-above c = let upto = view_upto c.args.order.now.local c.requires.whole.wants in omega (arith, upto, c.wanted-view.ensures)
