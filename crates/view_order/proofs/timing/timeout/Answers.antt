use Rattle.std.proofs.Common.{sym, ◌∙◌}
use Rattle.view_order.proofs.Waited.{has_room}
use Rattle.view_order.proofs.timing.timeout.Goals as goal

pub ask_next-requires-clause-room : goal.ask_next-requires-clause-room
ask_next-requires-clause-room c = has_room c.args.order.now.local c.args.own c.args.known (sym c.is_late.ensures ∙ c.if-is_late.true)
