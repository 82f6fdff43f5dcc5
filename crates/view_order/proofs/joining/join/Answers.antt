use Rattle.std.proofs.Common.{◌≡◌, Some, sym, ap, ◌∙◌, arith}
use Rattle.fab_machine.specs.State.{wanted}
use Rattle.fab_machine.specs.Changing.{view_to_join}
use Rattle.fab_machine.proofs.Asking.{view_upto}
use Rattle.view_order.proofs.Wanting.{joins_above}
use Rattle.view_order.proofs.joining.join.Goals as goal

pub ask-requires-clause-above : goal.ask-requires-clause-above
ask-requires-clause-above c =
    let l = c.args.order.now.local in
    let found : view_to_join c.size.result c.args.changes.now c.wanted.result ≡ Some c.in-Some.view = sym c.to_join.ensures ∙ c.in-Some.is in
    let upto = view_upto l c.requires.whole.wants in
    let above = joins_above c.size.result c.args.changes.now c.wanted.result c.in-Some.view found in
    omega (arith, upto, above, c.wanted.ensures)
