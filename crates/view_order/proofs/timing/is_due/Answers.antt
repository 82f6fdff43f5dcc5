use Rattle.std.proofs.Common.{nat_le, true, false, sym, ap, ◌∙◌}
use Rattle.view_order.proofs.Waited.{would_ask}
use Rattle.view_order.proofs.timing.is_due.Goals as goal

pub returns-then-is_late : goal.returns-then-is_late
returns-then-is_late c =
    let o = c.args.order.now in
    ap (λ n. nat_le n c.executed.result) c.low.ensures
    ∙ (ap (nat_le o.local.slots.low) c.executed.ensures
    ∙ would_ask o.roster o.me o.local c.args.own c.args.known true (sym c.is_late.ensures ∙ c.if-is_late.true))

pub returns-else-is_late : goal.returns-else-is_late
returns-else-is_late c =
    let o = c.args.order.now in
    c.if-is_late.false ∙ would_ask o.roster o.me o.local c.args.own c.args.known false (sym c.is_late.ensures ∙ c.if-is_late.false)
