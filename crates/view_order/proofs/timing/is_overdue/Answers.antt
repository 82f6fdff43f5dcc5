use Rattle.std.proofs.Common.{◌+◌, ◌<◌, ◌^◌, sym, subst, arith}
use Rattle.pbft_slots.specs.Window.{high}
use Rattle.view_order.proofs.timing.is_overdue.Goals as goal

pub holds_above-requires : goal.holds_above-requires
holds_above-requires c =
    subst (λ w. high w + 1 < 2 ^ 64) (sym c.slots.ensures)
    (omega (arith, c.requires.whole.shown.upto, c.requires.whole.opened.width, c.requires.limits.window))
