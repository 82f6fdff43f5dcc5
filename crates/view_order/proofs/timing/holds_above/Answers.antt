use Rattle.std.proofs.Common.{◌≡◌, ◌<◌, ◌+◌, length, sym, ap, ◌∙◌, arith}
use Rattle.view_order.proofs.Holding.{holds_next, this_one, later_one}
use Rattle.view_order.proofs.timing.holds_above.Goals as goal

pub returns-then-holds : goal.returns-then-holds
returns-then-holds c =
    let w = c.args.slots.now in
    let slot = c.loop-slot.slot in
    let first = c.low-first.result + 1 in
    let at : first ≡ w.low + 1 = ap (λ n. n + 1) c.low-first.ensures in
    let upto : slot < first + length w.slots = omega (arith, c.loop-slot-test.true, c.width.ensures) in
    this_one _ _ _ _ c.loop-slot.invariant.0 (holds_next w c.args.executed first slot at c.loop-slot.invariant.1 upto) (sym c.holds.ensures ∙ c.if-holds.true)

pub loop-slot-preserved : goal.loop-slot-preserved
loop-slot-preserved c =
    let w = c.args.slots.now in
    let slot = c.loop-slot.slot in
    let first = c.low-first.result + 1 in
    let at : first ≡ w.low + 1 = ap (λ n. n + 1) c.low-first.ensures in
    let upto : slot < first + length w.slots = omega (arith, c.loop-slot-test.true, c.width.ensures) in (
      later_one _ _ _ _ c.loop-slot.invariant.0 (holds_next w c.args.executed first slot at c.loop-slot.invariant.1 upto) (sym c.holds.ensures ∙ c.if-holds.false),
      omega (arith, c.loop-slot.invariant.1),
      omega (arith, upto),
    )
