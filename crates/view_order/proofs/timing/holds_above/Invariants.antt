-- no slot so far: so it is as it is from here on
use Rattle.std.proofs.Common.{◌≡◌, ◌+◌, ◌-◌, ◌≤◌, drop, length}
use Rattle.fab_machine.specs.TimingOut.{holds_above}
use Rattle.view_order.proofs.timing.holds_above.Given as goal

abbrev pub invariant-loop-slot : goal.invariant-loop-slot
invariant-loop-slot l =
    (holds_above l.executed l.slot (drop (l.slot - l.first) l.slots.slots) ≡ holds_above l.executed (l.slots.low + 1) l.slots.slots)
    × (l.first ≤ l.slot)
    × (l.slot ≤ l.first + length l.slots.slots)
