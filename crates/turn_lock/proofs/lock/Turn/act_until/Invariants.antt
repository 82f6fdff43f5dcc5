use Rattle.std.proofs.Common.{◌≡◌}
use Rattle.turn_lock.proofs.lock.Turn.act_until.Given as goal

abbrev pub invariant-loop : goal.invariant-loop
invariant-loop g l = (l.call ≡ l.fn.call) × (l.pass.seat.me ≡ l.fn.pass.seat.me) × (l.pass.seat.table_id ≡ l.fn.pass.seat.table_id) × (l.pass.numbers ≡ l.fn.pass.numbers)
