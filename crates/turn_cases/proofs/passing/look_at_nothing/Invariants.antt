use Rattle.std.proofs.Common.{◌≡◌, true}
use Rattle.stage_link.specs.Queues.{known, IsQueuePass}
use Rattle.turn_cases.proofs.passing.look_at_nothing.Given as goal

abbrev pub invariant-loop : goal.invariant-loop
invariant-loop g l = IsQueuePass l.line.queue l.hand.pass × ((known l.hand.pass).takes ≡ true)
