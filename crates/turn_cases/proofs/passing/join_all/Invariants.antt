use Rattle.std.proofs.Common.{◌≡◌, true, All}
use Rattle.stage_link.specs.Queues.{known, IsQueuePass}
use Rattle.stage_workers.specs.declared.look.Post.{Post}
use Rattle.turn_cases.specs.Crews.{IsHandOf}
use Rattle.turn_cases.specs.declared.passing.Hand.{Hand}
use Rattle.turn_cases.proofs.passing.join_all.Given as goal

abbrev pub invariant-loop : goal.invariant-loop
invariant-loop g l = IsQueuePass l.crew.queue l.pass × ((known l.pass).takes ≡ true) × All (λ (p : Post Hand). IsHandOf l.crew p.hand) l.posts.items

abbrev pub invariant-loop-2 : goal.invariant-loop-2
invariant-loop-2 g l = IsQueuePass l.crew.queue l.pass × ((known l.pass).takes ≡ true)
