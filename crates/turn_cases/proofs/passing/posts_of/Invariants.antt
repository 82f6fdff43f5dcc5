use Rattle.std.proofs.Common.{◌≡◌, true, All}
use Rattle.stage_link.specs.Queues.{known, IsQueuePass}
use Rattle.stage_workers.specs.declared.look.Post.{Post}
use Rattle.turn_cases.specs.Crews.{IsHandOf}
use Rattle.turn_cases.specs.declared.passing.Hand.{Hand}
use Rattle.turn_cases.proofs.passing.posts_of.Given as goal

abbrev pub invariant-loop-producer : goal.invariant-loop-producer
invariant-loop-producer l = IsQueuePass l.queue l.own × ((known l.own).takes ≡ true) × All (λ (p : Post Hand). IsHandOf (record { queue = l.queue }) p.hand) l.posts.items
