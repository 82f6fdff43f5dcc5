use Rattle.std.proofs.Common.{All}
use Rattle.stage_workers.specs.declared.look.Post.{Post}
use Rattle.turn_cases.specs.Counting.{IsPass}
use Rattle.turn_cases.specs.declared.stepping.Stepper.{Stepper}
use Rattle.turn_cases.proofs.stepping.posts_of.Given as goal

abbrev pub invariant-loop-worker : goal.invariant-loop-worker
invariant-loop-worker l = IsPass l.turn l.own × All (λ (p : Post Stepper). IsPass l.turn p.hand.pass) l.posts.items
