use Rattle.std.proofs.Common.{All}
use Rattle.stage_workers.specs.declared.look.Post.{Post}
use Rattle.turn_cases.specs.Counting.{IsPass}
use Rattle.turn_cases.specs.declared.stepping.Stepper.{Stepper}
use Rattle.turn_cases.proofs.stepping.close.Given as goal

abbrev pub invariant-loop : goal.invariant-loop
invariant-loop l = IsPass l.turn l.own × All (λ (p : Post Stepper). IsPass l.turn p.hand.pass) l.posts.items
