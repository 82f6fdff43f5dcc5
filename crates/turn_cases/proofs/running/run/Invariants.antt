use Rattle.std.proofs.Common.{All}
use Rattle.stage_workers.specs.declared.look.Post.{Post}
use Rattle.turn_cases.proofs.running.run.Given as goal

abbrev pub invariant-loop : goal.invariant-loop
invariant-loop g l = All (λ (p : Post g.row.C-Hand.Denot). g.C.Crew.fits l.crew p.hand) l.posts
