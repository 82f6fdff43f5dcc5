use Rattle.std.proofs.Common.{◌≡◌, map, drop}
use Rattle.stage_workers.specs.Driven.{told}
use Rattle.stage_workers.specs.declared.look.Look.TheVariants.{Idle}
use Rattle.stage_workers.specs.declared.look.Post.{Post}
use Rattle.stage_workers.proofs.driving.sum_up.Given as goal

abbrev pub invariant-loop-post : goal.invariant-loop-post
invariant-loop-post g l = told l.answer (map (λ (p : Post g.row.H.Denot). p.said) (drop l.post-index l.posts)) ≡ told Idle (map (λ (p : Post g.row.H.Denot). p.said) l.posts)
