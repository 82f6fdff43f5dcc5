use Rattle.std.proofs.Common.{◌≡◌, ◌≢◌}
use Rattle.stage_workers.specs.declared.look.Look.TheVariants.{Idle}
use Rattle.stage_workers.proofs.driving.look_on.Given as goal

abbrev pub invariant-loop : goal.invariant-loop
invariant-loop g l =
    let C = g.C.Crew in
    let old = l.fn.post.hand in
    C.fits l.crew l.post.hand × C.follows l.crew old l.post.hand
    × (l.said ≡ Idle → (l.counter ≡ 0) × (l.post.hand ≡ old))
    × (l.said ≢ Idle → (a b : g.row.C-Hand.Denot) × C.looked l.crew a l.said b × C.follows l.crew old a × C.follows l.crew b l.post.hand)
