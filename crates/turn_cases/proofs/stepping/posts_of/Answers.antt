use Rattle.std.proofs.Common.{sym, subst}
use Rattle.std.proofs.lemmas.List.Elements.{All-push, All-same}
use Rattle.stage_workers.specs.declared.look.Post.{Post}
use Rattle.turn_cases.specs.Counting.{IsPass}
use Rattle.turn_cases.specs.declared.stepping.Stepper.{Stepper}
use Rattle.turn_cases.proofs.stepping.posts_of.Goals as goal

pub loop-worker-preserved : goal.loop-worker-preserved
loop-worker-preserved c =
    let P : Post Stepper → Type 0 = λ p. IsPass c.args.turn.now p.hand.pass in
    let new : P c.post.result = subst (IsPass c.args.turn.now) (sym c.post.ensures) c.in_ok-pass.ensures.new in
    (c.cut.ensures.own, All-same P _ _ c.in_ok-push.ensures.items (All-push P c.loop-worker.posts.items c.post.result c.loop-worker.invariant.1 new))

pub returns : goal.returns
returns c =
    let P : Post Stepper → Type 0 = λ p. IsPass c.args.turn.now p.hand.pass in
    let new : P c.post-2.result = subst (IsPass c.args.turn.now) (sym c.post-2.ensures) c.loop-worker.invariant.0 in
    All-same P _ _ c.in_ok-push-2.ensures.items (All-push P c.loop-worker.posts.items c.post-2.result c.loop-worker.invariant.1 new)
