use Rattle.std.proofs.Common.{IfSome, subst, Some}
use Rattle.std.proofs.lemmas.List.Elements.{All-pop}
use Rattle.stage_workers.specs.declared.look.Post.{Post}
use Rattle.turn_cases.specs.Counting.{IsPass}
use Rattle.turn_cases.specs.declared.stepping.Stepper.{Stepper}
use Rattle.turn_cases.proofs.stepping.close.Goals as goal

pub loop-init : goal.loop-init
loop-init c =
    let P : Post Stepper → Type 0 = λ p. IsPass c.args.crew.turn p.hand.pass in
    let p = All-pop P c.args.posts.items c.pop.new.self.items c.pop.result c.pop.ensures.items c.requires in
    let first : IfSome (Some c.in-Some.first) P = subst (λ r. IfSome r P) c.in-Some.is p.1 in
    (first, p.0)

pub join-requires-clause-other : goal.join-requires-clause-other
join-requires-clause-other c =
    let P : Post Stepper → Type 0 = λ p. IsPass c.args.crew.turn p.hand.pass in
    let p = All-pop P c.loop.posts.items c.pop-in-loop.new.self.items c.pop-in-loop.result c.pop-in-loop.ensures.items c.loop.invariant.1 in
    let other : IfSome (Some c.in-Some-pop.other) P = subst (λ r. IfSome r P) c.in-Some-pop.is p.1 in
    other.is

pub loop-preserved : goal.loop-preserved
loop-preserved c =
    let P : Post Stepper → Type 0 = λ p. IsPass c.args.crew.turn p.hand.pass in
    let p = All-pop P c.loop.posts.items c.pop-in-loop.new.self.items c.pop-in-loop.result c.pop-in-loop.ensures.items c.loop.invariant.1 in
    (record { is = c.join.ensures.pass }, p.0)
