use Rattle.std.proofs.Common.{◌≡◌, ◌∷◌, [], ◌++◌, refl, ap, subst, ◌∙◌}
use Rattle.std.specs.Prelude.{IfOk, OnOk}
use Rattle.fab_machine.specs.Changing.{change_taken}
use Rattle.local_order.specs.Ordering.{with_local}
use Rattle.view_order.proofs.hearing.take.Goals as goal

pub returns-clause-answer : goal.returns-clause-answer
returns-clause-answer c =
    let o = c.args.order.now in
    let change = c.args.change in
    subst (λ l. IfOk c.taken.result (λ told. told.answer ≡ (change_taken o.roster o.me o.local l change).answer))
    (c.as_slice.ensures.value ∙ c.in_ok-push.ensures.items) (c.taken.ensures.answer change refl)

pub returns-clause-outs : goal.returns-clause-outs
returns-clause-outs c =
    let o = c.args.order.now in
    let change = c.args.change in
    subst (λ l. IfOk c.taken.result (λ told. told.outs ≡ (change_taken o.roster o.me o.local l change).outs))
    (c.as_slice.ensures.value ∙ c.in_ok-push.ensures.items) (c.taken.ensures.outs change refl)

pub returns-clause-state : goal.returns-clause-state
returns-clause-state c =
    let o = c.args.order.now in
    let change = c.args.change in
    subst (λ l. OnOk c.taken.result (c.taken.new.order ≡ with_local o (change_taken o.roster o.me o.local l change).local))
    (c.as_slice.ensures.value ∙ c.in_ok-push.ensures.items) (c.taken.ensures.state change refl)
