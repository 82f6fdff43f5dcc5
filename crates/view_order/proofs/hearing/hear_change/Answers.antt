use Rattle.std.proofs.Common.{◌≡◌, sym, ap, subst, ◌∙◌}
use Rattle.std.specs.Prelude.{IfOk, OnOk}
use Rattle.fab_machine.specs.Changing.{change_answer}
use Rattle.local_order.specs.Ordering.{with_local}
use Rattle.view_order.proofs.Keeping.{map_ok}
use Rattle.view_order.proofs.Taking.{taken_is, kept_is}
use Rattle.view_order.proofs.hearing.hear_change.Goals as goal

pub returns-in-Taken-clause-answer : goal.returns-in-Taken-clause-answer
returns-in-Taken-clause-answer c =
    let o = c.args.order.now in
    let how = ap (λ l. change_answer o.me o.local l c.args.change) (sym c.as_slice.ensures.value) ∙ (sym c.change_answer.ensures ∙ c.in-Taken.is) in
    subst (λ t. IfOk c.take.result (λ told. told.answer ≡ t.answer)) (taken_is o.roster o.me o.local c.args.changes.now.items c.args.change how) c.take.ensures.answer

pub returns-in-Taken-clause-outs : goal.returns-in-Taken-clause-outs
returns-in-Taken-clause-outs c =
    let o = c.args.order.now in
    let how = ap (λ l. change_answer o.me o.local l c.args.change) (sym c.as_slice.ensures.value) ∙ (sym c.change_answer.ensures ∙ c.in-Taken.is) in
    subst (λ t. IfOk c.take.result (λ told. told.outs ≡ t.outs)) (taken_is o.roster o.me o.local c.args.changes.now.items c.args.change how) c.take.ensures.outs

pub returns-in-Taken-clause-state : goal.returns-in-Taken-clause-state
returns-in-Taken-clause-state c =
    let o = c.args.order.now in
    let how = ap (λ l. change_answer o.me o.local l c.args.change) (sym c.as_slice.ensures.value) ∙ (sym c.change_answer.ensures ∙ c.in-Taken.is) in
    subst (λ t. OnOk c.take.result (c.take.new.order ≡ with_local o t.local)) (taken_is o.roster o.me o.local c.args.changes.now.items c.args.change how)
    c.take.ensures.state

pub returns-in-Taken-clause-kept : goal.returns-in-Taken-clause-kept
returns-in-Taken-clause-kept c =
    let o = c.args.order.now in
    let how = ap (λ l. change_answer o.me o.local l c.args.change) (sym c.as_slice.ensures.value) ∙ (sym c.change_answer.ensures ∙ c.in-Taken.is) in
    map_ok c.take.result (kept_is o.me o.local c.args.changes.now.items c.take.new.changes.items c.args.change how) c.take.ensures.kept
