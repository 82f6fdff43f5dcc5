use Rattle.std.proofs.Common.{◌≡◌, ◌∷◌, [], ◌++◌, sym, ap, subst, ◌∙◌}
use Rattle.fab_base.specs.declared.answers.Answer.{Answer}
use Rattle.fab_base.specs.declared.answers.Take.{Take}
use Rattle.fab_base.specs.declared.messages.Message.{Message}
use Rattle.fab_rules.specs.Lists.{In}
use Rattle.fab_rules.specs.Shape.{IsShaped}
use Rattle.fab_machine.specs.Adopting.{entered_outs}
use Rattle.fab_machine.specs.declared.outs.Out.{Out}
use Rattle.view_order.proofs.Keeping.{map_ok}
use Rattle.view_order.proofs.Entering.{adoption, adopted_state}
use Rattle.view_order.proofs.adopting.put_adopted.Goals as goal

pub hear_again-requires-clause-live : goal.hear_again-requires-clause-live
hear_again-requires-clause-live c = ap (λ o. o.shut) c.in_ok-kept.ensures.state

pub hear_again-requires-clause-shaped : goal.hear_again-requires-clause-shaped
hear_again-requires-clause-shaped c = λ m h.
    subst (λ r. IsShaped r m) (sym (ap (λ o. o.roster) c.in_ok-kept.ensures.state))
    (c.requires.whole.kept m (subst (In m) c.in_ok-kept.ensures.kept h))

pub returns-clause-outs : goal.returns-clause-outs
returns-clause-outs c =
    let o = c.args.order.now in
    let x = c.args.new_view.now in
    let put : c.enter.new.outs ≡ Out.Clear ∷ entered_outs o.roster o.me o.local x =
    c.in_ok-kept.ensures.outs ∙ ap (λ l. l ++ entered_outs o.roster o.me o.local x) (c.in_ok-push.ensures.ok ∙ ap (λ l. l ++ Out.Clear ∷ []) c.requires.none) in
    let whole = adoption o c.enter.new.order x _ c.enter.new.outs c.in_ok-kept.ensures.state c.in_ok-kept.ensures.kept put in
    map_ok c.hear_again.result (λ h. h (Answer.Heard Take.Taken) ∙ ap (λ t. t.outs) whole) c.hear_again.ensures.outs

pub returns-clause-state : goal.returns-clause-state
returns-clause-state c =
    let o = c.args.order.now in
    let x = c.args.new_view.now in
    let put : c.enter.new.outs ≡ Out.Clear ∷ entered_outs o.roster o.me o.local x =
    c.in_ok-kept.ensures.outs ∙ ap (λ l. l ++ entered_outs o.roster o.me o.local x) (c.in_ok-push.ensures.ok ∙ ap (λ l. l ++ Out.Clear ∷ []) c.requires.none) in
    let whole = adoption o c.enter.new.order x _ c.enter.new.outs c.in_ok-kept.ensures.state c.in_ok-kept.ensures.kept put in
    map_ok c.hear_again.result
    (λ h. adopted_state o c.enter.new.order c.hear_again.new.order x _ c.in_ok-kept.ensures.state (ap (λ t. t.local) whole) (h (Answer.Heard Take.Taken)))
    c.hear_again.ensures.state
