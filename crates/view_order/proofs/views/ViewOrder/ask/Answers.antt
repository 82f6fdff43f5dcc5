use Rattle.std.proofs.Common.{◌<◌, refl, sym, subst, arith, ◌∙◌}
use Rattle.fab_base.specs.declared.answers.Answer.{Answer}
use Rattle.fab_machine.specs.State.{wanted}
use Rattle.fab_machine.specs.Changing.{asked}
use Rattle.fab_machine.proofs.Asking.{asked_state, view_upto}
use Rattle.view_order.proofs.Keeping.{whole_sealed, always}
use Rattle.view_order.proofs.views.ViewOrder.ask.Goals as goal

pub invariant_of-self : goal.invariant_of-self
invariant_of-self c =
    let o = c.self.inside.order in
    let view = c.args.view in
    let changes = c.self.inside.changes.items in
    let wants = subst (λ v. wanted v.local < view) (sym c.self.view_is) c.requires.above in
    whole_sealed o c.asked-told.new.order c.seal.new.order (asked o.roster o.me o.local view (Answer.Asked view)).local changes changes changes c.asked-told.result
    c.self.invariant (sym c.is_shut.ensures ∙ c.if-is_shut.false)
    (λ is. (let upto = view_upto o.local is.0.wants in (asked_state o.roster o.me o.local view (omega (arith, wants, upto)) is.0, is.1)))
    c.asked-told.ensures.same c.asked-told.ensures.state (always c.asked-told.result refl) c.seal.ensures.same c.seal.ensures.shut
