use Rattle.std.proofs.Common.{refl, sym, ◌∙◌}
use Rattle.fab_machine.specs.TimingOut.{timeout}
use Rattle.fab_machine.proofs.Members.{is_member}
use Rattle.fab_machine.proofs.Turning.{timeout_state}
use Rattle.view_order.proofs.Keeping.{whole_sealed, always}
use Rattle.view_order.proofs.views.ViewOrder.timeout.Goals as goal

pub invariant_of-self : goal.invariant_of-self
invariant_of-self c =
    let o = c.self.inside.order in
    let own = c.args.own in
    let known = c.args.known in
    let changes = c.self.inside.changes.items in
    let member = is_member o.roster o.me c.self.invariant.limits c.self.invariant.member in
    whole_sealed o c.timeout-told.new.order c.seal.new.order (timeout o.roster o.me o.local own known).local changes changes changes c.timeout-told.result
    c.self.invariant (sym c.is_shut.ensures ∙ c.if-is_shut.false) (λ is. ((timeout_state o.roster o.me o.local own known member is.0).is, is.1))
    c.timeout-told.ensures.same c.timeout-told.ensures.state (always c.timeout-told.result refl) c.seal.ensures.same c.seal.ensures.shut
