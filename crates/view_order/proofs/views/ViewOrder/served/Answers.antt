use Rattle.std.proofs.Common.{◌≡◌, ◌+◌, sym, ap, ◌∙◌}
use Rattle.fab_machine.specs.Serving.{served}
use Rattle.fab_machine.proofs.States.{served_state}
use Rattle.view_order.proofs.Keeping.{whole_after}
use Rattle.view_order.proofs.views.ViewOrder.served.Goals as goal

pub invariant_of-self : goal.invariant_of-self
invariant_of-self c =
    let o = c.self.inside.order in
    let round = c.args.round in
    let batch = c.args.batch.now in
    let outcomes = c.args.outcomes.now in
    let digest = c.args.digest in
    let next : round ≡ o.local.executed + 1 = c.requires.round ∙ sym (ap (λ v. v.local.executed + 1) c.self.view_is) in
    whole_after o c.served.new.self (served o.roster o.local round batch outcomes digest) c.self.inside.changes.items c.served.result c.self.invariant
    (served_state o.roster o.me o.local round batch outcomes digest next c.requires.upto c.in_field.ensures) c.served.ensures.live c.served.ensures.state
    c.served.ensures.err
