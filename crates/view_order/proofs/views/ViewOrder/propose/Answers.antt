use Rattle.fab_machine.specs.Proposing.{propose}
use Rattle.fab_machine.proofs.States.{propose_state}
use Rattle.view_order.proofs.Keeping.{whole_after}
use Rattle.view_order.proofs.views.ViewOrder.propose.Goals as goal

pub invariant_of-self : goal.invariant_of-self
invariant_of-self c =
    let o = c.self.inside.order in
    let nudged = c.args.nudged in
    let known = c.args.known in
    whole_after o c.propose.new.self (propose o.roster o.me o.local nudged known).local c.self.inside.changes.items c.propose.result c.self.invariant
    (propose_state o.roster o.me o.local nudged known) c.propose.ensures.live c.propose.ensures.state c.propose.ensures.err
