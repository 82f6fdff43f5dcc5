use Rattle.fab_machine.specs.Checkpointing.{checkpoint}
use Rattle.fab_machine.proofs.Members.{is_member}
use Rattle.fab_machine.proofs.CheckpointStates.{checkpoint_state}
use Rattle.view_order.proofs.Keeping.{whole_after}
use Rattle.view_order.proofs.views.ViewOrder.checkpoint.Goals as goal

pub invariant_of-self : goal.invariant_of-self
invariant_of-self c =
    let o = c.self.inside.order in
    let member = is_member o.roster o.me c.self.invariant.limits c.self.invariant.member in
    whole_after o c.checkpoint.new.self (checkpoint o.roster o.me o.local).local c.self.inside.changes.items c.checkpoint.result c.self.invariant
    (λ is. (checkpoint_state o.roster o.me o.local member is).is) c.checkpoint.ensures.live c.checkpoint.ensures.state c.checkpoint.ensures.err
