use Rattle.fab_machine.specs.Checkpointing.{checkpoint}
use Rattle.fab_machine.proofs.Members.{is_member}
use Rattle.order_heap.proofs.Calls.{alone_after, checkpoint_keeps}
use Rattle.order_heap.proofs.alone.Alone.checkpoint.Goals as goal

pub invariant_of-self-2 : goal.invariant_of-self-2
invariant_of-self-2 c =
    let p = c.self.inside in
    let is = c.self.invariant in
    record {
      limits = is.limits;
      member = is.member;
      ordering = alone_after p.members p.me p.rounds p.order c.checkpoint.new.self c.checkpoint.result (λ r i k. (checkpoint r i k).local) is.ordering
          (λ k whole. checkpoint_keeps p.members p.me k (is_member p.members p.me is.limits is.member) whole) c.checkpoint.ensures.live c.checkpoint.ensures.state c.checkpoint.ensures.err;
    }
