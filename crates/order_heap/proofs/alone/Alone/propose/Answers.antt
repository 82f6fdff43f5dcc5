use Rattle.std.proofs.Common.{true, false}
use Rattle.fab_machine.specs.Proposing.{propose}
use Rattle.fab_machine.proofs.Members.{is_member}
use Rattle.order_heap.proofs.Calls.{alone_after, propose_keeps}
use Rattle.order_heap.proofs.alone.Alone.propose.Goals as goal

pub invariant_of-self-2 : goal.invariant_of-self-2
invariant_of-self-2 c =
    let p = c.self.inside in
    let is = c.self.invariant in
    record {
      limits = is.limits;
      member = is.member;
      ordering = alone_after p.members p.me p.rounds p.order c.propose.new.self c.propose.result (λ r i k. (propose r i k true false).local) is.ordering
          (λ k whole. propose_keeps p.members p.me true false k (is_member p.members p.me is.limits is.member) whole) c.propose.ensures.live c.propose.ensures.state c.propose.ensures.err;
    }
