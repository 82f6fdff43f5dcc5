use Rattle.std.proofs.Common.{arith}
use Rattle.order_heap.proofs.Calls.{served_alone}
use Rattle.order_heap.proofs.alone.Alone.take.Goals as goal

pub invariant_of-self-then-are_clients : goal.invariant_of-self-then-are_clients
invariant_of-self-then-are_clients c = record {
  limits = c.self.invariant.limits;
  member = c.self.invariant.member;
  ordering = served_alone c.self.inside.members c.self.inside.me c.self.inside.rounds c.self.inside.order c.served.new.self c.in-Some.batch c.in_ok-outcomes.outcomes c.digest.result c.self.invariant.ordering
      (omega (arith, c.if-self-lt-GREATEST_NUMBER.true)) c.digest.ensures c.in_ok-served.ensures.live c.in_ok-served.ensures.state;
}
