use Rattle.std.proofs.Common.{ap}
use Rattle.replica_core.proofs.Machines.{fresh_core}
use Rattle.replica_core.proofs.making.core.Goals as goal

pub new-requires-2 : goal.new-requires-2
new-requires-2 c =
    fresh_core c.args.members c.args.me c.in_ok-order.order c.in_ok-rounds.rounds c.in_ok-talk.talk c.new.result.items c.clusters.ensures.limits c.requires
    c.in_ok-order.ensures (ap (λ b. b.rounds) c.in_ok-rounds.ensures) c.in_ok-talk.ensures c.new.ensures.items
