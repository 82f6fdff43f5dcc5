use Rattle.std.proofs.Common.{ap, ◌∙◌}
use Rattle.fab_base.specs.Roster.{size_of}
use Rattle.fabric_audit.specs.Counts.{copies_for}
use Rattle.fabric_audit.proofs.Sums.{sum_more}
use Rattle.fabric_audit.proofs.counting.copies.Goals as goal

pub loop-wish-preserved : goal.loop-wish-preserved
loop-wish-preserved c =
    sum_more (copies_for c.args.members.now) c.args.requests.now c.loop-wish.wish-index c.wish-item.result c.loop-wish.count c.size.result
    c.in_ok-count.count c.loop-wish-test.true c.wish-item.is c.loop-wish.invariant
    (c.size.ensures.is ∙ ap (size_of c.args.members.now) c.home-home.ensures.is) c.in_ok-count.ensures
