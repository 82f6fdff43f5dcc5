use Rattle.std.proofs.Common.{◌∙◌}
use Rattle.fab_base.proofs.Listed.{members_more}
use Rattle.fab_base.proofs.listing.put_members.Goals as goal

pub loop-index-preserved : goal.loop-index-preserved
loop-index-preserved c =
    c.in_ok-push.ensures.ok ∙ members_more c.loop-index.replicas c.args.replicas.now c.args.cluster c.loop-index.index c.loop-index.invariant
