use Rattle.geo_share.proofs.Listed.{one_more}
use Rattle.geo_share.proofs.receiving.recipients.Goals as goal

pub loop-place-preserved : goal.loop-place-preserved
loop-place-preserved c =
    one_more _ _ _ c.loop-place.place _ _ _ c.loop-place.invariant c.receiver-index.ensures c.in_ok-push.ensures.items
