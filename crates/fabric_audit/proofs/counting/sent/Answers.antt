use Rattle.fabric_audit.specs.Counts.{put_by}
use Rattle.fabric_audit.proofs.Sums.{sum_more}
use Rattle.fabric_audit.proofs.counting.sent.Goals as goal

pub loop-parcel-preserved : goal.loop-parcel-preserved
loop-parcel-preserved c =
    sum_more (put_by c.args.members.now) c.args.parcels.now c.loop-parcel.parcel-index c.parcel-item.result c.loop-parcel.count c.put.result
    c.in_ok-count.count c.loop-parcel-test.true c.parcel-item.is c.loop-parcel.invariant c.put.ensures c.in_ok-count.ensures
