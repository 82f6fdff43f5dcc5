use Rattle.std.proofs.Common.{arith, length}
use Rattle.parcel_post.specs.Posting.{ended_parcel}
use Rattle.parcel_post.proofs.Ending.{room_at, written_more}
use Rattle.parcel_post.proofs.posting.end_all.Goals as goal

pub end-requires : goal.end-requires
end-requires c =
    room_at (length c.args.back.now) c.args.parcels.now c.loop-parcel.parcels (ended_parcel c.args.back.now) c.loop-parcel.parcel-index
    c.parcel-item.result (omega arith) c.loop-parcel.invariant c.requires

pub loop-parcel-preserved : goal.loop-parcel-preserved
loop-parcel-preserved c =
    written_more (ended_parcel c.args.back.now) c.args.parcels.now c.loop-parcel.parcels c.loop-parcel.parcel-index c.parcel-item.result
    c.end.new.parcel (omega arith) c.loop-parcel.invariant c.end.ensures
