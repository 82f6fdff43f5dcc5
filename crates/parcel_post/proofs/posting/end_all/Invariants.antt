use Rattle.parcel_post.specs.Posting.{ended_parcel}
use Rattle.parcel_post.proofs.Ending.{IsWritten}
use Rattle.parcel_post.proofs.posting.end_all.Given as goal

abbrev pub invariant-loop-parcel : goal.invariant-loop-parcel
invariant-loop-parcel l = IsWritten (ended_parcel l.back) l.fn.parcels l.parcel-index l.parcels
