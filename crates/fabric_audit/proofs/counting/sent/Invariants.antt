use Rattle.std.proofs.Common.{◌≡◌, take}
use Rattle.std.specs.List.{sum_by}
use Rattle.fabric_audit.specs.Counts.{put_by}
use Rattle.fabric_audit.proofs.counting.sent.Given as goal

abbrev pub invariant-loop-parcel : goal.invariant-loop-parcel
invariant-loop-parcel l = l.count ≡ sum_by (put_by l.members) (take l.parcel-index l.parcels)
