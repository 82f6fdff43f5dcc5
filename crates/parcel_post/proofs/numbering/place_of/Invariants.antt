use Rattle.parcel_post.proofs.Raising.{IsLater}
use Rattle.parcel_post.proofs.numbering.place_of.Given as goal

abbrev pub invariant-loop-place : goal.invariant-loop-place
invariant-loop-place l = IsLater l.fn.counts l.fn.to l.place
