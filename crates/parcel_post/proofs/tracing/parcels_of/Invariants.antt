use Rattle.std.proofs.Common.{◌≡◌}
use Rattle.parcel_post.proofs.Tracked.{walked_to}
use Rattle.parcel_post.proofs.tracing.parcels_of.Given as goal

abbrev pub invariant-loop-entry : goal.invariant-loop-entry
invariant-loop-entry l = l.walk ≡ walked_to l.journal l.entry-index
