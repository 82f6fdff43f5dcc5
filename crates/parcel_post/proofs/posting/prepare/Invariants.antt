use Rattle.std.proofs.Common.{◌≡◌, ◌++◌, drop, replicate}
use Rattle.parcel_post.specs.Posting.{numbered, raised_by}
use Rattle.parcel_post.proofs.posting.prepare.Given as goal

abbrev pub invariant-loop-receiver : goal.invariant-loop-receiver
invariant-loop-receiver l =
    (numbered l.fn.numbers l.time (l.front ++ replicate l.room 0) l.to
    ≡ l.parcels.items ++ numbered l.after l.time (l.front ++ replicate l.room 0) (drop l.receiver-index l.to))
    × (raised_by l.fn.numbers l.to ≡ raised_by l.after (drop l.receiver-index l.to))
