use Rattle.parcel_post.proofs.Tracked.{walked_more, walked_all, spelled_at}
use Rattle.parcel_post.proofs.tracing.parcels_of.Goals as goal

pub step-requires : goal.step-requires
step-requires c = spelled_at c.args.journal.now c.loop-entry.entry-index c.entry-item.result c.loop-entry-test.true c.entry-item.is c.requires

pub loop-entry-preserved : goal.loop-entry-preserved
loop-entry-preserved c =
    walked_more c.args.journal.now c.loop-entry.entry-index c.entry-item.result c.loop-entry.walk c.step.new.self c.loop-entry-test.true
    c.entry-item.is c.loop-entry.invariant c.in_ok-step.ensures

pub returns : goal.returns
returns c = λ m plain.
    walked_all m c.args.journal.now c.loop-entry.entry-index c.loop-entry.walk c.loop-entry-test.false c.loop-entry.invariant plain
