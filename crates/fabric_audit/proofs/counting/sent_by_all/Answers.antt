use Rattle.std.proofs.Common.{ap, ◌∙◌}
use Rattle.std.specs.List.{sum_by}
use Rattle.fabric_audit.specs.Counts.{put_by, sent_by}
use Rattle.fabric_audit.proofs.Sums.{sum_more}
use Rattle.fabric_audit.proofs.counting.sent_by_all.Goals as goal

pub loop-trace-preserved : goal.loop-trace-preserved
loop-trace-preserved c =
    sum_more (sent_by c.args.members.now) c.args.traces.now c.loop-trace.trace-index c.trace-item.result c.loop-trace.count c.in_ok-sent.field-0
    c.in_ok-count.count c.loop-trace-test.true c.trace-item.is c.loop-trace.invariant
    (c.in_ok-sent.ensures ∙ ap (sum_by (put_by c.args.members.now)) c.as_slice.ensures) c.in_ok-count.ensures
