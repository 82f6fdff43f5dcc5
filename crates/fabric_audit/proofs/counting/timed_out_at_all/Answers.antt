use Rattle.std.proofs.Common.{ap, ◌∙◌}
use Rattle.std.specs.List.{count_by}
use Rattle.run_words.specs.Lawful.{is_timed_out, timed_out_in}
use Rattle.fabric_audit.proofs.Sums.{sum_more}
use Rattle.fabric_audit.proofs.counting.timed_out_at_all.Goals as goal

pub loop-trace-preserved : goal.loop-trace-preserved
loop-trace-preserved c =
    sum_more timed_out_in c.args.traces.now c.loop-trace.trace-index c.trace-item.result c.loop-trace.count c.timed_out.result
    c.in_ok-count.count c.loop-trace-test.true c.trace-item.is c.loop-trace.invariant
    (c.timed_out.ensures ∙ ap (count_by is_timed_out) c.as_slice.ensures) c.in_ok-count.ensures
