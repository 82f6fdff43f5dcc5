use Rattle.std.proofs.Common.{◌+◌, ap, ◌∙◌}
use Rattle.std.specs.List.{count_by}
use Rattle.fabric_audit.specs.Counts.{is_heard, taken_by}
use Rattle.fabric_audit.proofs.Sums.{sum_more}
use Rattle.fabric_audit.proofs.counting.taken.Goals as goal

pub loop-trace-preserved : goal.loop-trace-preserved
loop-trace-preserved c =
    let trace = c.trace-item.result in
    sum_more taken_by c.args.traces.now c.loop-trace.trace-index trace c.loop-trace.count c.in_ok-plus.field-0
    c.in_ok-count.count c.loop-trace-test.true c.trace-item.is c.loop-trace.invariant
    (c.in_ok-plus.ensures
    ∙ ap (λ n. n + c.len-refused.result) (c.heard-heard.ensures ∙ ap (count_by is_heard) c.as_slice.ensures)
    ∙ ap (λ n. count_by is_heard trace.journal + n) c.len-refused.ensures)
    c.in_ok-count.ensures
