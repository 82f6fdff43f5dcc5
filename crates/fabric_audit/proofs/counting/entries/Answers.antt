use Rattle.std.proofs.Common.{length}
use Rattle.run_words.specs.declared.logs.Trace.{Trace}
use Rattle.fabric_audit.proofs.Sums.{sum_more}
use Rattle.fabric_audit.proofs.counting.entries.Goals as goal

pub loop-trace-preserved : goal.loop-trace-preserved
loop-trace-preserved c =
    sum_more (λ (t : Trace). length t.journal) c.args.traces.now c.loop-trace.trace-index c.trace-item.result c.loop-trace.count c.len.result
    c.in_ok-count.count c.loop-trace-test.true c.trace-item.is c.loop-trace.invariant c.len.ensures c.in_ok-count.ensures
