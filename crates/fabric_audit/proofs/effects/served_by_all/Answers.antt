use Rattle.std.proofs.Common.{length, take, sym, ap, ◌∙◌}
use Rattle.std.specs.List.{prefix_len}
use Rattle.fabric_audit.specs.Stamps.{is_served}
use Rattle.fabric_audit.proofs.Prefixes.{all_pass}
use Rattle.fabric_audit.proofs.Served.{served_more, served_still}
use Rattle.fabric_audit.proofs.effects.served_by_all.Goals as goal
use Rattle.fabric_audit.proofs.effects.served_by_all.Goals.{then-is_correct+in_ok-stamps, else-is_correct}

pub loop-trace-init : goal.loop-trace-init
loop-trace-init c = ap length c.as_slice-requests.ensures ∙ all_pass c.args.script.now.requests

-- the ledger of a correct replica more, or of a faulty one, which isn't asked
pub loop-trace-preserved : goal.loop-trace-preserved
loop-trace-preserved c =
    let script = c.args.script.now in
    let traces = c.args.traces.now in
    let i = c.loop-trace.trace-index in
    let trace = c.trace-item.result in
    elim c.if-is_correct.branch [
      | then-is_correct+in_ok-stamps w ↦
          (served_more script traces i trace w.in_ok-stamps.stamps c.loop-trace.count c.if-is_correct.count c.loop-trace-test.true c.trace-item.is
          (sym c.is_correct.ensures ∙ w.if-is_correct.true) w.in_ok-stamps.ensures c.loop-trace.invariant
          (w.count-is ∙ w.served-count.ensures
          ∙ ap (λ l. prefix_len (is_served w.in_ok-stamps.stamps) (take c.loop-trace.count l)) c.as_slice-requests.ensures))
      | else-is_correct w ↦
          (w.count-is
          ∙ served_still script traces i trace c.loop-trace.count c.loop-trace-test.true c.trace-item.is
          (sym c.is_correct.ensures ∙ w.if-is_correct.false) c.loop-trace.invariant)
    ]
