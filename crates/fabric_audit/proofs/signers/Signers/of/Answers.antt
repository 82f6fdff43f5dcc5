use Rattle.std.proofs.Common.{sym, ◌∙◌, ap, arith}
use Rattle.std.specs.List.{list_any}
use Rattle.std.specs.Str.{bytes_eq}
use Rattle.fabric_audit.proofs.Signed.{gained_last, same_last}
use Rattle.fabric_audit.proofs.signers.Signers.of.Goals as goal

pub loop-left-preserved-in_ok-put : goal.loop-left-preserved-in_ok-put
loop-left-preserved-in_ok-put c = record {
  within = omega (arith, c.loop-left.invariant.within);
  last =
      gained_last c.args.traces.now c.loop-left.left c.loop-left.signers c.put.new.self c.in_ok-of.field-0 c.index-traces-left.result
      c.loop-left-test.true c.loop-left.invariant.within c.index-traces-left.is (sym c.is_correct.ensures ∙ c.if-is_correct.true)
      (λ x. c.in_ok-of.ensures x ∙ ap (list_any (bytes_eq x)) c.as_slice.ensures)
      c.in_ok-put.ensures c.loop-left.invariant.last;
}

pub loop-left-preserved : goal.loop-left-preserved
loop-left-preserved c = record {
  within = omega (arith, c.loop-left.invariant.within);
  last =
      same_last c.args.traces.now c.loop-left.left c.loop-left.signers c.index-traces-left.result
      c.loop-left-test.true c.loop-left.invariant.within c.index-traces-left.is (sym c.is_correct.ensures ∙ c.if-is_correct.false)
      c.loop-left.invariant.last;
}
