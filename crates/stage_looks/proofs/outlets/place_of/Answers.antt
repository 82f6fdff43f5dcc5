use Rattle.stage_looks.proofs.Outgoing.{is_found, is_passed, is_missing}
use Rattle.stage_looks.proofs.outlets.place_of.Goals as goal

pub returns-then-eq : goal.returns-then-eq
returns-then-eq c = is_found c.args.outlets.now c.args.to c.loop-place.place _ c.loop-place-test.true c.if-eq.ensures

pub loop-place-preserved : goal.loop-place-preserved
loop-place-preserved c =
    is_passed c.args.outlets.now c.args.to c.loop-place.place _ c.loop-place-test.true c.loop-place.invariant c.if-eq.ensures

pub returns : goal.returns
returns c = is_missing c.args.outlets.now c.args.to c.loop-place.place c.loop-place-test.false c.loop-place.invariant
