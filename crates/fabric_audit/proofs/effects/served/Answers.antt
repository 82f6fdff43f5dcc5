use Rattle.std.proofs.Common.{arith}
use Rattle.fab_base.proofs.Tests.{is_at_most}
use Rattle.fabric_audit.specs.Stamps.{is_served}
use Rattle.fabric_audit.proofs.Prefixes.{one_more_passes}
use Rattle.fabric_audit.proofs.effects.served.Goals as goal

pub loop-place-preserved : goal.loop-place-preserved
loop-place-preserved c =
    one_more_passes (is_served c.args.stamps.now) c.args.requests.now c.loop-place.place c.index-requests-place.result _ c.loop-place-test.true
    c.index-requests-place.is c.loop-place.invariant (is_at_most _ _ (omega arith))
