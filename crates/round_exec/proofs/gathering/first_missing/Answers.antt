use Rattle.round_exec.proofs.Gathered.{missing_more}
use Rattle.round_exec.proofs.gathering.first_missing.Goals as goal

pub loop-before-preserved : goal.loop-before-preserved
loop-before-preserved c =
    missing_more c.args.certificates.now c.args.round c.args.clusters c.loop-before.before c.of.result _ c.loop-before-test.true c.of.ensures
    c.if-is_none.ensures c.loop-before.invariant
