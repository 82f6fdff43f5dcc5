use Rattle.std.proofs.Common.{◌∙◌, arith}
use Rattle.std.proofs.lemmas.List.{length-set}
use Rattle.lmots_core.specs.Parameters.{width}
use Rattle.lmots_core.specs.Digits.{coef}
use Rattle.lmots_core.proofs.LeafLemmas.{filled}
use Rattle.lmots_core.proofs.signatures.set_goals.Goals as goal

pub goals-preserved : goal.goals-preserved
goals-preserved c =
    let l0 = c.goals.invariant.0 in
    let count = c.chain_count-i-end.ensures in (
      length-set c.goals.goals c.from.result c.coef.result ∙ l0,
      filled (λ j. coef c.args.digits.now j (width c.args.kind)) c.goals.goals c.goals.i c.from.result c.coef.result c.from.ensures (omega (arith, l0, count)) c.coef.ensures
          c.goals.invariant.1,
    )
