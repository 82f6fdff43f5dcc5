use Rattle.std.proofs.Common.{◌<◌, ◌∙◌, sym, [], ◌∷◌, slice_index, length, arith}
use Rattle.sha_lanes.proofs.HashLemmas.{each4}
use Rattle.lmots_core.proofs.RunningLemmas.{AreOn_long}
use Rattle.lmots_core.proofs.chains.run_lanes.Goals as goal

pub advance-requires-clause-at : goal.advance-requires-clause-at
advance-requires-clause-at c =
    let a = c.refill.ensures.at in
    let b = c.refill-in-turns.ensures.at in
    let x = c.refill-in-turns-2.ensures.at in
    let d = c.refill-in-turns-3.ensures.at in
    let long = c.turns.invariant.6 in
    each4 (λ k. slice_index (c.refill.result.0 ∷ c.refill-in-turns.result.0 ∷ c.refill-in-turns-2.result.0 ∷ c.refill-in-turns-3.result.0 ∷ []) k < length c.turns.values)
    (omega (arith, a, long)) (omega (arith, b, long)) (omega (arith, x, long)) (omega (arith, d, long))

pub turns-preserved : goal.turns-preserved
turns-preserved c =
    let a = c.refill.ensures.at in
    let b = c.refill-in-turns.ensures.at in
    let x = c.refill-in-turns-2.ensures.at in
    let d = c.refill-in-turns-3.ensures.at in
    let next = c.refill-in-turns-3.ensures.next in
    let long = c.turns.invariant.6 in
    let first = c.turns.invariant.5 in
    let v = c.advance.ensures.values in
    let p = c.advance.ensures.places in (
      omega (arith, a, long, v),
      omega (arith, b, long, v),
      omega (arith, x, long, v),
      omega (arith, d, long, v),
      omega (arith, next, long, v),
      v ∙ first,
      p ∙ long ∙ sym v,
      λ from start on.
          AreOn_long c.args.id.now c.args.q from start c.args.goals.now c.advance.new.places c.advance.new.values _ _ (sym v)
          (c.advance.ensures.on from start (c.turns.invariant.7 from start on)),
    )

pub returns-after-turns-clause-on : goal.returns-after-turns-clause-on
returns-after-turns-clause-on c = λ from start on.
    AreOn_long c.args.id.now c.args.q from start c.args.goals.now c.turns.places c.turns.values _ _ c.turns.invariant.5 (c.turns.invariant.7 from start on)

pub returns-then-is_done-clause-on : goal.returns-then-is_done-clause-on
returns-then-is_done-clause-on c = λ from start on.
    AreOn_long c.args.id.now c.args.q from start c.args.goals.now c.turns.places c.turns.values _ _ c.turns.invariant.5 (c.turns.invariant.7 from start on)
