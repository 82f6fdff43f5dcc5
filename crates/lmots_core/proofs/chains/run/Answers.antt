use Rattle.std.proofs.Common.{◌∙◌, length, arith}
use Rattle.std.proofs.lemmas.List.{length-set}
use Rattle.lmots_core.proofs.RunningLemmas.{begun, set_there, set_on}
use Rattle.lmots_core.proofs.chains.run.Goals as goal

pub rest-init : goal.rest-init
rest-init c = (
  c.run_lanes.ensures.values,
  c.run_lanes.ensures.places ∙ c.requires.places,
  λ k lt. absurd (omega arith),
  λ k le lt.
      c.run_lanes.ensures.on c.args.places.now c.args.values.now
      (begun c.args.id.now c.args.q c.args.goals.now c.args.places.now c.args.values.now (length c.args.values.now) c.requires.before) k lt,
)

pub rest-preserved : goal.rest-preserved
rest-preserved c =
    let long = c.rest.invariant.0 in
    let v = c.run_lanes.ensures.values in
    let here = c.rest.invariant.3 c.rest.i (omega arith) (omega (arith, v)) in (
      length-set c.rest.values c.rest.i c.chain.result ∙ long,
      c.rest.invariant.1,
      set_there c.args.id.now c.args.q c.args.places.now c.args.values.now c.args.goals.now c.run_lanes.new.places c.rest.values (length c.args.values.now) c.rest.i c.chain.result
          long (omega (arith, v)) c.rest.invariant.2 here c.chain.ensures,
      set_on c.args.id.now c.args.q c.args.places.now c.args.values.now c.args.goals.now c.run_lanes.new.places c.rest.values (length c.args.values.now) c.rest.i c.chain.result
          c.rest.invariant.3,
    )

pub returns : goal.returns
returns c =
    let v = c.run_lanes.ensures.values in
    record {
      long = c.rest.invariant.0;
      there = λ i lt. c.rest.invariant.2 i (omega (arith, v));
    }
