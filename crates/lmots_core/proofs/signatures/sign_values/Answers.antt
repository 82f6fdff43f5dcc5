use Rattle.std.proofs.Common.{◌∙◌, slice_index, arith}
use Rattle.lmots_core.specs.Running.{value_in}
use Rattle.lmots_core.proofs.LeafLemmas.{shown}
use Rattle.lmots_core.proofs.signatures.sign_values.Goals as goal

pub returns : goal.returns
returns c =
    let l1 = c.starts.ensures.long in
    record {
      long = c.run.ensures.long ∙ l1;
      signed = λ i lt.
          shown c.args.kind c.args.seed.now c.args.q i c.args.digits.now (slice_index c.args.places.now i) (slice_index c.set_goals.new.goals i) (value_in c.starts.new.values i) (value_in c.run.new.values i)
          (c.requires.first i lt) (c.set_goals.ensures.set i lt) (c.starts.ensures.starts i (omega arith)) (c.run.ensures.there i (omega (arith, l1)));
    }
