use Rattle.std.proofs.Common.{◌∙◌, slice_index, arith}
use Rattle.sha_lanes.specs.Lanes.{vector}
use Rattle.lmots_core.proofs.RunningLemmas.{stepped, AreOn_long}
use Rattle.lmots_core.proofs.chains.advance.Goals as goal

pub returns : goal.returns
returns c =
    let id = c.args.id.now in
    let q = c.args.q in
    let goals = c.args.goals.now in
    let places = c.args.places.now in
    let values = c.args.values.now in
    let at = c.args.at.now in
    record {
      values = c.commit-4.ensures.values ∙ c.commit-3.ensures.values ∙ c.commit-2.ensures.values ∙ c.commit.ensures.values;
      places = c.commit-4.ensures.places ∙ c.commit-3.ensures.places ∙ c.commit-2.ensures.places ∙ c.commit.ensures.places;
      on = λ from start on.
          let s0 = stepped id q from start goals places values (slice_index at 0) (vector c.step4-next.result 0) (on (slice_index at 0) (c.requires.at 0 (omega arith))) (c.step4-next.ensures 0 (omega arith)) in
          let s1 = stepped id q from start goals places values (slice_index at 1) (vector c.step4-next.result 1) (on (slice_index at 1) (c.requires.at 1 (omega arith))) (c.step4-next.ensures 1 (omega arith)) in
          let s2 = stepped id q from start goals places values (slice_index at 2) (vector c.step4-next.result 2) (on (slice_index at 2) (c.requires.at 2 (omega arith))) (c.step4-next.ensures 2 (omega arith)) in
          let s3 = stepped id q from start goals places values (slice_index at 3) (vector c.step4-next.result 3) (on (slice_index at 3) (c.requires.at 3 (omega arith))) (c.step4-next.ensures 3 (omega arith)) in
          let l1 = c.commit.ensures.values in
          let l2 = c.commit-2.ensures.values in
          let l3 = c.commit-3.ensures.values in
          let o1 = c.commit.ensures.on id q from start s0 on in
          let o2 = c.commit-2.ensures.on id q from start s1 (AreOn_long id q from start goals _ _ _ _ (omega (arith, l1)) o1) in
          let o3 = c.commit-3.ensures.on id q from start s2 (AreOn_long id q from start goals _ _ _ _ (omega (arith, l1, l2)) o2) in
          let o4 = c.commit-4.ensures.on id q from start s3 (AreOn_long id q from start goals _ _ _ _ (omega (arith, l1, l2, l3)) o3) in
          AreOn_long id q from start goals _ _ _ _ (omega (arith, l1, l2, l3)) o4;
    }
