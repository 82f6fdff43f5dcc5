use Rattle.std.proofs.Common.{ℕ, ◌+◌, ◌∙◌, ap, arith}
use Rattle.lmots_core.specs.Chains.{chain_start, chain_step}
use Rattle.sha_lanes.specs.Lanes.{vector}
use Rattle.lmots_core.proofs.LeafLemmas.{fill4, length-four}
use Rattle.lmots_core.proofs.chains.starts.Goals as goal

pub starts-preserved : goal.starts-preserved
starts-preserved c =
    let n = c.step4-next in
    let at = c.min-at.result in
    let e = c.min-at.ensures in
    let long = c.starts.invariant.0 in
    let from_seed = λ (i : ℕ). ap (chain_step c.args.seed.now.id c.args.q i 0xff) c.words_of-start.ensures in (
      length-four c.starts.values at (at + 1) (at + 2) (at + 3) _ _ _ _ ∙ long,
      λ k low lt.
          fill4 (λ j. chain_start c.args.seed.now c.args.q j) c.starts.values at (vector n.result 0) (vector n.result 1) (vector n.result 2) (vector n.result 3)
          (omega (arith, long, e)) (n.ensures 0 (omega arith) ∙ from_seed at) (n.ensures 1 (omega arith) ∙ from_seed (at + 1)) (n.ensures 2 (omega arith) ∙ from_seed (at + 2)) (n.ensures 3 (omega arith) ∙ from_seed (at + 3)) k
          (λ n0 n1 n2 n3. c.starts.invariant.1 k (omega (arith, long, e, n0, n1, n2, n3)) lt),
    )
