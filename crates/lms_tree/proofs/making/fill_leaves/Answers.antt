use Rattle.std.proofs.Common.{arith}
use Rattle.lmots_core.specs.OneTime.{public_key}
use Rattle.lms_tree.proofs.making.fill_leaves.Goals as goal

pub fours-init : goal.fours-init
fours-init c = λ k lt. absurd (omega arith)

pub fours-preserved : goal.fours-preserved
fours-preserved c =
    let keys = public_key c.args.ots c.args.seed.now in
    let own = c.publics_of-keys.ensures in
    let s1 = c.set_leaf.ensures keys (own 0 (omega arith)) c.fours.invariant in
    let s2 = c.set_leaf-in-fours.ensures keys (own 1 (omega arith)) s1 in
    let s3 = c.set_leaf-in-fours-2.ensures keys (own 2 (omega arith)) (λ k lt. s2 k (omega arith)) in
    let s4 = c.set_leaf-in-fours-3.ensures keys (own 3 (omega arith)) (λ k lt. s3 k (omega arith)) in
    λ k lt. s4 k (omega arith)

pub rest-init : goal.rest-init
rest-init c = λ k lt. c.fours.invariant k (omega arith)

pub rest-preserved : goal.rest-preserved
rest-preserved c = c.set_leaf-in-rest.ensures (public_key c.args.ots c.args.seed.now) c.public_of-key.ensures c.rest.invariant

pub returns : goal.returns
returns c = λ k lt. c.rest.invariant k (omega arith)
