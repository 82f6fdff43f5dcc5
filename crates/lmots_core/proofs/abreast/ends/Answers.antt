use Rattle.std.proofs.Common.{◌≡◌, ℕ, slice_index, sym, ap, ◌∙◌, arith}
use Rattle.lmots_core.specs.Parameters.{top_digit}
use Rattle.lmots_core.specs.Chains.{chain, chain_start, chain_step}
use Rattle.lmots_core.proofs.ChainLemmas.{chain_none, chain_next}
use Rattle.lmots_core.proofs.abreast.ends.Goals as goal

pub steps-init : goal.steps-init
steps-init c = λ k lt.
    let q = slice_index c.args.leaves k in
    c.step_leaves-values.ensures k lt ∙ ap (chain_step c.args.seed.now.id q c.args.i 0xff) (c.secrets.ensures k lt)
    ∙ sym (chain_none c.args.seed.now.id q c.args.i 0 (chain_start c.args.seed.now q c.args.i))

pub steps-preserved : goal.steps-preserved
steps-preserved c = λ k lt.
    let q = slice_index c.args.leaves k in
    c.step_leaves-values-in-steps.ensures k lt ∙ ap (chain_step c.args.seed.now.id q c.args.i c.steps.j) (c.steps.invariant k lt)
    ∙ sym (chain_next c.args.seed.now.id q c.args.i c.steps.j (chain_start c.args.seed.now q c.args.i))

pub returns : goal.returns
returns c = λ k lt.
    let q = slice_index c.args.leaves k in
    let top = c.top_digit-j-end.ensures in
    let done : c.steps.j ≡ top_digit c.args.kind = omega (arith, top) in
    c.steps.invariant k lt ∙ ap (λ (n : ℕ). chain c.args.seed.now.id q c.args.i 0 n (chain_start c.args.seed.now q c.args.i)) done
