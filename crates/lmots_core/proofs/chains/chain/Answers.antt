use Rattle.std.proofs.Common.{sym, ◌∙◌, ap, arith}
use Rattle.sha2.specs.Sha256.{digest_bytes}
use Rattle.lmots_core.specs.Chains.{chain_step}
use Rattle.lmots_core.proofs.ChainLemmas.{chain_start_none, chain_to_more}
use Rattle.lmots_core.proofs.chains.chain.Goals as goal

pub loop-j-init : goal.loop-j-init
loop-j-init c = sym (chain_start_none c.args.id.now c.args.q c.args.i c.args.from (digest_bytes c.args.value 8))

pub loop-j-preserved : goal.loop-j-preserved
loop-j-preserved c =
    c.step4.ensures 0 (omega arith)
    ∙ ap (chain_step c.args.id.now c.args.q c.args.i c.loop-j.j) c.loop-j.invariant
    ∙ sym (chain_to_more c.args.id.now c.args.q c.args.i c.args.from c.loop-j.j (digest_bytes c.args.value 8) c.loop-j.auto.j)
