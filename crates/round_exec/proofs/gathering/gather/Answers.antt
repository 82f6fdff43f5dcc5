use Rattle.std.proofs.Common.{◌≡◌, ◌<◌, ◌++◌, ◌∷◌, [], sym, arith}
use Rattle.fab_rules.specs.declared.blocks.Block.{Block}
use Rattle.fab_machine.specs.Rounds.{block_of}
use Rattle.round_exec.proofs.Gathered.{front_step}
use Rattle.round_exec.proofs.gathering.gather.Goals as goal

pub loop-before-preserved : goal.loop-before-preserved
loop-before-preserved c =
    let below : c.loop-before.before < c.args.clusters = omega arith in
    let k = c.in-Some.cert.now in
    let b : Block = record { round = c.args.round; cluster = k.cluster; batch = c.in_ok-copy-in-Some.field-0 } in
    let same : b ≡ block_of c.args.round k = (λ i. record { round = c.args.round; cluster = k.cluster; batch = c.in_ok-copy-in-Some.ensures i }) in
    let grown : c.push.new.self.items ≡ c.loop-before.blocks.items ++ b ∷ [] = c.in_ok-push-in-Some.ensures.items in
    front_step c.args.certificates.now _ c.push.new.self.items c.args.round c.args.clusters c.loop-before.before k b _
    below (sym c.in-Some.ensures) same grown c.loop-before.invariant
