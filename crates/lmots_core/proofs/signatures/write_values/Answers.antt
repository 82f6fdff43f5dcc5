use Rattle.std.proofs.Common.{arith}
use Rattle.lmots_core.proofs.LeafLemmas.{all_same, count_le}
use Rattle.lmots_core.proofs.signatures.write_values.Goals as goal

pub write_in-requires-clause-first : goal.write_in-requires-clause-first
write_in-requires-clause-first c = λ i lt.
    let e = c.from-count.ensures in
    let f = c.chain_count.ensures in
    all_same 265 c.from-count.result 0 i (omega (arith, e, f)) (omega (arith, e, f, count_le c.args.kind))
