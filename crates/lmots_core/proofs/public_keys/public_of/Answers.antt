use Rattle.std.proofs.Common.{◌∙◌, arith}
use Rattle.lmots_core.proofs.LeafLemmas.{all_same, count_le}
use Rattle.lmots_core.proofs.public_keys.public_of.Goals as goal

pub key_in-requires-clause-first : goal.key_in-requires-clause-first
key_in-requires-clause-first c = λ i lt.
    let e = c.from-count.ensures in
    let f = c.chain_count.ensures in
    all_same 265 c.from-count.result 0 i (omega (arith, e, f)) (omega (arith, e, f, count_le c.args.kind))

pub key_in-requires-clause-last : goal.key_in-requires-clause-last
key_in-requires-clause-last c = λ i lt.
    let e = c.from-count.ensures in
    let f = c.chain_count.ensures in
    all_same 265 c.from-count.result c.top_digit-goals.result i (omega (arith, e, f)) (omega (arith, e, f, count_le c.args.kind)) ∙ c.top_digit-goals.ensures
