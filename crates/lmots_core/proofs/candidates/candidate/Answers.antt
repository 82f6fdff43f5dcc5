use Rattle.std.proofs.Common.{◌∙◌, arith}
use Rattle.lmots_core.proofs.LeafLemmas.{all_same, count_le}
use Rattle.lmots_core.proofs.candidates.candidate.Goals as goal

pub candidate_in-requires-clause-last : goal.candidate_in-requires-clause-last
candidate_in-requires-clause-last c = λ i lt.
    let e = c.from-count.ensures in
    let f = c.chain_count.ensures in
    all_same 265 c.from-count.result c.top_digit-goals.result i (omega (arith, e, f)) (omega (arith, e, f, count_le c.args.kind)) ∙ c.top_digit-goals.ensures
