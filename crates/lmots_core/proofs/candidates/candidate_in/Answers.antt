use Rattle.std.proofs.Common.{◌≡◌, ℕ, List, [], ◌∷◌, ◌++◌, ◌∙◌, ap, slice_index, length, arith}
use Rattle.std.specs.Int.{w32, to_be_bytes}
use Rattle.sha2.specs.Sha256.{sha256}
use Rattle.lmots_core.specs.Parameters.{chain_count}
use Rattle.lmots_core.specs.Chains.{joined}
use Rattle.lmots_core.specs.OneTime.{key_of_ends, completed_value}
use Rattle.lmots_core.proofs.ChainLemmas.{joined_same}
use Rattle.lmots_core.proofs.DigitLemmas.{coef_le_top}
use Rattle.lmots_core.specs.Running.{value_in}
use Rattle.lmots_core.proofs.LeafLemmas.{completed}
use Rattle.lmots_core.proofs.candidates.candidate_in.Goals as goal

pub run-requires-clause-before : goal.run-requires-clause-before
run-requires-clause-before c = λ i lt.
    let l1 = c.load.ensures.values in
    let low = (c.load.ensures.loaded i (omega (arith, l1))).1 in
    let high = c.requires.last i (omega (arith, l1)) in
    rw (low, high) (coef_le_top c.args.kind c.args.digits.now i)

pub returns : goal.returns
unfolding key_of_ends
returns c =
    let id = c.args.id.now in
    let q = c.args.q in
    let kind = c.args.kind in
    let front = id ++ to_be_bytes w32 q ++ 0x80 ∷ 0x80 ∷ [] in
    let ends = c.run.new.values in
    let l1 = c.load.ensures.values in
    let y = completed_value kind id q c.args.digits.now c.args.signature.now in
    let long : length ends ≡ chain_count kind = c.run.ensures.long ∙ l1 ∙ c.requires.values in
    let same : joined (value_in ends) (length ends) ≡ joined y (chain_count kind) =
    ap (joined (value_in ends)) long ∙ joined_same (value_in ends) y (chain_count kind) (λ i lt.
    completed kind id q i c.args.digits.now c.args.signature.now (slice_index c.load.new.places i) (slice_index c.args.goals.now i) (value_in c.load.new.values i) (value_in ends i)
    (c.load.ensures.loaded i lt).1 (c.requires.last i lt) (c.load.ensures.loaded i lt).0 (c.run.ensures.there i (omega (arith, l1)))) in
    c.finalize.ensures _ (c.feed_values.ensures front c.key_hasher-hasher.ensures) ∙ ap (λ (l : List ℕ). sha256 (front ++ l)) same
