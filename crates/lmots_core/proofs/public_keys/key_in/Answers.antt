use Rattle.std.proofs.Common.{◌≡◌, ℕ, List, [], ◌∷◌, ◌++◌, ◌∙◌, ap, slice_index, length, arith}
use Rattle.std.specs.Int.{w32, to_be_bytes}
use Rattle.sha2.specs.Sha256.{sha256}
use Rattle.lmots_core.specs.Parameters.{chain_count}
use Rattle.lmots_core.specs.Chains.{joined, chain_end}
use Rattle.lmots_core.specs.OneTime.{key_of_ends}
use Rattle.lmots_core.proofs.ChainLemmas.{joined_same}
use Rattle.lmots_core.specs.Running.{value_in}
use Rattle.lmots_core.proofs.LeafLemmas.{ended}
use Rattle.lmots_core.proofs.public_keys.key_in.Goals as goal

pub returns : goal.returns
unfolding key_of_ends
returns c =
    let seed = c.args.seed.now in
    let q = c.args.q in
    let kind = c.args.kind in
    let front = seed.id ++ to_be_bytes w32 q ++ 0x80 ∷ 0x80 ∷ [] in
    let ends = c.run.new.values in
    let l1 = c.starts.ensures.long in
    let long : length ends ≡ chain_count kind = c.run.ensures.long ∙ l1 ∙ c.requires.values in
    let same : joined (value_in ends) (length ends) ≡ joined (chain_end kind seed q) (chain_count kind) =
    ap (joined (value_in ends)) long ∙ joined_same (value_in ends) (chain_end kind seed q) (chain_count kind) (λ i lt.
    ended kind seed q i (slice_index c.args.places.now i) (slice_index c.args.goals.now i) (value_in c.starts.new.values i) (value_in ends i)
    (c.requires.first i lt) (c.requires.last i lt) (c.starts.ensures.starts i (omega arith)) (c.run.ensures.there i (omega (arith, l1)))) in
    c.finalize.ensures _ (c.feed_values.ensures front c.key_hasher-hasher.ensures) ∙ ap (λ (l : List ℕ). sha256 (front ++ l)) same
