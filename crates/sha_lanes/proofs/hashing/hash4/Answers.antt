use Rattle.std.proofs.Common.{◌≡◌, ◌<◌, ℕ, List, [], ◌∷◌, ap, ◌∙◌}
use Rattle.sha2.specs.Sha256.{compress, digest_bytes, initial_hash_256}
use Rattle.sha_lanes.specs.Lanes.{vector, lane, HaveBlocks}
use Rattle.sha_lanes.proofs.HashLemmas.{each4, one_block, windows}
use Rattle.sha_lanes.proofs.hashing.hash4.Goals as goal

pub returns : goal.returns
returns c =
    let words : List (List ℕ) = c.args.words.now in
    let rows : List (List ℕ) = c.row.result ∷ c.row-2.result ∷ c.row-3.result ∷ c.row-4.result ∷ [] in
    let split : (i : ℕ) → i < 4 → vector rows i ≡ lane c.compress-v.result i =
    each4 (λ i. vector rows i ≡ lane c.compress-v.result i) c.row.ensures c.row-2.ensures c.row-3.ensures c.row-4.ensures in
    let hashed : (b : ℕ → List ℕ) → HaveBlocks words b → (i : ℕ) → i < 4 → vector rows i ≡ compress initial_hash_256 (b i) =
    λ b held i lt. split i lt ∙ c.compress-v.ensures b (windows words b c.told-words held) i lt ∙ ap (λ (h : List ℕ). compress h (b i)) (c.initial4.ensures i lt) in
    record {
      blocks = hashed;
      messages = λ b m held i lt short padded. one_block (m i) (b i) _ short padded (ap (λ (h : List ℕ). digest_bytes h 8) (hashed b held i lt));
    }
