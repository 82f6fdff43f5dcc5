use Rattle.std.proofs.Common.{◌≡◌, ◌<◌, ℕ, List, ap, ◌∙◌}
use Rattle.sha2.specs.Sha256.{compress, digest_bytes, initial_hash_256}
use Rattle.sha_lanes.specs.Lanes.{lane, HaveBlocks}
use Rattle.sha_lanes.proofs.HashLemmas.{one_block, windows}
use Rattle.sha_lanes.proofs.hashing.hash_lanes.Goals as goal

pub returns : goal.returns
returns c =
    let words : List (List ℕ) = c.args.words.now in
    let hashed : (b : ℕ → List ℕ) → HaveBlocks words b → (i : ℕ) → i < 4 → lane c.compress.result i ≡ compress initial_hash_256 (b i) =
    λ b held i lt. c.compress.ensures b (windows words b c.told-words held) i lt ∙ ap (λ (h : List ℕ). compress h (b i)) (c.initial4.ensures i lt) in
    record {
      blocks = hashed;
      messages = λ b m held i lt short padded. one_block (m i) (b i) _ short padded (ap (λ (h : List ℕ). digest_bytes h 8) (hashed b held i lt));
    }
