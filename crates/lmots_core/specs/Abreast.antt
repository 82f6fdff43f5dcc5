-- The hashes of four public keys in the making, one in each lane. Only the contracts of private functions speak of these.
use Rattle.std.specs.Prelude.{ℕ, ◌≡◌, ◌<◌, ◌*◌, ◌%◌, ◌^◌, List, ◌++◌, drop, length, slice_index}
use Rattle.std.specs.Int.{w32, to_be_bytes}
use Rattle.sha2.specs.Sha256.{IsAbsorbed, digest_bytes, initial_hash_256}
use Rattle.sha_lanes.specs.Lanes.{lane}

-- lane k has taken the whole words of bytes m: its hash value has absorbed their blocks, and the words left stand in
-- the block that fills
abbrev pub IsTaken : List (List ℕ) → List (List ℕ) → ℕ → ℕ → List ℕ → Type 0
IsTaken state block filled k m =
    IsAbsorbed initial_hash_256 (lane state k) (digest_bytes (lane block k) filled) m
    × (length m % 64 ≡ 4 * filled) × ((t : ℕ) → t < filled → slice_index (lane block k) t < 2 ^ 32)

-- each lane k has taken bytes m k
abbrev pub AreTaken : List (List ℕ) → List (List ℕ) → ℕ → (ℕ → List ℕ) → Type 0
AreTaken state block filled m = (k : ℕ) → k < 4 → IsTaken state block filled k (m k)

-- each lane k holds message m k, whose last two bytes, those of a word of `last`, wait for the word that they begin
pub record HoldMessages (state block : List (List ℕ)) (filled : ℕ) (last : List ℕ) (m : ℕ → List ℕ) : Type 0 where
  pub words : ℕ → List ℕ
  pub taken : AreTaken state block filled words
  pub whole : (k : ℕ) → k < 4 → m k ≡ words k ++ drop 2 (to_be_bytes w32 (slice_index last k))
