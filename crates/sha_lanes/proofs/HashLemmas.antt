-- Messages that are one block with their padding.
use Rattle.std.proofs.Common.{◌≡◌, ℕ, zero, suc, ◌-◌, ◌*◌, ◌/◌, ◌%◌, ◌^◌, ◌<◌, ◌≤◌, List, [], ◌∷◌, length, take, replicate, refl, ap, sym, ◌∙◌, arith, length-append}
use Rattle.std.specs.Int.{w64, to_be_bytes}
use Rattle.std.proofs.lemmas.List.{take_all, length-replicate}
use Rattle.sha2.specs.Sha256.{compress, digest_bytes, hash_after, initial_hash_256, padded_message, padding, sha256}
use Rattle.sha2.proofs.Absorbing256.{hash_after_next}
use Rattle.sha2.proofs.Schedule256.{IsWindow_first}
use Rattle.sha_lanes.specs.Lanes.{quad, lane, HaveBlocks, AreWindows}
use Rattle.sha_lanes.proofs.QuadLemmas.{lane_at, length-lane}

-- what holds of four lanes
pub each4 : (P : ℕ → Type 0) → P 0 → P 1 → P 2 → P 3 → (i : ℕ) → i < 4 → P i
each4 P p0 p1 p2 p3 zero h = p0
each4 P p0 p1 p2 p3 (suc zero) h = p1
each4 P p0 p1 p2 p3 (suc (suc zero)) h = p2
each4 P p0 p1 p2 p3 (suc (suc (suc zero))) h = p3
each4 P p0 p1 p2 p3 (suc (suc (suc (suc i)))) h = absurd (omega arith)

-- the initial hash value in each lane
pub initial_lane : (i : ℕ) → i < 4
    → lane (quad (λ _. 0x6A09E667) ∷ quad (λ _. 0xBB67AE85) ∷ quad (λ _. 0x3C6EF372) ∷ quad (λ _. 0xA54FF53A) ∷ quad (λ _. 0x510E527F) ∷ quad (λ _. 0x9B05688C) ∷ quad (λ _. 0x1F83D9AB) ∷ quad (λ _. 0x5BE0CD19) ∷ []) i ≡ initial_hash_256
initial_lane = each4 (λ i. lane (quad (λ _. 0x6A09E667) ∷ quad (λ _. 0xBB67AE85) ∷ quad (λ _. 0x3C6EF372) ∷ quad (λ _. 0xA54FF53A) ∷ quad (λ _. 0x510E527F) ∷ quad (λ _. 0x9B05688C) ∷ quad (λ _. 0x1F83D9AB) ∷ quad (λ _. 0x5BE0CD19) ∷ []) i ≡ initial_hash_256) refl refl refl refl

-- the words of four blocks are the windows that the rounds begin with
pub windows : (w : List (List ℕ)) (b : ℕ → List ℕ) → length w ≡ 16 → HaveBlocks w b → AreWindows b w 16
windows w b long held = λ i lt. IsWindow_first (b i) (lane w i) (length-lane w i ∙ long) (λ t low. lane_at w i t ∙ held i lt t low)

-- a message of up to 55 bytes is one block with its padding
length-padded : (m : List ℕ) → length m ≤ 55 → length (padded_message m) ≡ 64
length-padded m short =
    let zeros : List ℕ = replicate ((119 - length m % 64) % 64) 0 in
    let both = length-append m (padding (length m)) in
    let tail = length-append (0x80 ∷ zeros) (to_be_bytes w64 (length m * 8 % 2 ^ 64)) in
    let many : length zeros ≡ (119 - length m % 64) % 64 = length-replicate ((119 - length m % 64) % 64) 0 in
    let eight : length (to_be_bytes w64 (length m * 8 % 2 ^ 64)) ≡ 8 = refl in
    omega (arith, both, tail, many, eight)

-- the digest of a message of one block
pub one_block : (m b d : List ℕ) → length m ≤ 55 → b ≡ padded_message m → d ≡ digest_bytes (compress initial_hash_256 b) 8 → d ≡ sha256 m
unfolding sha256 hash_after
one_block m b d short padded digested =
    let whole = length-padded m short in
    let one : length (padded_message m) / 64 ≡ 1 = omega (arith, whole) in
    let all : take 64 (padded_message m) ≡ padded_message m = take_all 64 (padded_message m) (omega (arith, whole)) in
    let after : hash_after initial_hash_256 (padded_message m) 1 ≡ compress initial_hash_256 (padded_message m) =
    hash_after_next initial_hash_256 (padded_message m) 0 ∙ ap (compress initial_hash_256) all in
    digested ∙ ap (λ (l : List ℕ). digest_bytes (compress initial_hash_256 l) 8) padded
    ∙ ap (λ (h : List ℕ). digest_bytes h 8) (sym after) ∙ ap (λ (n : ℕ). digest_bytes (hash_after initial_hash_256 (padded_message m) n) 8) (sym one)
