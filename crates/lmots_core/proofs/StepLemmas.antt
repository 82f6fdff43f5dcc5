-- The words of the blocks that steps hash.
use Rattle.std.proofs.Common.{◌≡◌, ℕ, zero, suc, ◌+◌, ◌*◌, ◌/◌, ◌%◌, ◌^◌, ◌<◌, ◌≤◌, List, [], ◌∷◌, ◌++◌, length, slice_index, refl, ap, sym, ◌∙◌, arith, length-append, w32, Fits}
use Rattle.std.specs.Int.{w16, to_be_bytes}
use Rattle.std.proofs.lemmas.Nat.{from_be_bytes-to_be_bytes_4}
use Rattle.sha2.specs.Sha256.{word_at, digest_bytes, padded_message}
use Rattle.sha_lanes.specs.Lanes.{quad}
use Rattle.std.specs.Simd.Lanes.{Each1}
use Rattle.sha_lanes.proofs.QuadLemmas.{quad_eq, lane_below}
use Rattle.sha_lanes.proofs.RoundLemmas.{at_lane}
use Rattle.lmots_core.specs.Running.{three_and_one, head_word, step_message}

-- what holds of sixteen words
pub each16 : (P : ℕ → Type 0) → P 0 → P 1 → P 2 → P 3 → P 4 → P 5 → P 6 → P 7 → P 8 → P 9 → P 10 → P 11 → P 12 → P 13 → P 14 → P 15 → (i : ℕ) → i < 16 → P i
each16 P p0 p1 p2 p3 p4 p5 p6 p7 p8 p9 p10 p11 p12 p13 p14 p15 zero h = p0
each16 P p0 p1 p2 p3 p4 p5 p6 p7 p8 p9 p10 p11 p12 p13 p14 p15 (suc zero) h = p1
each16 P p0 p1 p2 p3 p4 p5 p6 p7 p8 p9 p10 p11 p12 p13 p14 p15 (suc (suc zero)) h = p2
each16 P p0 p1 p2 p3 p4 p5 p6 p7 p8 p9 p10 p11 p12 p13 p14 p15 (suc (suc (suc zero))) h = p3
each16 P p0 p1 p2 p3 p4 p5 p6 p7 p8 p9 p10 p11 p12 p13 p14 p15 (suc (suc (suc (suc zero)))) h = p4
each16 P p0 p1 p2 p3 p4 p5 p6 p7 p8 p9 p10 p11 p12 p13 p14 p15 (suc (suc (suc (suc (suc zero))))) h = p5
each16 P p0 p1 p2 p3 p4 p5 p6 p7 p8 p9 p10 p11 p12 p13 p14 p15 (suc (suc (suc (suc (suc (suc zero)))))) h = p6
each16 P p0 p1 p2 p3 p4 p5 p6 p7 p8 p9 p10 p11 p12 p13 p14 p15 (suc (suc (suc (suc (suc (suc (suc zero))))))) h = p7
each16 P p0 p1 p2 p3 p4 p5 p6 p7 p8 p9 p10 p11 p12 p13 p14 p15 (suc (suc (suc (suc (suc (suc (suc (suc zero)))))))) h = p8
each16 P p0 p1 p2 p3 p4 p5 p6 p7 p8 p9 p10 p11 p12 p13 p14 p15 (suc (suc (suc (suc (suc (suc (suc (suc (suc zero))))))))) h = p9
each16 P p0 p1 p2 p3 p4 p5 p6 p7 p8 p9 p10 p11 p12 p13 p14 p15 (suc (suc (suc (suc (suc (suc (suc (suc (suc (suc zero)))))))))) h = p10
each16 P p0 p1 p2 p3 p4 p5 p6 p7 p8 p9 p10 p11 p12 p13 p14 p15 (suc (suc (suc (suc (suc (suc (suc (suc (suc (suc (suc zero))))))))))) h = p11
each16 P p0 p1 p2 p3 p4 p5 p6 p7 p8 p9 p10 p11 p12 p13 p14 p15 (suc (suc (suc (suc (suc (suc (suc (suc (suc (suc (suc (suc zero)))))))))))) h = p12
each16 P p0 p1 p2 p3 p4 p5 p6 p7 p8 p9 p10 p11 p12 p13 p14 p15 (suc (suc (suc (suc (suc (suc (suc (suc (suc (suc (suc (suc (suc zero))))))))))))) h = p13
each16 P p0 p1 p2 p3 p4 p5 p6 p7 p8 p9 p10 p11 p12 p13 p14 p15 (suc (suc (suc (suc (suc (suc (suc (suc (suc (suc (suc (suc (suc (suc zero)))))))))))))) h = p14
each16 P p0 p1 p2 p3 p4 p5 p6 p7 p8 p9 p10 p11 p12 p13 p14 p15 (suc (suc (suc (suc (suc (suc (suc (suc (suc (suc (suc (suc (suc (suc (suc zero))))))))))))))) h = p15
each16 P p0 p1 p2 p3 p4 p5 p6 p7 p8 p9 p10 p11 p12 p13 p14 p15 (suc (suc (suc (suc (suc (suc (suc (suc (suc (suc (suc (suc (suc (suc (suc (suc i)))))))))))))))) h = absurd (omega arith)

-- the words of a step's block
abbrev pub block_list : List ℕ → ℕ → ℕ → ℕ → List ℕ → List ℕ
block_list id q c j v =
    word_at id 0 ∷ word_at id 4 ∷ word_at id 8 ∷ word_at id 12 ∷ q ∷ head_word c j (slice_index v 0)
    ∷ three_and_one (slice_index v 0) (slice_index v 1) ∷ three_and_one (slice_index v 1) (slice_index v 2) ∷ three_and_one (slice_index v 2) (slice_index v 3) ∷ three_and_one (slice_index v 3) (slice_index v 4)
    ∷ three_and_one (slice_index v 4) (slice_index v 5) ∷ three_and_one (slice_index v 5) (slice_index v 6) ∷ three_and_one (slice_index v 6) (slice_index v 7)
    ∷ three_and_one (slice_index v 7) 0x80000000 ∷ 0 ∷ 440 ∷ []

block_of : (a0 a1 a2 a3 a4 a5 a6 a7 a8 a9 a10 a11 a12 a13 a14 a15 q c j : ℕ) (v : List ℕ) → q < 2 ^ 32 → (t : ℕ) → t < 16
    → slice_index (block_list (a0 ∷ a1 ∷ a2 ∷ a3 ∷ a4 ∷ a5 ∷ a6 ∷ a7 ∷ a8 ∷ a9 ∷ a10 ∷ a11 ∷ a12 ∷ a13 ∷ a14 ∷ a15 ∷ []) q c j v) t ≡ word_at (padded_message (step_message (a0 ∷ a1 ∷ a2 ∷ a3 ∷ a4 ∷ a5 ∷ a6 ∷ a7 ∷ a8 ∷ a9 ∷ a10 ∷ a11 ∷ a12 ∷ a13 ∷ a14 ∷ a15 ∷ []) q c j (digest_bytes v 8))) (4 * t)
unfolding digest_bytes
block_of a0 a1 a2 a3 a4 a5 a6 a7 a8 a9 a10 a11 a12 a13 a14 a15 q c j v fits =
    let id : List ℕ = a0 ∷ a1 ∷ a2 ∷ a3 ∷ a4 ∷ a5 ∷ a6 ∷ a7 ∷ a8 ∷ a9 ∷ a10 ∷ a11 ∷ a12 ∷ a13 ∷ a14 ∷ a15 ∷ [] in
    each16 (λ t. slice_index (block_list id q c j v) t ≡ word_at (padded_message (step_message id q c j (digest_bytes v 8))) (4 * t))
    refl refl refl refl (sym (from_be_bytes-to_be_bytes_4 q fits)) refl refl refl refl refl refl refl refl refl refl refl

-- they are those of the message with its padding
pub block_words : (id : List ℕ) (q c j : ℕ) (v : List ℕ) → length id ≡ 16 → q < 2 ^ 32 → (t : ℕ) → t < 16
    → slice_index (block_list id q c j v) t ≡ word_at (padded_message (step_message id q c j (digest_bytes v 8))) (4 * t)
block_words [] q c j v long fits t lt = absurd (omega arith)
block_words (a0 ∷ []) q c j v long fits t lt = absurd (omega arith)
block_words (a0 ∷ a1 ∷ []) q c j v long fits t lt = absurd (omega arith)
block_words (a0 ∷ a1 ∷ a2 ∷ []) q c j v long fits t lt = absurd (omega arith)
block_words (a0 ∷ a1 ∷ a2 ∷ a3 ∷ []) q c j v long fits t lt = absurd (omega arith)
block_words (a0 ∷ a1 ∷ a2 ∷ a3 ∷ a4 ∷ []) q c j v long fits t lt = absurd (omega arith)
block_words (a0 ∷ a1 ∷ a2 ∷ a3 ∷ a4 ∷ a5 ∷ []) q c j v long fits t lt = absurd (omega arith)
block_words (a0 ∷ a1 ∷ a2 ∷ a3 ∷ a4 ∷ a5 ∷ a6 ∷ []) q c j v long fits t lt = absurd (omega arith)
block_words (a0 ∷ a1 ∷ a2 ∷ a3 ∷ a4 ∷ a5 ∷ a6 ∷ a7 ∷ []) q c j v long fits t lt = absurd (omega arith)
block_words (a0 ∷ a1 ∷ a2 ∷ a3 ∷ a4 ∷ a5 ∷ a6 ∷ a7 ∷ a8 ∷ []) q c j v long fits t lt = absurd (omega arith)
block_words (a0 ∷ a1 ∷ a2 ∷ a3 ∷ a4 ∷ a5 ∷ a6 ∷ a7 ∷ a8 ∷ a9 ∷ []) q c j v long fits t lt = absurd (omega arith)
block_words (a0 ∷ a1 ∷ a2 ∷ a3 ∷ a4 ∷ a5 ∷ a6 ∷ a7 ∷ a8 ∷ a9 ∷ a10 ∷ []) q c j v long fits t lt = absurd (omega arith)
block_words (a0 ∷ a1 ∷ a2 ∷ a3 ∷ a4 ∷ a5 ∷ a6 ∷ a7 ∷ a8 ∷ a9 ∷ a10 ∷ a11 ∷ []) q c j v long fits t lt = absurd (omega arith)
block_words (a0 ∷ a1 ∷ a2 ∷ a3 ∷ a4 ∷ a5 ∷ a6 ∷ a7 ∷ a8 ∷ a9 ∷ a10 ∷ a11 ∷ a12 ∷ []) q c j v long fits t lt = absurd (omega arith)
block_words (a0 ∷ a1 ∷ a2 ∷ a3 ∷ a4 ∷ a5 ∷ a6 ∷ a7 ∷ a8 ∷ a9 ∷ a10 ∷ a11 ∷ a12 ∷ a13 ∷ []) q c j v long fits t lt = absurd (omega arith)
block_words (a0 ∷ a1 ∷ a2 ∷ a3 ∷ a4 ∷ a5 ∷ a6 ∷ a7 ∷ a8 ∷ a9 ∷ a10 ∷ a11 ∷ a12 ∷ a13 ∷ a14 ∷ []) q c j v long fits t lt = absurd (omega arith)
block_words (a0 ∷ a1 ∷ a2 ∷ a3 ∷ a4 ∷ a5 ∷ a6 ∷ a7 ∷ a8 ∷ a9 ∷ a10 ∷ a11 ∷ a12 ∷ a13 ∷ a14 ∷ a15 ∷ []) q c j v long fits t lt = block_of a0 a1 a2 a3 a4 a5 a6 a7 a8 a9 a10 a11 a12 a13 a14 a15 q c j v fits t lt
block_words (a0 ∷ a1 ∷ a2 ∷ a3 ∷ a4 ∷ a5 ∷ a6 ∷ a7 ∷ a8 ∷ a9 ∷ a10 ∷ a11 ∷ a12 ∷ a13 ∷ a14 ∷ a15 ∷ a16 ∷ rest) q c j v long fits t lt = absurd (omega arith)

shift_of : (x b3 b2 b1 b0 n : ℕ) → x ≡ b3 * 16777216 + b2 * 65536 + b1 * 256 + b0 → b2 < 256 → b1 < 256 → b0 < 256 → n < 256
    → (x * 256 % 4294967296 + n) % 4294967296 ≡ b2 * 16777216 + b1 * 65536 + b0 * 256 + n
shift_of x b3 b2 b1 b0 n e h2 h1 h0 hn = omega arith

-- three bytes of one word and one of the next
pub shifted : (x y : ℕ) → x < 2 ^ 32 → y < 2 ^ 32 → (x * 2 ^ 8 % 2 ^ 32 + y / 2 ^ 24) % 2 ^ 32 ≡ three_and_one x y
shifted x y hx hy =
    let whole = from_be_bytes-to_be_bytes_4 x hx in
    let moved = shift_of x (x / 16777216 % 256) (x / 65536 % 256) (x / 256 % 256) (x % 256) (y / 16777216) (omega (arith, whole)) (omega arith) (omega arith) (omega arith) (omega arith) in
    omega (arith, moved)

pub straddled_quad : (x y : List ℕ) → Each1 (Fits w32) x → Each1 (Fits w32) y
    → quad (λ k. (slice_index x k * 2 ^ 8 % 2 ^ 32 + slice_index y k / 2 ^ 24) % 2 ^ 32) ≡ quad (λ k. three_and_one (slice_index x k) (slice_index y k))
straddled_quad x y fx fy = quad_eq _ _ (λ k. shifted (slice_index x k) (slice_index y k) (lane_below x fx k) (lane_below y fy k))

-- the number of a chain and a place, and a byte
pub headed : (i j x : ℕ) → i < 2 ^ 16 → j < 256 → x < 2 ^ 32 → (i * 2 ^ 16 + j * 2 ^ 8 + x / 2 ^ 24) % 2 ^ 32 ≡ head_word i j x
headed i j x hi hj hx = omega arith

-- what a step hashes is short enough for one block
pub length-step : (id : List ℕ) (q i j : ℕ) (words : List ℕ) → length id ≡ 16 → length (step_message id q i j (digest_bytes words 8)) ≤ 55
unfolding digest_bytes
length-step id q i j words long =
    let value : List ℕ = digest_bytes words 8 in
    let l1 = length-append (id ++ to_be_bytes w32 q ++ to_be_bytes w16 i ++ j ∷ []) value in
    let l2 = length-append (id ++ to_be_bytes w32 q ++ to_be_bytes w16 i) (j ∷ []) in
    let l3 = length-append (id ++ to_be_bytes w32 q) (to_be_bytes w16 i) in
    let l4 = length-append id (to_be_bytes w32 q) in
    let l5 : length value ≡ 32 = refl in
    omega (arith, l1, l2, l3, l4, l5)

-- lane i of words that straddle
pub straddled_lane : (s x y : List ℕ) (a b i : ℕ) → i < 4 → s ≡ quad (λ k. three_and_one (slice_index x k) (slice_index y k)) → slice_index x i ≡ a → slice_index y i ≡ b
    → slice_index s i ≡ three_and_one a b
straddled_lane s x y a b i lt e ex ey = at_lane s (λ k. three_and_one (slice_index x k) (slice_index y k)) i lt e ∙ rw (ex, ey) refl

-- lane i of words that begin with chains and places
pub heads_lane : (s x chains places : List ℕ) (a i : ℕ) → i < 4
    → s ≡ quad (λ k. head_word (slice_index chains k) (slice_index places k) (slice_index x k)) → slice_index x i ≡ a
    → slice_index s i ≡ head_word (slice_index chains i) (slice_index places i) a
heads_lane s x chains places a i lt e ex =
    at_lane s (λ k. head_word (slice_index chains k) (slice_index places k) (slice_index x k)) i lt e
    ∙ ap (λ (n : ℕ). head_word (slice_index chains i) (slice_index places i) n) ex

-- the bytes of a word are its own, whichever list it stands in
pub digest_same : (a b : List ℕ) (n : ℕ) → ((t : ℕ) → t < n → slice_index a t ≡ slice_index b t) → digest_bytes a n ≡ digest_bytes b n
unfolding digest_bytes
digest_same a b zero h = refl
digest_same a b (suc n) h = rw (digest_same a b n (λ t lt. h t (omega arith)), h n (omega arith)) refl
