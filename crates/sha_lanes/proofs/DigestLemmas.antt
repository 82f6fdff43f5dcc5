-- Words of bytes, and bytes of words.
use Rattle.std.proofs.Common.{◌≡◌, ℕ, zero, suc, ◌+◌, ◌*◌, ◌<◌, ◌≤◌, List, [], ◌∷◌, ◌++◌, length, take, slice_index, refl, ap, sym, ◌∙◌, arith, append_assoc}
use Rattle.std.specs.Int.{w32, to_be_bytes}
use Rattle.std.proofs.lemmas.Nat.{be_bytes_4}
use Rattle.std.proofs.lemmas.List.{take_more}
use Rattle.std.proofs.lemmas.Grind.{same_number_lists}
use Rattle.sha2.specs.Sha256.{word_at, digest_bytes}
use Rattle.sha_lanes.specs.Lanes.{lane, vector}
use Rattle.sha_lanes.proofs.QuadLemmas.{lane_at, length-lane}

-- what holds of eight words
pub each8 : (P : ℕ → Type 0) → P 0 → P 1 → P 2 → P 3 → P 4 → P 5 → P 6 → P 7 → (i : ℕ) → i < 8 → P i
each8 P p0 p1 p2 p3 p4 p5 p6 p7 zero h = p0
each8 P p0 p1 p2 p3 p4 p5 p6 p7 (suc zero) h = p1
each8 P p0 p1 p2 p3 p4 p5 p6 p7 (suc (suc zero)) h = p2
each8 P p0 p1 p2 p3 p4 p5 p6 p7 (suc (suc (suc zero))) h = p3
each8 P p0 p1 p2 p3 p4 p5 p6 p7 (suc (suc (suc (suc zero)))) h = p4
each8 P p0 p1 p2 p3 p4 p5 p6 p7 (suc (suc (suc (suc (suc zero))))) h = p5
each8 P p0 p1 p2 p3 p4 p5 p6 p7 (suc (suc (suc (suc (suc (suc zero)))))) h = p6
each8 P p0 p1 p2 p3 p4 p5 p6 p7 (suc (suc (suc (suc (suc (suc (suc zero))))))) h = p7
each8 P p0 p1 p2 p3 p4 p5 p6 p7 (suc (suc (suc (suc (suc (suc (suc (suc i)))))))) h = absurd (omega arith)

-- the four bytes from byte i on
abbrev pub four : List ℕ → ℕ → List ℕ
four b i = slice_index b i ∷ slice_index b (i + 1) ∷ slice_index b (i + 2) ∷ slice_index b (i + 3) ∷ []

-- the bytes of the word at byte i
pub bytes_at : (b : List ℕ) (i w : ℕ) → ((k : ℕ) → slice_index b k < 256) → w ≡ word_at b i → to_be_bytes w32 w ≡ four b i
bytes_at b i w small e = be_bytes_4 (four b i) w refl below e
  where
    below : (k : ℕ) → slice_index (four b i) k < 256
    below zero = small i
    below (suc zero) = small (i + 1)
    below (suc (suc zero)) = small (i + 2)
    below (suc (suc (suc zero))) = small (i + 3)
    below (suc (suc (suc (suc k)))) = omega arith

-- four bytes more of a list
take_four : (d : List ℕ) (i : ℕ) → i + 4 ≤ length d → take (i + 4) d ≡ take i d ++ four d i
take_four d i fits =
    let e2 : i + 2 ≡ i + 1 + 1 = omega arith in
    let e3 : i + 3 ≡ i + 2 + 1 = omega arith in
    let e4 : i + 4 ≡ i + 3 + 1 = omega arith in
    let t1 : take (i + 1) d ≡ take i d ++ slice_index d i ∷ [] = take_more d i 0 (omega arith) in
    let t2 : take (i + 2) d ≡ take (i + 1) d ++ slice_index d (i + 1) ∷ [] = ap (λ (n : ℕ). take n d) e2 ∙ take_more d (i + 1) 0 (omega arith) in
    let t3 : take (i + 3) d ≡ take (i + 2) d ++ slice_index d (i + 2) ∷ [] = ap (λ (n : ℕ). take n d) e3 ∙ take_more d (i + 2) 0 (omega arith) in
    let t4 : take (i + 4) d ≡ take (i + 3) d ++ slice_index d (i + 3) ∷ [] = ap (λ (n : ℕ). take n d) e4 ∙ take_more d (i + 3) 0 (omega arith) in
    rw (t4, t3, t2, t1) (simp append_assoc)

-- words whose bytes are those of a list
pub digest_from : (d w : List ℕ) (n : ℕ) → 4 * n ≤ length d → ((k : ℕ) → k < n → to_be_bytes w32 (slice_index w k) ≡ four d (4 * k)) → digest_bytes w n ≡ take (4 * n) d
unfolding digest_bytes
digest_from d w zero fits h = refl
digest_from d w (suc n) fits h =
    let more : 4 * n + 4 ≡ 4 * suc n = omega arith in
    ap (λ (l : List ℕ). l ++ to_be_bytes w32 (slice_index w n)) (digest_from d w n (omega arith) (λ k lt. h k (omega arith)))
    ∙ ap (λ (l : List ℕ). take (4 * n) d ++ l) (h n (omega arith))
    ∙ sym (take_four d (4 * n) (omega arith)) ∙ ap (λ (m : ℕ). take m d) more

-- a lane of eight vectors
pub lane_of : (v : List (List ℕ)) (k : ℕ) → length v ≡ 8
    → slice_index (vector v 0) k ∷ slice_index (vector v 1) k ∷ slice_index (vector v 2) k ∷ slice_index (vector v 3) k
    ∷ slice_index (vector v 4) k ∷ slice_index (vector v 5) k ∷ slice_index (vector v 6) k ∷ slice_index (vector v 7) k ∷ [] ≡ lane v k
lane_of v k long =
    let words : List ℕ = slice_index (vector v 0) k ∷ slice_index (vector v 1) k ∷ slice_index (vector v 2) k ∷ slice_index (vector v 3) k
    ∷ slice_index (vector v 4) k ∷ slice_index (vector v 5) k ∷ slice_index (vector v 6) k ∷ slice_index (vector v 7) k ∷ [] in
    same_number_lists words (lane v k) (sym (length-lane v k ∙ long)) (each8 (λ j. slice_index words j ≡ slice_index (lane v k) j)
    (sym (lane_at v k 0)) (sym (lane_at v k 1)) (sym (lane_at v k 2)) (sym (lane_at v k 3))
    (sym (lane_at v k 4)) (sym (lane_at v k 5)) (sym (lane_at v k 6)) (sym (lane_at v k 7)))
