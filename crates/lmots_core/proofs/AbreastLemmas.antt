-- Four messages hashed word by word.
use Rattle.std.proofs.Common.{◌≡◌, ℕ, zero, suc, ◌+◌, ◌-◌, ◌*◌, ◌/◌, ◌%◌, ◌^◌, ◌<◌, ◌≤◌, List, [], ◌∷◌, ◌++◌, length, take, drop, replicate, slice_index, slice_set, refl, sym, ap, ◌∙◌, arith, add-one, length-append, append_assoc, subst, inl, inr, w32, Fits}
use Rattle.std.specs.Int.{w64, to_be_bytes}
use Rattle.std.specs.Simd.Lanes.{Each1}
use Rattle.std.proofs.lemmas.Bool.{cases_eq}
use Rattle.std.proofs.lemmas.List.{take_all, append-nil, get_or-set_same, get_or-set_other, replicate-append-replicate}
use Rattle.std.proofs.lemmas.Nat.{be_bytes_4, from_be_bytes-to_be_bytes_4}
use Rattle.sha2.specs.Sha256.{IsAbsorbed, compress, digest_bytes, hash_after, padded_message, word_at}
use Rattle.sha2.proofs.Absorbing256.{IsAbsorbed_short, IsAbsorbed_fill}
use Rattle.sha_lanes.specs.Lanes.{quad, lane, vector, HaveBlocks}
use Rattle.sha_lanes.proofs.QuadLemmas.{lane_at, lane_set, length-lane, lane_below, quad_eq, slice_quad}
use Rattle.sha_lanes.proofs.RoundLemmas.{at_lane}
use Rattle.sha_lanes.proofs.DigestLemmas.{bytes_at, digest_from, each8}
use Rattle.lmots_core.specs.Running.{two_and_two}
use Rattle.lmots_core.specs.Abreast.{AreTaken, HoldMessages, IsTaken}
use Rattle.lmots_core.proofs.StepLemmas.{each16, digest_same}

-- ---- words of two halves

shift_of : (x b3 b2 b1 b0 n : ℕ) → x ≡ b3 * 16777216 + b2 * 65536 + b1 * 256 + b0 → b2 < 256 → b1 < 256 → b0 < 256 → n < 65536
    → (x * 65536 % 4294967296 + n) % 4294967296 ≡ b1 * 16777216 + b0 * 65536 + n
shift_of x b3 b2 b1 b0 n e h2 h1 h0 hn = omega arith

-- two bytes of one word and two of the next
halved : (x y : ℕ) → x < 2 ^ 32 → y < 2 ^ 32 → (x * 2 ^ 16 % 2 ^ 32 + y / 2 ^ 16) % 2 ^ 32 ≡ two_and_two x y
halved x y hx hy =
    let whole = from_be_bytes-to_be_bytes_4 x hx in
    let moved = shift_of x (x / 16777216 % 256) (x / 65536 % 256) (x / 256 % 256) (x % 256) (y / 65536) (omega (arith, whole)) (omega arith) (omega arith) (omega arith) (omega arith) in
    omega (arith, moved)

pub halves_quad : (x y : List ℕ) → Each1 (Fits w32) x → Each1 (Fits w32) y
    → quad (λ k. (slice_index x k * 2 ^ 16 % 2 ^ 32 + slice_index y k / 2 ^ 16) % 2 ^ 32) ≡ quad (λ k. two_and_two (slice_index x k) (slice_index y k))
halves_quad x y fx fy = quad_eq _ _ (λ k. halved (slice_index x k) (slice_index y k) (lane_below x fx k) (lane_below y fy k))

-- the bytes of such a word
be_halves : (x y : ℕ) → to_be_bytes w32 (two_and_two x y) ≡ drop 2 (to_be_bytes w32 x) ++ take 2 (to_be_bytes w32 y)
be_halves x y = be_bytes_4 (drop 2 (to_be_bytes w32 x) ++ take 2 (to_be_bytes w32 y)) (two_and_two x y) refl below refl
  where
    below : (k : ℕ) → slice_index (drop 2 (to_be_bytes w32 x) ++ take 2 (to_be_bytes w32 y)) k < 256
    below zero = omega arith
    below (suc zero) = omega arith
    below (suc (suc zero)) = omega arith
    below (suc (suc (suc zero))) = omega arith
    below (suc (suc (suc (suc k)))) = omega arith

be_of : (w x y : ℕ) → w ≡ two_and_two x y → to_be_bytes w32 w ≡ drop 2 (to_be_bytes w32 x) ++ take 2 (to_be_bytes w32 y)
be_of w x y e = ap (to_be_bytes w32) e ∙ be_halves x y

nine : (p a b c d e f g h i : List ℕ) → p ++ a ++ b ++ c ++ d ++ e ++ f ++ g ++ h ++ i ≡ p ++ (a ++ (b ++ (c ++ (d ++ (e ++ (f ++ (g ++ (h ++ i))))))))
nine p a b c d e f g h i = simp append_assoc

-- lane k of words of two halves
pub halves_at : (s x y : List ℕ) (k : ℕ) → k < 4 → s ≡ quad (λ j. two_and_two (slice_index x j) (slice_index y j)) → slice_index s k ≡ two_and_two (slice_index x k) (slice_index y k)
halves_at s x y k lt e = at_lane s (λ j. two_and_two (slice_index x j) (slice_index y j)) k lt e

-- eight words more of a message, of which two bytes wait
joined_halves : (m p : List ℕ) (l v0 v1 v2 v3 v4 v5 v6 v7 w0 w1 w2 w3 w4 w5 w6 w7 : ℕ) → m ≡ p ++ drop 2 (to_be_bytes w32 l)
    → w0 ≡ two_and_two l v0 → w1 ≡ two_and_two v0 v1 → w2 ≡ two_and_two v1 v2 → w3 ≡ two_and_two v2 v3
    → w4 ≡ two_and_two v3 v4 → w5 ≡ two_and_two v4 v5 → w6 ≡ two_and_two v5 v6 → w7 ≡ two_and_two v6 v7
    → m ++ digest_bytes (v0 ∷ v1 ∷ v2 ∷ v3 ∷ v4 ∷ v5 ∷ v6 ∷ v7 ∷ []) 8
    ≡ p ++ to_be_bytes w32 w0 ++ to_be_bytes w32 w1 ++ to_be_bytes w32 w2 ++ to_be_bytes w32 w3 ++ to_be_bytes w32 w4 ++ to_be_bytes w32 w5 ++ to_be_bytes w32 w6 ++ to_be_bytes w32 w7 ++ drop 2 (to_be_bytes w32 v7)
unfolding digest_bytes
joined_halves m p l v0 v1 v2 v3 v4 v5 v6 v7 w0 w1 w2 w3 w4 w5 w6 w7 em e0 e1 e2 e3 e4 e5 e6 e7 =
    let h = λ (x y : ℕ). drop 2 (to_be_bytes w32 x) ++ take 2 (to_be_bytes w32 y) in
    let d : List ℕ = digest_bytes (v0 ∷ v1 ∷ v2 ∷ v3 ∷ v4 ∷ v5 ∷ v6 ∷ v7 ∷ []) 8 in
    let left : m ++ d ≡ p ++ (drop 2 (to_be_bytes w32 l) ++ d) = ap (λ (x : List ℕ). x ++ d) em ∙ append_assoc p (drop 2 (to_be_bytes w32 l)) d in
    let right = nine p (h l v0) (h v0 v1) (h v1 v2) (h v2 v3) (h v3 v4) (h v4 v5) (h v5 v6) (h v6 v7) (drop 2 (to_be_bytes w32 v7)) in
    rw (be_of w0 l v0 e0, be_of w1 v0 v1 e1, be_of w2 v1 v2 e2, be_of w3 v2 v3 e3, be_of w4 v3 v4 e4, be_of w5 v4 v5 e5, be_of w6 v5 v6 e6, be_of w7 v6 v7 e7)
    (left ∙ sym right)

-- the same of lane k of eight vectors
pub ends_whole : (m p : List ℕ) (l : ℕ) (v : List (List ℕ)) (k w0 w1 w2 w3 w4 w5 w6 w7 : ℕ) → m ≡ p ++ drop 2 (to_be_bytes w32 l)
    → w0 ≡ two_and_two l (slice_index (vector v 0) k) → w1 ≡ two_and_two (slice_index (vector v 0) k) (slice_index (vector v 1) k)
    → w2 ≡ two_and_two (slice_index (vector v 1) k) (slice_index (vector v 2) k) → w3 ≡ two_and_two (slice_index (vector v 2) k) (slice_index (vector v 3) k)
    → w4 ≡ two_and_two (slice_index (vector v 3) k) (slice_index (vector v 4) k) → w5 ≡ two_and_two (slice_index (vector v 4) k) (slice_index (vector v 5) k)
    → w6 ≡ two_and_two (slice_index (vector v 5) k) (slice_index (vector v 6) k) → w7 ≡ two_and_two (slice_index (vector v 6) k) (slice_index (vector v 7) k)
    → m ++ digest_bytes (lane v k) 8
    ≡ p ++ to_be_bytes w32 w0 ++ to_be_bytes w32 w1 ++ to_be_bytes w32 w2 ++ to_be_bytes w32 w3 ++ to_be_bytes w32 w4 ++ to_be_bytes w32 w5 ++ to_be_bytes w32 w6 ++ to_be_bytes w32 w7 ++ drop 2 (to_be_bytes w32 (slice_index (vector v 7) k))
ends_whole m p l v k w0 w1 w2 w3 w4 w5 w6 w7 em e0 e1 e2 e3 e4 e5 e6 e7 =
    let s = λ (j : ℕ). slice_index (vector v j) k in
    let words : List ℕ = s 0 ∷ s 1 ∷ s 2 ∷ s 3 ∷ s 4 ∷ s 5 ∷ s 6 ∷ s 7 ∷ [] in
    let same : digest_bytes (lane v k) 8 ≡ digest_bytes words 8 = digest_same (lane v k) words 8 (each8 (λ t. slice_index (lane v k) t ≡ slice_index words t)
    (lane_at v k 0) (lane_at v k 1) (lane_at v k 2) (lane_at v k 3) (lane_at v k 4) (lane_at v k 5) (lane_at v k 6) (lane_at v k 7)) in
    ap (λ (x : List ℕ). m ++ x) same ∙ joined_halves m p l (s 0) (s 1) (s 2) (s 3) (s 4) (s 5) (s 6) (s 7) w0 w1 w2 w3 w4 w5 w6 w7 em e0 e1 e2 e3 e4 e5 e6 e7

-- ---- a word more

length-bytes : (h : List ℕ) (n : ℕ) → length (digest_bytes h n) ≡ 4 * n
unfolding digest_bytes
length-bytes h zero = refl
length-bytes h (suc n) =
    let before = length-bytes h n in
    let last : length (to_be_bytes w32 (slice_index h n)) ≡ 4 = refl in
    omega (arith, before, last, length-append (digest_bytes h n) (to_be_bytes w32 (slice_index h n)))

digest_next : (a b : List ℕ) (n w : ℕ) → ((t : ℕ) → t < n → slice_index a t ≡ slice_index b t) → slice_index a n ≡ w
    → digest_bytes a (n + 1) ≡ digest_bytes b n ++ to_be_bytes w32 w
unfolding digest_bytes
digest_next a b n w same new = rw (add-one, digest_same a b n same, new) refl

-- the words of a block are those of its bytes
word_of : (w : List ℕ) → ((t : ℕ) → t < 16 → slice_index w t < 2 ^ 32) → (t : ℕ) → t < 16 → slice_index w t ≡ word_at (digest_bytes w 16) (4 * t)
unfolding digest_bytes
word_of w fits =
    let of = λ (t : ℕ) (lt : t < 16). sym (from_be_bytes-to_be_bytes_4 (slice_index w t) (fits t lt)) in
    each16 (λ t. slice_index w t ≡ word_at (digest_bytes w 16) (4 * t))
    (of 0 (omega arith)) (of 1 (omega arith)) (of 2 (omega arith)) (of 3 (omega arith)) (of 4 (omega arith)) (of 5 (omega arith)) (of 6 (omega arith)) (of 7 (omega arith))
    (of 8 (omega arith)) (of 9 (omega arith)) (of 10 (omega arith)) (of 11 (omega arith)) (of 12 (omega arith)) (of 13 (omega arith)) (of 14 (omega arith)) (of 15 (omega arith))

pub bytes_blocks : (w : List (List ℕ)) → ((k : ℕ) → k < 4 → (t : ℕ) → t < 16 → slice_index (lane w k) t < 2 ^ 32) → HaveBlocks w (λ k. digest_bytes (lane w k) 16)
bytes_blocks w fits = λ k lt t low. sym (lane_at w k t) ∙ word_of (lane w k) (fits k lt) t low

taken_short : (ini h a b m : List ℕ) (n w : ℕ) → IsAbsorbed ini h (digest_bytes b n) m → length m % 64 ≡ 4 * n → n + 1 < 16
    → ((t : ℕ) → t < n → slice_index a t ≡ slice_index b t) → slice_index a n ≡ w → IsAbsorbed ini h (digest_bytes a (n + 1)) (m ++ to_be_bytes w32 w)
taken_short ini h a b m n w held at short same new =
    let four : length (to_be_bytes w32 w) ≡ 4 = refl in
    let lb = length-bytes b n in
    let la = length-bytes a (n + 1) in
    let grown = digest_next a b n w same new in
    IsAbsorbed_short ini h (digest_bytes b n) (digest_bytes a (n + 1)) m (to_be_bytes w32 w) held (omega (arith, four, at))
    (take_all (length m % 64 + length (to_be_bytes w32 w)) (digest_bytes a (n + 1)) (omega (arith, la, four, at)) ∙ grown
    ∙ ap (λ (l : List ℕ). l ++ to_be_bytes w32 w) (sym (take_all (length m % 64) (digest_bytes b n) (omega (arith, lb, at)))))

taken_full : (ini h a b c m : List ℕ) (n w : ℕ) → IsAbsorbed ini h (digest_bytes b n) m → length m % 64 ≡ 4 * n → n + 1 ≡ 16
    → ((t : ℕ) → t < n → slice_index a t ≡ slice_index b t) → slice_index a n ≡ w → IsAbsorbed ini (compress h (digest_bytes a 16)) c (m ++ to_be_bytes w32 w)
taken_full ini h a b c m n w held at full same new =
    let four : length (to_be_bytes w32 w) ≡ 4 = refl in
    let lb = length-bytes b n in
    let grown = digest_next a b n w same new in
    IsAbsorbed_fill ini h (digest_bytes b n) c m (to_be_bytes w32 w) (digest_bytes a 16) held (omega (arith, four, at))
    (ap (digest_bytes a) (sym full) ∙ grown
    ∙ ap (λ (l : List ℕ). l ++ to_be_bytes w32 w) (sym (take_all (length m % 64) (digest_bytes b n) (omega (arith, lb, at)))))

-- lane k of a block with a word more
set_before : (b : List (List ℕ)) (word : List ℕ) (f k t : ℕ) → t < f → slice_index (lane (slice_set b f word) k) t ≡ slice_index (lane b k) t
set_before b word f k t lt = ap (λ (l : List ℕ). slice_index l t) (lane_set b k f word) ∙ get_or-set_other (lane b k) f t (slice_index word k) 0 (omega arith)

set_at : (b : List (List ℕ)) (word : List ℕ) (f k : ℕ) → f < length b → slice_index (lane (slice_set b f word) k) f ≡ slice_index word k
set_at b word f k lt = ap (λ (l : List ℕ). slice_index l f) (lane_set b k f word) ∙ get_or-set_same (lane b k) f (slice_index word k) 0 (omega (arith, length-lane b k))

pub fits_after : (b : List (List ℕ)) (word : List ℕ) (f k : ℕ) → f < length b → slice_index word k < 2 ^ 32
    → ((t : ℕ) → t < f → slice_index (lane b k) t < 2 ^ 32) → (t : ℕ) → t < f + 1 → slice_index (lane (slice_set b f word) k) t < 2 ^ 32
fits_after b word f k lt low fits t under = elim (cases_eq t f) [
  | inl here ↦ rw (here, set_at b word f k lt) low
  | inr other ↦ rw (set_before b word f k t (omega (arith, other))) (fits t (omega (arith, other)))
]

pub pushed_short : (ini h m : List ℕ) (b : List (List ℕ)) (word : List ℕ) (f k : ℕ) → f < length b → f + 1 < 16
    → IsAbsorbed ini h (digest_bytes (lane b k) f) m → length m % 64 ≡ 4 * f
    → IsAbsorbed ini h (digest_bytes (lane (slice_set b f word) k) (f + 1)) (m ++ to_be_bytes w32 (slice_index word k))
pushed_short ini h m b word f k lt short held at =
    taken_short ini h (lane (slice_set b f word) k) (lane b k) m f (slice_index word k) held at short (λ t low. set_before b word f k t low) (set_at b word f k lt)

pub pushed_full : (ini h c m : List ℕ) (b : List (List ℕ)) (word : List ℕ) (f k : ℕ) → f < length b → f + 1 ≡ 16
    → IsAbsorbed ini h (digest_bytes (lane b k) f) m → length m % 64 ≡ 4 * f
    → IsAbsorbed ini (compress h (digest_bytes (lane (slice_set b f word) k) 16)) c (m ++ to_be_bytes w32 (slice_index word k))
pushed_full ini h c m b word f k lt full held at =
    taken_full ini h (lane (slice_set b f word) k) (lane b k) c m f (slice_index word k) held at full (λ t low. set_before b word f k t low) (set_at b word f k lt)

pub length_after : (m : List ℕ) (w f n : ℕ) → length m % 64 ≡ 4 * f → n ≡ (f + 1) % 16 → f < 16 → length (m ++ to_be_bytes w32 w) % 64 ≡ 4 * n
length_after m w f n at e low =
    let four : length (to_be_bytes w32 w) ≡ 4 = refl in
    omega (arith, length-append m (to_be_bytes w32 w), four)

-- ---- messages

pub hold_same : (state block : List (List ℕ)) (filled : ℕ) (last : List ℕ) (m n : ℕ → List ℕ) → HoldMessages state block filled last m
    → ((k : ℕ) → k < 4 → m k ≡ n k) → HoldMessages state block filled last n
hold_same state block filled last m n held e = record {
  words = held.words;
  taken = held.taken;
  whole = λ k lt. sym (e k lt) ∙ held.whole k lt;
}

-- nothing is taken at first
pub absorbed_none : (ini h b : List ℕ) → h ≡ ini → IsAbsorbed ini h b []
unfolding hash_after
absorbed_none ini h b e = (e, refl)

-- four words of an identifier
pub id_bytes : (id w : List ℕ) → length id ≡ 16 → ((k : ℕ) → slice_index id k < 256)
    → slice_index w 0 ≡ word_at id 0 → slice_index w 1 ≡ word_at id 4 → slice_index w 2 ≡ word_at id 8 → slice_index w 3 ≡ word_at id 12 → digest_bytes w 4 ≡ id
id_bytes id w long small e0 e1 e2 e3 = digest_from id w 4 (omega arith) each ∙ take_all 16 id (omega arith)
  where
    each : (k : ℕ) → k < 4 → to_be_bytes w32 (slice_index w k) ≡ slice_index id (4 * k) ∷ slice_index id (4 * k + 1) ∷ slice_index id (4 * k + 2) ∷ slice_index id (4 * k + 3) ∷ []
    each zero h = bytes_at id 0 _ small e0
    each (suc zero) h = bytes_at id 4 _ small e1
    each (suc (suc zero)) h = bytes_at id 8 _ small e2
    each (suc (suc (suc zero))) h = bytes_at id 12 _ small e3
    each (suc (suc (suc (suc k)))) h = absurd (omega arith)

-- the head of a message, word by word
pub head_whole : (id : List ℕ) (w0 w1 w2 w3 q l : ℕ) → digest_bytes (w0 ∷ w1 ∷ w2 ∷ w3 ∷ []) 4 ≡ id → l ≡ 0x8080
    → id ++ to_be_bytes w32 q ++ 0x80 ∷ 0x80 ∷ []
    ≡ [] ++ to_be_bytes w32 w0 ++ to_be_bytes w32 w1 ++ to_be_bytes w32 w2 ++ to_be_bytes w32 w3 ++ to_be_bytes w32 q ++ drop 2 (to_be_bytes w32 l)
unfolding digest_bytes
head_whole id w0 w1 w2 w3 q l e el = rw (← e, el) refl

-- ---- the end of a message

zeros_above : (n : ℕ) → n < 2 ^ 32 → to_be_bytes w64 n ≡ 0 ∷ 0 ∷ 0 ∷ 0 ∷ to_be_bytes w32 n
zeros_above n low =
    let z7 : n / 72057594037927936 % 256 ≡ 0 = omega arith in
    let z6 : n / 281474976710656 % 256 ≡ 0 = omega arith in
    let z5 : n / 1099511627776 % 256 ≡ 0 = omega arith in
    let z4 : n / 4294967296 % 256 ≡ 0 = omega arith in
    λ i. z7 i ∷ z6 i ∷ z5 i ∷ z4 i ∷ to_be_bytes w32 n

-- a list that ends in a word, zeros and a length is a message and its padding
ended_in : (m p z t : List ℕ) (l w bits : ℕ) → m ≡ p ++ drop 2 (to_be_bytes w32 l) → w ≡ two_and_two l 0x80000000
    → (drop 2 (to_be_bytes w32 l) ++ take 2 (to_be_bytes w32 0x80000000)) ++ (z ++ to_be_bytes w32 bits) ≡ drop 2 (to_be_bytes w32 l) ++ t
    → p ++ to_be_bytes w32 w ++ z ++ to_be_bytes w32 bits ≡ m ++ t
ended_in m p z t l w bits em ew e =
    let h = drop 2 (to_be_bytes w32 l) ++ take 2 (to_be_bytes w32 0x80000000) in
    ap (λ (x : List ℕ). p ++ x ++ z ++ to_be_bytes w32 bits) (be_of w l 0x80000000 ew)
    ∙ append_assoc (p ++ h) z (to_be_bytes w32 bits) ∙ append_assoc p h (z ++ to_be_bytes w32 bits)
    ∙ ap (λ (x : List ℕ). p ++ x) e ∙ sym (append_assoc p (drop 2 (to_be_bytes w32 l)) t) ∙ ap (λ (x : List ℕ). x ++ t) (sym em)

pub padded_end : (m p : List ℕ) (l w f bits : ℕ) → m ≡ p ++ drop 2 (to_be_bytes w32 l) → w ≡ two_and_two l 0x80000000
    → length m % 32 ≡ 22 → length (p ++ to_be_bytes w32 w) % 64 ≡ 4 * f → f < 16 → 8 * length m ≡ bits → bits < 2 ^ 32
    → p ++ to_be_bytes w32 w ++ replicate (4 * (15 - f)) 0 ++ to_be_bytes w32 bits ≡ padded_message m
padded_end m p l w f bits em ew short at low eb fits =
    let two : length (drop 2 (to_be_bytes w32 l)) ≡ 2 = refl in
    let four : length (to_be_bytes w32 w) ≡ 4 = refl in
    let lm : length m ≡ length p + 2 = omega (arith, ap length em, length-append p (drop 2 (to_be_bytes w32 l)), two) in
    let lw = length-append p (to_be_bytes w32 w) in
    let size : length m * 8 % 2 ^ 64 ≡ bits = omega arith in
    elim (cases_eq (length m % 64) 22) [
      | inl first ↦
          let many : 4 * (15 - f) ≡ 36 = omega (arith, lm, lw, four) in
          let zeros : (119 - length m % 64) % 64 ≡ 33 = omega arith in
          rw (many, zeros, size, zeros_above bits fits) (ended_in m p (replicate 36 0) _ l w bits em ew refl)
      | inr second ↦
          let is : length m % 64 ≡ 54 = omega (arith, second) in
          let many : 4 * (15 - f) ≡ 4 = omega (arith, lm, lw, four, is) in
          let zeros : (119 - length m % 64) % 64 ≡ 1 = omega (arith, is) in
          rw (many, zeros, size, zeros_above bits fits) (ended_in m p (replicate 4 0) _ l w bits em ew refl)
    ]

-- ---- the zeros of the padding

pub taken_same : (state block : List (List ℕ)) (filled : ℕ) (m n : ℕ → List ℕ) → AreTaken state block filled m
    → ((k : ℕ) → k < 4 → m k ≡ n k) → AreTaken state block filled n
taken_same state block filled m n held e = λ k lt. subst (λ (l : List ℕ). IsTaken state block filled k l) (e k lt) (held k lt)

pub no_zeros : (m : List ℕ) (f : ℕ) → m ≡ m ++ replicate (4 * (f - f)) 0
no_zeros m f = let e : 4 * (f - f) ≡ 0 = omega arith in rw e (sym (append-nil m))

pub zeros_more : (m : List ℕ) (f n w : ℕ) → f ≤ n → w ≡ 0 → m ++ replicate (4 * (n - f)) 0 ++ to_be_bytes w32 w ≡ m ++ replicate (4 * (n + 1 - f)) 0
zeros_more m f n w le e =
    let more : 4 * (n + 1 - f) ≡ 4 * (n - f) + 4 = omega arith in
    rw (e, more) (append_assoc m (replicate (4 * (n - f)) 0) (replicate 4 0) ∙ ap (λ (l : List ℕ). m ++ l) (replicate-append-replicate (4 * (n - f)) 4 0))

-- where the words of two halves end a message
pub halves_end : (s x : List ℕ) (k : ℕ) → k < 4 → s ≡ quad (λ j. two_and_two (slice_index x j) (slice_index (quad (λ _. 0x80000000)) j)) → slice_index s k ≡ two_and_two (slice_index x k) 0x80000000
halves_end s x k lt e = halves_at s x (quad (λ _. 0x80000000)) k lt e ∙ ap (two_and_two (slice_index x k)) (slice_quad (λ _. 0x80000000) k lt)
