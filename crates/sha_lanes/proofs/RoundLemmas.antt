-- Rounds of four messages, each in its lane.
use Rattle.std.proofs.Common.{◌≡◌, ℕ, ◌+◌, ◌%◌, ◌<◌, List, [], ◌∷◌, slice_index, refl, ap, ◌∙◌, arith}
use Rattle.sha2.specs.Sha256.{add32, big_sigma0, big_sigma1, small_sigma0, small_sigma1, ch, maj, round, rounds, schedule, window_word, add_state}
use Rattle.sha2.proofs.Schedule256.{IsRoundsAt_at}
use Rattle.sha_lanes.specs.Lanes.{quad, vector, lane, AreRounds, AreRoundsAt}
use Rattle.sha_lanes.proofs.QuadLemmas.{slice_quad, lane_at}

-- T 1 and T 2 of the lanes
abbrev pub temp1_quad : List (List ℕ) → ℕ → List ℕ → List ℕ
temp1_quad v k word = quad (λ j. add32 (add32 (add32 (add32 (slice_index (vector v 7) j) (big_sigma1 (slice_index (vector v 4) j)))
    (ch (slice_index (vector v 4) j) (slice_index (vector v 5) j) (slice_index (vector v 6) j))) k) (slice_index word j))

abbrev pub temp2_quad : List (List ℕ) → List ℕ
temp2_quad v = quad (λ j. add32 (big_sigma0 (slice_index (vector v 0) j))
    (maj (slice_index (vector v 0) j) (slice_index (vector v 1) j) (slice_index (vector v 2) j)))

pub round_lane : (v : List (List ℕ)) (k : ℕ) (word t1 t2 na ne : List ℕ) (i : ℕ) → i < 4
    → t1 ≡ temp1_quad v k word → t2 ≡ temp2_quad v
    → na ≡ quad (λ j. add32 (slice_index t1 j) (slice_index t2 j))
    → ne ≡ quad (λ j. add32 (slice_index (vector v 3) j) (slice_index t1 j))
    → lane (na ∷ vector v 0 ∷ vector v 1 ∷ vector v 2 ∷ ne ∷ vector v 4 ∷ vector v 5 ∷ vector v 6 ∷ []) i
    ≡ round (lane v i) k (slice_index word i)
round_lane v k word t1 t2 na ne i lt h1 h2 ha he =
    let e1 : slice_index t1 i ≡ add32 (add32 (add32 (add32 (slice_index (vector v 7) i) (big_sigma1 (slice_index (vector v 4) i))) (ch (slice_index (vector v 4) i) (slice_index (vector v 5) i) (slice_index (vector v 6) i))) k) (slice_index word i) =
    ap (λ (x : List ℕ). slice_index x i) h1 ∙ slice_quad (λ j. add32 (add32 (add32 (add32 (slice_index (vector v 7) j) (big_sigma1 (slice_index (vector v 4) j))) (ch (slice_index (vector v 4) j) (slice_index (vector v 5) j) (slice_index (vector v 6) j))) k) (slice_index word j)) i lt in
    let e2 : slice_index t2 i ≡ add32 (big_sigma0 (slice_index (vector v 0) i)) (maj (slice_index (vector v 0) i) (slice_index (vector v 1) i) (slice_index (vector v 2) i)) =
    ap (λ (x : List ℕ). slice_index x i) h2 ∙ slice_quad (λ j. add32 (big_sigma0 (slice_index (vector v 0) j)) (maj (slice_index (vector v 0) j) (slice_index (vector v 1) j) (slice_index (vector v 2) j))) i lt in
    let ea : slice_index na i ≡ add32 (slice_index t1 i) (slice_index t2 i) =
    ap (λ (x : List ℕ). slice_index x i) ha ∙ slice_quad (λ j. add32 (slice_index t1 j) (slice_index t2 j)) i lt in
    let ee : slice_index ne i ≡ add32 (slice_index (vector v 3) i) (slice_index t1 i) =
    ap (λ (x : List ℕ). slice_index x i) he ∙ slice_quad (λ j. add32 (slice_index (vector v 3) j) (slice_index t1 j)) i lt in
    rw (lane_at v i 0, lane_at v i 1, lane_at v i 2, lane_at v i 3, lane_at v i 4, lane_at v i 5, lane_at v i 6, lane_at v i 7, ea, ee, e1, e2) refl

pub at_lane : (x : List ℕ) (f : ℕ → ℕ) (i : ℕ) → i < 4 → x ≡ quad f → slice_index x i ≡ f i
at_lane x f i lt e = ap (λ (y : List ℕ). slice_index y i) e ∙ slice_quad f i lt

pub next_word_lane : (w : List (List ℕ)) (place : ℕ) (s1 p1 s0 p2 word : List ℕ) (i : ℕ) → i < 4 → place < 16
    → s1 ≡ quad (λ k. small_sigma1 (slice_index (vector w ((place + 14) % 16)) k))
    → p1 ≡ quad (λ k. add32 (slice_index s1 k) (slice_index (vector w ((place + 9) % 16)) k))
    → s0 ≡ quad (λ k. small_sigma0 (slice_index (vector w ((place + 1) % 16)) k))
    → p2 ≡ quad (λ k. add32 (slice_index p1 k) (slice_index s0 k))
    → word ≡ quad (λ k. add32 (slice_index p2 k) (slice_index (vector w place) k))
    → slice_index word i ≡ window_word (lane w i) place
next_word_lane w place s1 p1 s0 p2 word i lt low h1 h2 h3 h4 h5 =
    let at : place % 16 ≡ place = omega arith in
    let e1 : slice_index s1 i ≡ small_sigma1 (slice_index (vector w ((place + 14) % 16)) i) = at_lane s1 (λ k. small_sigma1 (slice_index (vector w ((place + 14) % 16)) k)) i lt h1 in
    let e2 : slice_index p1 i ≡ add32 (slice_index s1 i) (slice_index (vector w ((place + 9) % 16)) i) = at_lane p1 (λ k. add32 (slice_index s1 k) (slice_index (vector w ((place + 9) % 16)) k)) i lt h2 in
    let e3 : slice_index s0 i ≡ small_sigma0 (slice_index (vector w ((place + 1) % 16)) i) = at_lane s0 (λ k. small_sigma0 (slice_index (vector w ((place + 1) % 16)) k)) i lt h3 in
    let e4 : slice_index p2 i ≡ add32 (slice_index p1 i) (slice_index s0 i) = at_lane p2 (λ k. add32 (slice_index p1 k) (slice_index s0 k)) i lt h4 in
    let e5 : slice_index word i ≡ add32 (slice_index p2 i) (slice_index (vector w place) i) = at_lane word (λ k. add32 (slice_index p2 k) (slice_index (vector w place) k)) i lt h5 in
    rw (at, lane_at w i ((place + 14) % 16), lane_at w i ((place + 9) % 16), lane_at w i ((place + 1) % 16), lane_at w i place, e5, e4, e2, e1, e3) refl

pub AreRoundsAt_at : (b h : ℕ → List ℕ) (w v : List (List ℕ)) (n k : ℕ) → n ≡ k → AreRoundsAt b h w v n → AreRoundsAt b h w v k
AreRoundsAt_at b h w v n k e held = λ i lt. IsRoundsAt_at (b i) (h i) (lane w i) (lane v i) n k e (held i lt)

pub AreRounds_at : (b h : ℕ → List ℕ) (v : List (List ℕ)) (n k : ℕ) → n ≡ k → AreRounds b h v n → AreRounds b h v k
AreRounds_at b h v n k e held = λ i lt. held i lt ∙ ap (λ (t : ℕ). rounds (h i) (schedule (b i) 48) t) e

added_at : (s v : List (List ℕ)) (j : ℕ) (p : List ℕ) (i : ℕ) → i < 4
    → p ≡ quad (λ k. add32 (slice_index (vector s j) k) (slice_index (vector v j) k))
    → slice_index p i ≡ add32 (slice_index (lane s i) j) (slice_index (lane v i) j)
added_at s v j p i lt e =
    at_lane p (λ k. add32 (slice_index (vector s j) k) (slice_index (vector v j) k)) i lt e ∙ rw (lane_at s i j, lane_at v i j) refl

pub added_lane : (s v : List (List ℕ)) (p0 p1 p2 p3 p4 p5 p6 p7 : List ℕ) (i : ℕ) → i < 4
    → p0 ≡ quad (λ k. add32 (slice_index (vector s 0) k) (slice_index (vector v 0) k))
    → p1 ≡ quad (λ k. add32 (slice_index (vector s 1) k) (slice_index (vector v 1) k))
    → p2 ≡ quad (λ k. add32 (slice_index (vector s 2) k) (slice_index (vector v 2) k))
    → p3 ≡ quad (λ k. add32 (slice_index (vector s 3) k) (slice_index (vector v 3) k))
    → p4 ≡ quad (λ k. add32 (slice_index (vector s 4) k) (slice_index (vector v 4) k))
    → p5 ≡ quad (λ k. add32 (slice_index (vector s 5) k) (slice_index (vector v 5) k))
    → p6 ≡ quad (λ k. add32 (slice_index (vector s 6) k) (slice_index (vector v 6) k))
    → p7 ≡ quad (λ k. add32 (slice_index (vector s 7) k) (slice_index (vector v 7) k))
    → lane (p0 ∷ p1 ∷ p2 ∷ p3 ∷ p4 ∷ p5 ∷ p6 ∷ p7 ∷ []) i ≡ add_state (lane s i) (lane v i)
added_lane s v p0 p1 p2 p3 p4 p5 p6 p7 i lt h0 h1 h2 h3 h4 h5 h6 h7 = λ t.
    added_at s v 0 p0 i lt h0 t ∷ added_at s v 1 p1 i lt h1 t ∷ added_at s v 2 p2 i lt h2 t ∷ added_at s v 3 p3 i lt h3 t
    ∷ added_at s v 4 p4 i lt h4 t ∷ added_at s v 5 p5 i lt h5 t ∷ added_at s v 6 p6 i lt h6 t ∷ added_at s v 7 p7 i lt h7 t ∷ []
