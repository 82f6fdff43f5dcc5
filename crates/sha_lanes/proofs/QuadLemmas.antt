-- Vectors of four lanes.
use Rattle.std.proofs.Common.{◌≡◌, ℕ, zero, suc, ◌*◌, ◌<◌, ◌-◌, ◌/◌, ◌%◌, ◌^◌, bit_or, List, [], ◌∷◌, length, slice_index, slice_set, bit_and, bit_xor, refl, ap, ◌+◌, ◌≤◌, ◌∙◌, arith, w32, Fits}
use Rattle.std.specs.Simd.Lanes.{Each1, zip2}
use Rattle.std.specs.Int.{bit_not, rotate_right}
use Rattle.sha_lanes.specs.Lanes.{quad, vector, lane}
use Rattle.sha_lanes.proofs.ChMaj.{ch_short, maj_short}
use Rattle.sha_lanes.proofs.Rotations.{rotated, rotated_two, rotated_three}

-- a vector of four lanes is made of them
pub quad_of : (x : List ℕ) → length x ≡ 4 → x ≡ quad (slice_index x)
quad_of [] h = absurd (omega arith)
quad_of (a ∷ []) h = absurd (omega arith)
quad_of (a ∷ b ∷ []) h = absurd (omega arith)
quad_of (a ∷ b ∷ c ∷ []) h = absurd (omega arith)
quad_of (a ∷ b ∷ c ∷ d ∷ []) h = refl
quad_of (a ∷ b ∷ c ∷ d ∷ e ∷ rest) h = absurd (omega arith)

pub slice_quad : (f : ℕ → ℕ) (i : ℕ) → i < 4 → slice_index (quad f) i ≡ f i
slice_quad f zero h = refl
slice_quad f (suc zero) h = refl
slice_quad f (suc (suc zero)) h = refl
slice_quad f (suc (suc (suc zero))) h = refl
slice_quad f (suc (suc (suc (suc i)))) h = absurd (omega arith)

-- two vectors are equal lane by lane
pub quad_eq : (f g : ℕ → ℕ) → ((k : ℕ) → f k ≡ g k) → quad f ≡ quad g
quad_eq f g h = λ i. h 0 i ∷ h 1 i ∷ h 2 i ∷ h 3 i ∷ []

pub lane_at : (v : List (List ℕ)) (i j : ℕ) → slice_index (lane v i) j ≡ slice_index (vector v j) i
lane_at [] i j = refl
lane_at (x ∷ v) i zero = refl
lane_at (x ∷ v) i (suc j) = lane_at v i j

pub lane_set : (v : List (List ℕ)) (i p : ℕ) (x : List ℕ) → lane (slice_set v p x) i ≡ slice_set (lane v i) p (slice_index x i)
lane_set [] i p x = refl
lane_set (y ∷ v) i zero x = refl
lane_set (y ∷ v) i (suc p) x = ap (λ (rest : List ℕ). slice_index y i ∷ rest) (lane_set v i p x)

pub length-lane : (v : List (List ℕ)) (i : ℕ) → length (lane v i) ≡ length v
length-lane [] i = refl
length-lane (x ∷ v) i = ap suc (length-lane v i)

pub lane_below : (x : List ℕ) → Each1 (Fits w32) x → (k : ℕ) → slice_index x k < 2 ^ 32
lane_below [] h k = omega arith
lane_below (a ∷ x) h zero = h.0.fits
lane_below (a ∷ x) h (suc k) = lane_below x h.1 k

pub choose_quad : (x y z : List ℕ) → length x ≡ 4 → length y ≡ 4 → length z ≡ 4 → Each1 (Fits w32) x → Each1 (Fits w32) y → Each1 (Fits w32) z
    → quad (λ k. bit_xor (slice_index z k) (bit_and (slice_index x k) (bit_xor (slice_index y k) (slice_index z k))))
    ≡ quad (λ k. bit_xor (bit_and (slice_index x k) (slice_index y k)) (bit_and (bit_not w32 (slice_index x k)) (slice_index z k)))
choose_quad x y z lx ly lz fx fy fz = quad_eq _ _ (λ k. ch_short w32 (slice_index x k) (slice_index y k) (slice_index z k) (lane_below x fx k) (lane_below y fy k) (lane_below z fz k))

pub majority_quad : (x y z : List ℕ)
    → quad (λ k. bit_xor (slice_index y k) (bit_and (bit_xor (slice_index x k) (slice_index y k)) (bit_xor (slice_index y k) (slice_index z k))))
    ≡ quad (λ k. bit_xor (bit_xor (bit_and (slice_index x k) (slice_index y k)) (bit_and (slice_index x k) (slice_index z k))) (bit_and (slice_index y k) (slice_index z k)))
majority_quad x y z = quad_eq _ _ (λ k. maj_short (slice_index x k) (slice_index y k) (slice_index z k))

pub right_quad : (x : List ℕ) (n : ℕ) → length x ≡ 4 → 0 < n → n < 32
    → zip2 bit_or (zip2 (λ a b. a / 2 ^ b) x (n ∷ n ∷ n ∷ n ∷ [])) (zip2 (λ a b. a * 2 ^ b % 2 ^ 32) x ((32 - n) ∷ (32 - n) ∷ (32 - n) ∷ (32 - n) ∷ []))
    ≡ quad (λ k. rotate_right w32 (slice_index x k) n)
right_quad x n long low high =
    let e : n % 32 ≡ n = omega arith in
    let f : (32 - n) % 32 ≡ 32 - n = omega arith in
    rw (quad_of x long, e, f) refl

xor_quads : (f g : ℕ → ℕ) (k : ℕ) → k < 4 → slice_index (zip2 bit_xor (quad f) (quad g)) k ≡ bit_xor (f k) (g k)
xor_quads f g zero h = refl
xor_quads f g (suc zero) h = refl
xor_quads f g (suc (suc zero)) h = refl
xor_quads f g (suc (suc (suc zero))) h = refl
xor_quads f g (suc (suc (suc (suc k)))) h = absurd (omega arith)

xor_at : (x y : List ℕ) (f : ℕ → ℕ) → length x ≡ 4 → y ≡ quad f → (k : ℕ) → k < 4 → slice_index (zip2 bit_xor x y) k ≡ bit_xor (slice_index x k) (f k)
xor_at x y f long e k lt =
    ap (λ (l : List ℕ). slice_index (zip2 bit_xor l y) k) (quad_of x long)
    ∙ ap (λ (l : List ℕ). slice_index (zip2 bit_xor (quad (slice_index x)) l) k) e ∙ xor_quads (slice_index x) f k lt

quad_same : (f g : ℕ → ℕ) → ((k : ℕ) → k < 4 → f k ≡ g k) → quad f ≡ quad g
quad_same f g h = λ i. h 0 (omega arith) i ∷ h 1 (omega arith) i ∷ h 2 (omega arith) i ∷ h 3 (omega arith) i ∷ []

-- a rotation of x under xor with what was made of it
rotated_xor : (x y r : List ℕ) (f : ℕ → ℕ) (a : ℕ) → length x ≡ 4 → y ≡ quad f → r ≡ quad (λ k. rotated 32 (slice_index (zip2 bit_xor x y) k) a)
    → r ≡ quad (λ k. rotated 32 (bit_xor (slice_index x k) (f k)) a)
rotated_xor x y r f a long ey er =
    er ∙ quad_same (λ k. rotated 32 (slice_index (zip2 bit_xor x y) k) a) (λ k. rotated 32 (bit_xor (slice_index x k) (f k)) a)
    (λ k lt. ap (λ (n : ℕ). rotated 32 n a) (xor_at x y f long ey k lt))

-- two rotations of x under xor, with the rotation by a done once, outside the xor
pub nested_two : (x y r : List ℕ) (a b : ℕ) → a + b ≤ 32 → length x ≡ 4 → Each1 (Fits w32) x
    → y ≡ quad (λ k. rotated 32 (slice_index x k) b)
    → r ≡ quad (λ k. rotated 32 (slice_index (zip2 bit_xor x y) k) a)
    → r ≡ quad (λ k. bit_xor (rotated 32 (slice_index x k) a) (rotated 32 (slice_index x k) (a + b)))
nested_two x y r a b le long fits ey er =
    rotated_xor x y r (λ k. rotated 32 (slice_index x k) b) a long ey er
    ∙ quad_eq _ _ (λ k. rotated_two 32 (slice_index x k) a b le (lane_below x fits k))

-- three, each inside the one before
pub nested_three : (x y z r : List ℕ) (a b c : ℕ) → a + (b + c) ≤ 32 → length x ≡ 4 → Each1 (Fits w32) x
    → y ≡ quad (λ k. rotated 32 (slice_index x k) c)
    → z ≡ quad (λ k. rotated 32 (slice_index (zip2 bit_xor x y) k) b)
    → r ≡ quad (λ k. rotated 32 (slice_index (zip2 bit_xor x z) k) a)
    → r ≡ quad (λ k. bit_xor (bit_xor (rotated 32 (slice_index x k) a) (rotated 32 (slice_index x k) (a + b))) (rotated 32 (slice_index x k) (a + (b + c))))
nested_three x y z r a b c le long fits ey ez er =
    let inner = rotated_xor x y z (λ k. rotated 32 (slice_index x k) c) b long ey ez in
    rotated_xor x z r (λ k. rotated 32 (bit_xor (slice_index x k) (rotated 32 (slice_index x k) c)) b) a long inner er
    ∙ quad_eq _ _ (λ k. rotated_three 32 (slice_index x k) a b c le (lane_below x fits k))
