-- Lists whose items are bytes: a slice of bytes tells it place by place, a test tells it of the whole.
use Rattle.std.proofs.Common.{◌≡◌, ℕ, zero, suc, ◌<◌, ◌/◌, ◌%◌, ◌^◌, ◌++◌, true, nat_lt, List, [], ◌∷◌, get_or, refl, arith}
use Rattle.std.specs.Int.{Width, byte_len, byte_at, bytes_high_first, to_be_bytes}
use Rattle.fab_base.specs.Fields.{are_bytes}
use Rattle.fab_base.proofs.Tests.{and_left, and_right, and_both, below, is_below}

pub record AreBytes (bytes : List ℕ) : Type 0 where
  pub at_place : (i : ℕ) → get_or bytes i 0 < 256

pub are_bytes_of : (bytes : List ℕ) → AreBytes bytes → are_bytes bytes ≡ true
are_bytes_of [] h = refl
are_bytes_of (b ∷ bytes) h =
    and_both (nat_lt b 256) (are_bytes bytes) (is_below b 256 (h.at_place 0)) (are_bytes_of bytes (record { at_place = λ i. h.at_place (suc i) }))

pub bytes_at : (bytes : List ℕ) → are_bytes bytes ≡ true → (i : ℕ) → get_or bytes i 0 < 256
bytes_at [] h i = omega arith
bytes_at (b ∷ bytes) h zero = below b 256 (and_left (nat_lt b 256) (are_bytes bytes) h)
bytes_at (b ∷ bytes) h (suc i) = bytes_at bytes (and_right (nat_lt b 256) (are_bytes bytes) h) i

pub are_bytes-append : (a b : List ℕ) → are_bytes a ≡ true → are_bytes b ≡ true → are_bytes (a ++ b) ≡ true
are_bytes-append [] b h k = k
are_bytes-append (x ∷ a) b h k =
    and_both (nat_lt x 256) (are_bytes (a ++ b)) (and_left (nat_lt x 256) (are_bytes a) h)
    (are_bytes-append a b (and_right (nat_lt x 256) (are_bytes a) h) k)

small_byte : (k n : ℕ) → nat_lt (byte_at k n) 256 ≡ true
small_byte zero n = is_below (n % 256) 256 (omega arith)
small_byte (suc k) n = is_below (n / 256 ^ suc k % 256) 256 (omega arith)

are_bytes-bytes_high_first : (k n : ℕ) → are_bytes (bytes_high_first k n) ≡ true
are_bytes-bytes_high_first zero n = refl
are_bytes-bytes_high_first (suc k) n =
    and_both (nat_lt (byte_at k n) 256) (are_bytes (bytes_high_first k n)) (small_byte k n) (are_bytes-bytes_high_first k n)

-- a number in so many bytes
pub are_bytes-to_be_bytes : (w : Width) (n : ℕ) → are_bytes (to_be_bytes w n) ≡ true
are_bytes-to_be_bytes w n = are_bytes-bytes_high_first (byte_len w) n
