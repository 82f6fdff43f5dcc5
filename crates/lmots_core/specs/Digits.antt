-- Winternitz digits and their checksum (RFC 8554, sections 3.1.3 and 4.4).
use Rattle.std.specs.Prelude.{ℕ, zero, suc, ◌+◌, ◌-◌, ◌*◌, ◌/◌, ◌%◌, ◌^◌, List, ◌++◌, bit_and, slice_index}
use Rattle.std.specs.Int.{w16, to_be_bytes}
use Rattle.lmots_core.specs.declared.kind.OtsKind.{OtsKind}
use Rattle.lmots_core.specs.Parameters.{width, checksum_shift, top_digit, digest_digits}

-- coef(S, i, w): digit i of the bytes, w bits wide, the high bits of a byte first (3.1.3)
unfoldable pub coef : List ℕ → ℕ → ℕ → ℕ
coef bytes i w = bit_and (2 ^ w - 1) (slice_index bytes (i * w / 8) / 2 ^ (8 - (w * (i % (8 / w)) + w)))

-- what the first n digits of a digest lack of the greatest digit, summed (4.4)
unfoldable pub lack_of : OtsKind → List ℕ → ℕ → ℕ
lack_of kind digest zero = 0
lack_of kind digest (suc n) = lack_of kind digest n + (top_digit kind - coef digest n (width kind))

-- the sum of all the digits of a digest, before it is shifted
abbrev pub checksum_sum : OtsKind → List ℕ → ℕ
checksum_sum kind digest = lack_of kind digest (digest_digits kind)

-- Cksm(Q), as a number (4.4)
unfoldable pub checksum : OtsKind → List ℕ → ℕ
checksum kind digest = checksum_sum kind digest * 2 ^ checksum_shift kind

-- Q ‖ Cksm(Q), the bytes whose digits are signed (4.5)
abbrev pub with_checksum : OtsKind → List ℕ → List ℕ
with_checksum kind digest = digest ++ to_be_bytes w16 (checksum kind digest)
