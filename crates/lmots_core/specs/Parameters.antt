-- The four LM-OTS parameter sets over SHA-256 with n = 32 (RFC 8554, section 4.1, table 1).
use Rattle.std.specs.Prelude.{Option, Some, None, if◌then◌else◌, ◌==◌, ℕ, ◌+◌, ◌-◌, ◌*◌, ◌/◌, ◌^◌}
use Rattle.lmots_core.specs.declared.kind.OtsKind.{OtsKind}
use Rattle.lmots_core.specs.declared.kind.OtsKind.TheVariants.{W1, W2, W4, W8}

-- w, the width in bits of a Winternitz digit
abbrev pub width : OtsKind → ℕ
width W1 = 1
width W2 = 2
width W4 = 4
width W8 = 8

-- p, the number of chains, which is the number of 32-byte values of a signature
abbrev pub chain_count : OtsKind → ℕ
chain_count W1 = 265
chain_count W2 = 133
chain_count W4 = 67
chain_count W8 = 34

-- ls, the number of bits that the checksum is shifted left
abbrev pub checksum_shift : OtsKind → ℕ
checksum_shift W1 = 7
checksum_shift W2 = 6
checksum_shift W4 = 4
checksum_shift W8 = 0

-- the number of the type, in front of each signature
abbrev pub type_code : OtsKind → ℕ
type_code W1 = 1
type_code W2 = 2
type_code W4 = 3
type_code W8 = 4

-- the set whose type has this number
abbrev pub kind_of_code : ℕ → Option OtsKind
kind_of_code code =
    if code == 1 then Some W1
    else if code == 2 then Some W2
    else if code == 3 then Some W4
    else if code == 4 then Some W8
    else None

-- the greatest digit, which is the number of steps of a whole chain
abbrev pub top_digit : OtsKind → ℕ
top_digit kind = 2 ^ width kind - 1

-- u, the number of digits of a digest of 32 bytes
abbrev pub digest_digits : OtsKind → ℕ
digest_digits kind = 256 / width kind

-- the length in bytes of a signature: its type, the randomizer and a value for each chain
abbrev pub signature_len : OtsKind → ℕ
signature_len kind = 4 + 32 * (chain_count kind + 1)
