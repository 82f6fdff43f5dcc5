-- One-time public keys, signatures and candidate keys (RFC 8554, sections 4.3, 4.5 and 4.6).
use Rattle.std.specs.Prelude.{ℕ, ◌+◌, ◌-◌, ◌*◌, List, [], ◌∷◌, ◌++◌, take, drop}
use Rattle.std.specs.Int.{w32, to_be_bytes}
use Rattle.sha2.specs.Sha256.{sha256}
use Rattle.lmots_core.specs.declared.kind.OtsKind.{OtsKind}
use Rattle.lmots_core.specs.declared.seed.OtsSeed.{OtsSeed}
use Rattle.lmots_core.specs.Parameters.{width, chain_count, type_code, top_digit}
use Rattle.lmots_core.specs.Digits.{coef, with_checksum}
use Rattle.lmots_core.specs.Chains.{chain, chain_start, chain_end, joined}

-- K = H(I ‖ u32str(q) ‖ u16str(D_PBLC) ‖ y[0] ‖ … ‖ y[p − 1]), D_PBLC being 0x8080 (4.3)
unfoldable pub key_of_ends : List ℕ → ℕ → List ℕ → List ℕ
key_of_ends id q ends = sha256 (id ++ to_be_bytes w32 q ++ 0x80 ∷ 0x80 ∷ [] ++ ends)

-- the one-time public key of leaf q (4.3)
abbrev pub public_key : OtsKind → OtsSeed → ℕ → List ℕ
public_key kind seed q = key_of_ends seed.id q (joined (chain_end kind seed q) (chain_count kind))

-- Q = H(I ‖ u32str(q) ‖ u16str(D_MESG) ‖ C ‖ message), D_MESG being 0x8181 (4.5)
unfoldable pub message_digest : List ℕ → ℕ → List ℕ → List ℕ → List ℕ
message_digest id q randomizer message = sha256 (id ++ to_be_bytes w32 q ++ 0x81 ∷ 0x81 ∷ [] ++ randomizer ++ message)

-- the bytes whose digits a signature of the message shows
abbrev pub signed_digits : OtsKind → List ℕ → ℕ → List ℕ → List ℕ → List ℕ
signed_digits kind id q randomizer message = with_checksum kind (message_digest id q randomizer message)

-- value i of the signature: chain i after as many steps as digit i says
abbrev pub signed_value : OtsKind → OtsSeed → ℕ → List ℕ → ℕ → List ℕ
signed_value kind seed q digits i = chain seed.id q i 0 (coef digits i (width kind)) (chain_start seed q i)

-- u32str(type) ‖ C ‖ y[0] ‖ … ‖ y[p − 1] (4.5)
abbrev pub signature : OtsKind → OtsSeed → ℕ → List ℕ → List ℕ → List ℕ
signature kind seed q randomizer message =
    to_be_bytes w32 (type_code kind) ++ randomizer
    ++ joined (signed_value kind seed q (signed_digits kind seed.id q randomizer message)) (chain_count kind)

-- C of a signature
abbrev pub randomizer_of : List ℕ → List ℕ
randomizer_of signature = take 32 (drop 4 signature)

-- y[i] of a signature
abbrev pub value_of : List ℕ → ℕ → List ℕ
value_of signature i = take 32 (drop (36 + 32 * i) signature)

-- z[i]: the rest of chain i, from the signature's value on (4.6, algorithm 4b)
abbrev pub completed_value : OtsKind → List ℕ → ℕ → List ℕ → List ℕ → ℕ → List ℕ
completed_value kind id q digits signature i =
    chain id q i (coef digits i (width kind)) (top_digit kind - coef digits i (width kind)) (value_of signature i)

-- Kc, the key under which the signature would be one of the message (4.6, algorithm 4b)
abbrev pub candidate_key : OtsKind → List ℕ → ℕ → List ℕ → List ℕ → List ℕ
candidate_key kind id q message signature =
    key_of_ends id q (joined (completed_value kind id q (signed_digits kind id q (randomizer_of signature) message) signature)
    (chain_count kind))
