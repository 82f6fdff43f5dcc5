-- LMS signatures (RFC 8554, section 5.4), and the randomizer of a leaf (ours).
use Rattle.std.specs.Prelude.{ℕ, ◌+◌, ◌*◌, List, [], ◌∷◌, ◌++◌}
use Rattle.std.specs.Int.{w32, to_be_bytes}
use Rattle.sha2.specs.Sha256.{sha256}
use Rattle.lmots_core.specs.declared.kind.OtsKind.{OtsKind}
use Rattle.lmots_core.specs.declared.seed.OtsSeed.{OtsSeed}
use Rattle.lmots_core.specs.Parameters.{signature_len}
use Rattle.lmots_core.specs.OneTime.{signature}
use Rattle.lms_tree.specs.declared.heights.Height.{Height}
use Rattle.lms_tree.specs.Heights.{levels, tree_code}
use Rattle.lms_tree.specs.Tree.{path}
use Rattle.lms_tree.specs.Keys.{TreeKey}

-- the length in bytes: q, the one-time signature, the type and h nodes
abbrev pub tree_signature_len : OtsKind → Height → ℕ
tree_signature_len ots height = 8 + signature_len ots + 32 * levels height

-- C of leaf q: H("gbft-rnd" ‖ SEED ‖ I ‖ u32str(q))
unfoldable pub leaf_randomizer : OtsSeed → ℕ → List ℕ
leaf_randomizer seed q =
    sha256 (0x67 ∷ 0x62 ∷ 0x66 ∷ 0x74 ∷ 0x2d ∷ 0x72 ∷ 0x6e ∷ 0x64 ∷ [] ++ seed.seed ++ seed.id ++ to_be_bytes w32 q)

-- u32str(q) ‖ lmots_signature ‖ u32str(type) ‖ path[0] ‖ … ‖ path[h − 1] (5.4)
abbrev pub tree_signature : TreeKey → ℕ → List ℕ → List ℕ → List ℕ
tree_signature key q randomizer content =
    to_be_bytes w32 q ++ signature key.ots key.seed q randomizer content
    ++ to_be_bytes w32 (tree_code key.height) ++ path key.ots key.height key.seed q

-- the signature that leaf q makes, with its own randomizer
abbrev pub leaf_signature : TreeKey → ℕ → List ℕ → List ℕ
leaf_signature key q content = tree_signature key q (leaf_randomizer key.seed q) content
