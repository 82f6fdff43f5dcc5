-- Public keys as bytes (RFC 8554, section 5.3).
use Rattle.std.specs.Prelude.{ℕ, ◌==◌, List, ◌++◌, length, take, drop, Option, Some, None, Result, Ok, Err, if◌then◌else◌}
use Rattle.std.specs.Int.{w32, to_be_bytes, from_be_bytes}
use Rattle.lmots_core.specs.declared.kind.OtsKind.{OtsKind}
use Rattle.lmots_core.specs.Parameters.{type_code, kind_of_code}
use Rattle.lms_tree.specs.declared.heights.Height.{Height}
use Rattle.lms_tree.specs.declared.public.Public.{Public}
use Rattle.lms_tree.specs.declared.faults.SigFault.{SigFault}
use Rattle.lms_tree.specs.declared.faults.SigFault.TheVariants.{BadLength, BadType}
use Rattle.lms_tree.specs.Heights.{tree_code, height_of_code}

-- u32str(type) ‖ u32str(otstype) ‖ I ‖ T[1]
abbrev pub public_bytes : Public → List ℕ
public_bytes key = to_be_bytes w32 (tree_code key.height) ++ to_be_bytes w32 (type_code key.ots) ++ key.id ++ key.root

-- the key of these types, if both are known
abbrev pub typed_public : Option Height → Option OtsKind → List ℕ → List ℕ → Result Public SigFault
typed_public (Some height) (Some ots) id root = Ok (record { ots = ots; height = height; id = id; root = root })
typed_public (Some height) None id root = Err BadType
typed_public None ots id root = Err BadType

-- the key that the bytes spell: the length is looked at first, and then the types
abbrev pub public_of_bytes : List ℕ → Result Public SigFault
public_of_bytes bytes =
    if length bytes == 56
    then typed_public (height_of_code (from_be_bytes w32 (take 4 bytes))) (kind_of_code (from_be_bytes w32 (take 4 (drop 4 bytes))))
    (take 16 (drop 8 bytes)) (take 32 (drop 24 bytes))
    else Err BadLength
