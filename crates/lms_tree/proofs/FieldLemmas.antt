-- What is read back from a signature.
use Rattle.std.proofs.Common.{◌≡◌, ℕ, ◌+◌, ◌^◌, ◌<◌, List, ◌++◌, length, take, drop, sym, ap, ◌∙◌, arith, append_assoc}
use Rattle.std.proofs.lemmas.List.{take_at, drop_at, drop-drop}
use Rattle.std.proofs.lemmas.Nat.{from_be_bytes-to_be_bytes_4}
use Rattle.std.specs.Int.{w32, to_be_bytes, from_be_bytes}
use Rattle.lmots_core.specs.declared.kind.OtsKind.{OtsKind}
use Rattle.lmots_core.specs.declared.kind.OtsKind.TheVariants.{W1, W2, W4, W8}
use Rattle.lmots_core.specs.Parameters.{type_code}
use Rattle.lms_tree.specs.declared.heights.Height.{Height}
use Rattle.lms_tree.specs.declared.heights.Height.TheVariants.{H5, H10, H15, H20, H25}
use Rattle.lms_tree.specs.Heights.{tree_code}

-- a part behind a front of known length
pub part_read : (front part rest : List ℕ) (n k : ℕ) → length front ≡ n → length part ≡ k → take k (drop n (front ++ part ++ rest)) ≡ part
part_read front part rest n k at size =
    ap (λ l. take k (drop n l)) (append_assoc front part rest) ∙ ap (take k) (drop_at front (part ++ rest) n at) ∙ take_at part rest k size

pub type_code_fits : (ots : OtsKind) → type_code ots < 2 ^ 32
type_code_fits W1 = omega arith
type_code_fits W2 = omega arith
type_code_fits W4 = omega arith
type_code_fits W8 = omega arith

pub tree_code_fits : (height : Height) → tree_code height < 2 ^ 32
tree_code_fits H5 = omega arith
tree_code_fits H10 = omega arith
tree_code_fits H15 = omega arith
tree_code_fits H20 = omega arith
tree_code_fits H25 = omega arith

-- place i of what stands behind the first n bytes
pub behind : (bytes : List ℕ) (n i k : ℕ) → take k (drop (n + i) bytes) ≡ take k (drop i (drop n bytes))
behind bytes n i k = ap (take k) (sym (drop-drop i n bytes))

-- a number below 2^32, written and read
pub number_read : (n : ℕ) → n < 2 ^ 32 → from_be_bytes w32 (to_be_bytes w32 n) ≡ n
number_read n lt = from_be_bytes-to_be_bytes_4 n lt
