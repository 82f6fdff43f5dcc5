-- The five LMS parameter sets over SHA-256 with m = 32 (RFC 8554, section 5.1, table 2).
use Rattle.std.specs.Prelude.{ℕ, ◌^◌, ◌==◌, Option, Some, None, if◌then◌else◌}
use Rattle.lms_tree.specs.declared.heights.Height.{Height}
use Rattle.lms_tree.specs.declared.heights.Height.TheVariants.{H5, H10, H15, H20, H25}

-- h, the number of levels below the root
abbrev pub levels : Height → ℕ
levels H5 = 5
levels H10 = 10
levels H15 = 15
levels H20 = 20
levels H25 = 25

-- 2^h, the number of leaves
abbrev pub leaf_count : Height → ℕ
leaf_count height = 2 ^ levels height

-- the number of the type, in a public key and in each signature
abbrev pub tree_code : Height → ℕ
tree_code H5 = 5
tree_code H10 = 6
tree_code H15 = 7
tree_code H20 = 8
tree_code H25 = 9

-- the height whose type has this number
abbrev pub height_of_code : ℕ → Option Height
height_of_code code =
    if code == 5 then Some H5
    else if code == 6 then Some H10
    else if code == 7 then Some H15
    else if code == 8 then Some H20
    else if code == 9 then Some H25
    else None
