-- Public keys written and read back.
use Rattle.std.proofs.Common.{◌≡◌, ℕ, ◌+◌, ◌<◌, ◌≤◌, ◌==◌, Bool, true, false, List, ◌++◌, length, take, drop, Some, None, Ok, Err, refl, sym, ap, ◌∙◌, arith, length-append, length-take, length-drop, get_or, inl, inr, take-add}
use Rattle.std.specs.Bool.{if◌then◌else◌}
use Rattle.std.specs.Int.{w32, to_be_bytes, from_be_bytes}
use Rattle.std.proofs.lemmas.List.{take_at, drop_at, take_all, get_or-take, get_or-drop, get_or_past}
use Rattle.std.proofs.lemmas.Bool.{eqb-true, eq-eqb, cases_lt, cond-true}
use Rattle.std.proofs.lemmas.Nat.{be_bytes_4}
use Rattle.lmots_core.specs.declared.kind.OtsKind.{OtsKind}
use Rattle.lmots_core.specs.declared.kind.OtsKind.TheVariants.{W1, W2, W4, W8}
use Rattle.lmots_core.specs.Parameters.{type_code, kind_of_code}
use Rattle.lms_tree.specs.declared.heights.Height.{Height}
use Rattle.lms_tree.specs.declared.heights.Height.TheVariants.{H5, H10, H15, H20, H25}
use Rattle.lms_tree.specs.declared.public.Public.{Public}
use Rattle.lms_tree.specs.declared.faults.SigFault.TheVariants.{BadLength}
use Rattle.lms_tree.specs.Heights.{tree_code, height_of_code}
use Rattle.lms_tree.specs.PublicKeys.{public_bytes, public_of_bytes, typed_public}
use Rattle.lms_tree.proofs.FieldLemmas.{number_read, type_code_fits, tree_code_fits}

pub height_of_tree_code : (height : Height) → height_of_code (tree_code height) ≡ Some height
height_of_tree_code H5 = refl
height_of_tree_code H10 = refl
height_of_tree_code H15 = refl
height_of_tree_code H20 = refl
height_of_tree_code H25 = refl

pub kind_of_type_code : (ots : OtsKind) → kind_of_code (type_code ots) ≡ Some ots
kind_of_type_code W1 = refl
kind_of_type_code W2 = refl
kind_of_type_code W4 = refl
kind_of_type_code W8 = refl

heights_tested : (code : ℕ) (height : Height) (a b c d e : Bool) → (a ≡ true → code ≡ 5) → (b ≡ true → code ≡ 6) → (c ≡ true → code ≡ 7)
    → (d ≡ true → code ≡ 8) → (e ≡ true → code ≡ 9)
    → (if a then Some H5 else if b then Some H10 else if c then Some H15 else if d then Some H20 else if e then Some H25 else None) ≡ Some height
    → tree_code height ≡ code
heights_tested code height true b c d e p q r s t h = let same : H5 ≡ height = cc in ap tree_code (sym same) ∙ sym (p refl)
heights_tested code height false true c d e p q r s t h = let same : H10 ≡ height = cc in ap tree_code (sym same) ∙ sym (q refl)
heights_tested code height false false true d e p q r s t h = let same : H15 ≡ height = cc in ap tree_code (sym same) ∙ sym (r refl)
heights_tested code height false false false true e p q r s t h = let same : H20 ≡ height = cc in ap tree_code (sym same) ∙ sym (s refl)
heights_tested code height false false false false true p q r s t h = let same : H25 ≡ height = cc in ap tree_code (sym same) ∙ sym (t refl)
heights_tested code height false false false false false p q r s t h = cc

pub tree_code_of_height : (code : ℕ) (height : Height) → height_of_code code ≡ Some height → tree_code height ≡ code
tree_code_of_height code height h =
    heights_tested code height (code == 5) (code == 6) (code == 7) (code == 8) (code == 9)
    (eqb-true code 5) (eqb-true code 6) (eqb-true code 7) (eqb-true code 8) (eqb-true code 9) h

kinds_tested : (code : ℕ) (ots : OtsKind) (a b c d : Bool) → (a ≡ true → code ≡ 1) → (b ≡ true → code ≡ 2) → (c ≡ true → code ≡ 3)
    → (d ≡ true → code ≡ 4) → (if a then Some W1 else if b then Some W2 else if c then Some W4 else if d then Some W8 else None) ≡ Some ots
    → type_code ots ≡ code
kinds_tested code ots true b c d p q r s h = let same : W1 ≡ ots = cc in ap type_code (sym same) ∙ sym (p refl)
kinds_tested code ots false true c d p q r s h = let same : W2 ≡ ots = cc in ap type_code (sym same) ∙ sym (q refl)
kinds_tested code ots false false true d p q r s h = let same : W4 ≡ ots = cc in ap type_code (sym same) ∙ sym (r refl)
kinds_tested code ots false false false true p q r s h = let same : W8 ≡ ots = cc in ap type_code (sym same) ∙ sym (s refl)
kinds_tested code ots false false false false p q r s h = cc

pub type_code_of_kind : (code : ℕ) (ots : OtsKind) → kind_of_code code ≡ Some ots → type_code ots ≡ code
type_code_of_kind code ots h =
    kinds_tested code ots (code == 1) (code == 2) (code == 3) (code == 4) (eqb-true code 1) (eqb-true code 2) (eqb-true code 3) (eqb-true code 4) h

-- four bytes, read as a number and written again
pub rewritten : (bytes : List ℕ) (place : ℕ) → place + 4 ≤ length bytes → ((i : ℕ) → get_or bytes i 0 < 256)
    → to_be_bytes w32 (from_be_bytes w32 (take 4 (drop place bytes))) ≡ take 4 (drop place bytes)
rewritten bytes place le small =
    let long : length (take 4 (drop place bytes)) ≡ 4 = omega (arith, length-take 4 (drop place bytes), length-drop place bytes) in
    be_bytes_4 (take 4 (drop place bytes)) (from_be_bytes w32 (take 4 (drop place bytes))) long
    (λ i. elim (cases_lt i 4) [
      | inl below ↦ rw (get_or-take 4 (drop place bytes) i 0 below, get_or-drop place bytes i 0) (small (place + i))
      | inr past ↦ let none : get_or (take 4 (drop place bytes)) i 0 ≡ 0 = get_or_past (take 4 (drop place bytes)) i 0 (omega arith) in omega arith
    ]) refl

-- 56 bytes from their four fields
pub rejoined : (bytes : List ℕ) → length bytes ≡ 56
    → take 4 (drop 0 bytes) ++ take 4 (drop 4 bytes) ++ take 16 (drop 8 bytes) ++ take 32 (drop 24 bytes) ≡ bytes
rejoined bytes size =
    ap (λ l. l ++ take 16 (drop 8 bytes) ++ take 32 (drop 24 bytes)) (sym (take-add 4 4 bytes))
    ∙ ap (λ l. l ++ take 32 (drop 24 bytes)) (sym (take-add 8 16 bytes))
    ∙ sym (take-add 24 32 bytes)
    ∙ take_all 56 bytes (omega arith)

pub read_of_written : (key : Public) → length key.id ≡ 16 → length key.root ≡ 32 → public_of_bytes (public_bytes key) ≡ Ok key
read_of_written key id root =
    let height = number_read (tree_code key.height) (tree_code_fits key.height) in
    let ots = number_read (type_code key.ots) (type_code_fits key.ots) in
    let whole : length (public_bytes key) ≡ 56 = omega (arith, length-append key.id key.root) in
    let bytes = public_bytes key in
    let id_read : take 16 (drop 8 bytes) ≡ key.id = take_at key.id key.root 16 id in
    let root_read : take 32 (drop 24 bytes) ≡ key.root =
    ap (take 32) (drop_at key.id key.root 16 id) ∙ take_all 32 key.root (omega arith) in
    let tested = eq-eqb (length bytes) 56 whole in
    cond-true (length bytes == 56) (typed_public (height_of_code (from_be_bytes w32 (take 4 bytes)))
    (kind_of_code (from_be_bytes w32 (take 4 (drop 4 bytes)))) (take 16 (drop 8 bytes)) (take 32 (drop 24 bytes))) (Err BadLength) tested
    ∙ ap (λ (n : ℕ). typed_public (height_of_code n) (kind_of_code (from_be_bytes w32 (take 4 (drop 4 bytes)))) (take 16 (drop 8 bytes)) (take 32 (drop 24 bytes))) height
    ∙ ap (λ o. typed_public o (kind_of_code (from_be_bytes w32 (take 4 (drop 4 bytes)))) (take 16 (drop 8 bytes)) (take 32 (drop 24 bytes))) (height_of_tree_code key.height)
    ∙ ap (λ (n : ℕ). typed_public (Some key.height) (kind_of_code n) (take 16 (drop 8 bytes)) (take 32 (drop 24 bytes))) ots
    ∙ ap (λ o. typed_public (Some key.height) o (take 16 (drop 8 bytes)) (take 32 (drop 24 bytes))) (kind_of_type_code key.ots)
    ∙ ap (λ l. typed_public (Some key.height) (Some key.ots) l (take 32 (drop 24 bytes))) id_read
    ∙ ap (λ l. typed_public (Some key.height) (Some key.ots) key.id l) root_read
