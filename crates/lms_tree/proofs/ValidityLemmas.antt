-- A leaf's signature is valid, and the verdict is good exactly where a signature is valid.
use Rattle.std.proofs.Common.{◌≡◌, ℕ, ◌+◌, ◌-◌, ◌*◌, ◌/◌, ◌^◌, ◌<◌, ◌≤◌, ◌==◌, nat_lt, Bool, true, false, List, ◌++◌, length, take, drop, Result, Ok, Err, refl, sym, ap, ◌∙◌, arith, length-append, append_assoc}
use Rattle.std.specs.Str.{bytes_eq}
use Rattle.std.specs.Bool.{if◌then◌else◌}
use Rattle.std.specs.Int.{w32, to_be_bytes, from_be_bytes}
use Rattle.std.proofs.lemmas.List.{drop_at}
use Rattle.std.proofs.lemmas.Bool.{eqb-true, eq-eqb, ltb-true, lt-ltb, le-ltb}
use Rattle.std.proofs.lemmas.Slice.Eq.{bytes_eq-Decides}
use Rattle.sha2.proofs.Facts256.{length-sha256}
use Rattle.lmots_core.specs.declared.seed.OtsSeed.{OtsSeed}
use Rattle.lmots_core.specs.Parameters.{type_code, signature_len}
use Rattle.lmots_core.specs.OneTime.{public_key, signature, candidate_key}
use Rattle.lmots_core.proofs.ChainLemmas.{value_in_joined, length-joined}
use Rattle.lmots_core.proofs.SignatureLemmas.{candidate_of_signature, length-signature}
use Rattle.lms_tree.specs.declared.heights.Height.{Height}
use Rattle.lms_tree.specs.declared.heights.Height.TheVariants.{H5, H10, H15, H20, H25}
use Rattle.lms_tree.specs.declared.public.Public.{Public}
use Rattle.lms_tree.specs.declared.faults.SigFault.{SigFault}
use Rattle.lms_tree.specs.declared.faults.SigFault.TheVariants.{BadLength, BadType, BadLeaf, WrongRoot}
use Rattle.lms_tree.specs.Heights.{levels, leaf_count, tree_code}
use Rattle.lms_tree.specs.Tree.{leaf_node, node, tree_root, sibling, path_node, path}
use Rattle.lms_tree.specs.Keys.{TreeKey, public_of_key}
use Rattle.lms_tree.specs.Signatures.{tree_signature_len, tree_signature, leaf_randomizer}
use Rattle.lms_tree.specs.Verdict.{number_at, ots_part, path_part, climbed, candidate_root, Valid, verdict}
use Rattle.lms_tree.proofs.NumberLemmas.{halved_within}
use Rattle.lms_tree.proofs.NodeLemmas.{length-node, climbed_same, climb_reaches}
use Rattle.lms_tree.proofs.FieldLemmas.{number_read, part_read, type_code_fits, tree_code_fits, behind}

pub leaf_count_fits : (height : Height) → leaf_count height ≤ 2 ^ 25
leaf_count_fits H5 = omega arith
leaf_count_fits H10 = omega arith
leaf_count_fits H15 = omega arith
leaf_count_fits H20 = omega arith
leaf_count_fits H25 = omega arith

-- a leaf node is what its one-time key makes of it
leaf_is_node : (key : TreeKey) (q : ℕ)
    → leaf_node key.seed.id (leaf_count key.height + q) (public_key key.ots key.seed q) ≡ node key.ots key.height key.seed 0 (leaf_count key.height + q)
unfolding node
leaf_is_node key q =
    let back : leaf_count key.height + q - leaf_count key.height ≡ q = omega arith in
    ap (λ (n : ℕ). leaf_node key.seed.id (leaf_count key.height + q) (public_key key.ots key.seed n)) (sym back)

module _ (key : TreeKey) (q : ℕ) (randomizer content : List ℕ) (lt : q < leaf_count key.height) (size : length randomizer ≡ 32) where
  number : List ℕ
  number = to_be_bytes w32 q

  one_time : List ℕ
  one_time = signature key.ots key.seed q randomizer content

  tree_type : List ℕ
  tree_type = to_be_bytes w32 (tree_code key.height)

  nodes : List ℕ
  nodes = path key.ots key.height key.seed q

  whole : List ℕ
  whole = tree_signature key q randomizer content

  length-one_time : length one_time ≡ signature_len key.ots
  unfolding one_time
  length-one_time = length-signature key.ots key.seed q randomizer content size

  length-nodes : length nodes ≡ 32 * levels key.height
  unfolding nodes
  length-nodes = length-joined (path_node key.ots key.height key.seed q) (levels key.height)
      (λ i. length-node key.ots key.height key.seed i (sibling (leaf_count key.height + q) i))

  length-fronts : (length (number ++ one_time) ≡ 4 + signature_len key.ots) × (length (number ++ one_time ++ tree_type) ≡ 8 + signature_len key.ots)
  unfolding number tree_type
  length-fronts =
      let a = length-append number one_time in
      let b = length-append (number ++ one_time) tree_type in
      let four : length number ≡ 4 = refl in
      let more : length tree_type ≡ 4 = refl in
      let long = length-one_time in
      (omega arith, omega arith)

  sized : length whole ≡ tree_signature_len key.ots key.height
  unfolding whole number one_time tree_type nodes
  sized =
      let fronts = length-fronts in
      let path_long = length-nodes in
      let all = length-append (number ++ one_time ++ tree_type) nodes in
      omega arith

  leaf_read : number_at whole 0 ≡ q
  unfolding whole
  leaf_read = let fits = leaf_count_fits key.height in number_read q (omega arith)

  ots_typed : number_at whole 4 ≡ type_code key.ots
  unfolding whole
  ots_typed = number_read (type_code key.ots) (type_code_fits key.ots)

  tree_typed : number_at whole (4 + signature_len key.ots) ≡ tree_code key.height
  unfolding whole number one_time tree_type nodes
  tree_typed =
      ap (from_be_bytes w32) (part_read (number ++ one_time) tree_type nodes (4 + signature_len key.ots) 4 length-fronts.0 refl)
      ∙ number_read (tree_code key.height) (tree_code_fits key.height)

  one_time_read : ots_part key.ots whole ≡ one_time
  unfolding whole number one_time tree_type nodes
  one_time_read =
      ap (λ l. take (signature_len key.ots) (drop 4 l)) (append_assoc (number ++ one_time) tree_type nodes)
      ∙ part_read number one_time (tree_type ++ nodes) 4 (signature_len key.ots) refl length-one_time

  path_is : (i : ℕ) → i < levels key.height → path_part key.ots whole i ≡ path_node key.ots key.height key.seed q i
  unfolding whole number one_time tree_type nodes
  path_is i below =
      behind whole (8 + signature_len key.ots) (32 * i) 32
      ∙ ap (λ l. take 32 (drop (32 * i) l)) (drop_at (number ++ one_time ++ tree_type) nodes (8 + signature_len key.ots) length-fronts.1)
      ∙ value_in_joined (path_node key.ots key.height key.seed q) (levels key.height) i
      (λ n. length-node key.ots key.height key.seed n (sibling (leaf_count key.height + q) n)) below

  root_reached : candidate_root (public_of_key key) content whole ≡ tree_root key.ots key.height key.seed
  unfolding one_time
  root_reached =
      let id = key.seed.id in
      let h = levels key.height in
      let r = leaf_count key.height + q in
      let beside = path_part key.ots whole in
      let within = halved_within h r h 0 (omega arith) (omega arith) (omega arith) in
      let top : r / 2 ^ h ≡ 1 = omega arith in
      ap (λ (n : ℕ). climbed id beside (leaf_count key.height + n)
      (leaf_node id (leaf_count key.height + n) (candidate_key key.ots id n content (ots_part key.ots whole))) h) leaf_read
      ∙ ap (λ s. climbed id beside r (leaf_node id r (candidate_key key.ots id q content s)) h) one_time_read
      ∙ ap (λ k. climbed id beside r (leaf_node id r k) h) (candidate_of_signature key.ots key.seed q randomizer content size)
      ∙ ap (λ v. climbed id beside r v h) (leaf_is_node key q)
      ∙ climbed_same id beside (λ i. node key.ots key.height key.seed i (sibling r i)) r (node key.ots key.height key.seed 0 r) h path_is
      ∙ climb_reaches key.ots key.height key.seed r h
      ∙ ap (node key.ots key.height key.seed h) top

  pub signature_is_valid : Valid (public_of_key key) content (tree_signature key q randomizer content)
  unfolding whole
  signature_is_valid =
      let read = leaf_read in
      record { sized = sized; ots_typed = ots_typed; tree_typed = tree_typed; leaf = omega arith; root = root_reached }

-- the tests of a verdict, in order
abbrev judged : Bool → Bool → Bool → Bool → Bool → Bool → Result (Unit {0}) SigFault
judged short ots sized tree leaf root =
    if short then Err BadLength
    else if ots
    then if sized
    then if tree
    then if leaf
    then if root then Ok tt
    else Err WrongRoot
    else Err BadLeaf
    else Err BadType
    else Err BadLength
    else Err BadType

record Passed (short ots sized tree leaf root : Bool) : Type 0 where
  short_is : short ≡ false
  ots_is : ots ≡ true
  sized_is : sized ≡ true
  tree_is : tree ≡ true
  leaf_is : leaf ≡ true
  root_is : root ≡ true

all_passed : (short ots sized tree leaf root : Bool) → judged short ots sized tree leaf root ≡ Ok tt → Passed short ots sized tree leaf root
all_passed true ots sized third leaf root e = cc
all_passed false false sized third leaf root e = cc
all_passed false true false third leaf root e = cc
all_passed false true true false leaf root e = cc
all_passed false true true true false root e = cc
all_passed false true true true true false e = cc
all_passed false true true true true true e =
    record { short_is = refl; ots_is = refl; sized_is = refl; tree_is = refl; leaf_is = refl; root_is = refl }

pub valid_from_verdict : (key : Public) (content signature : List ℕ) → verdict key content signature ≡ Ok tt → Valid key content signature
valid_from_verdict key content signature e =
    let passed = all_passed (nat_lt (length signature) 8) (number_at signature 4 == type_code key.ots)
    (length signature == tree_signature_len key.ots key.height)
    (number_at signature (4 + signature_len key.ots) == tree_code key.height)
    (nat_lt (number_at signature 0) (leaf_count key.height)) (bytes_eq (candidate_root key content signature) key.root) e in
    record {
      sized = eqb-true _ _ passed.sized_is;
      ots_typed = eqb-true _ _ passed.ots_is;
      tree_typed = eqb-true _ _ passed.tree_is;
      leaf = ltb-true _ _ passed.leaf_is;
      root = (bytes_eq-Decides (candidate_root key content signature) key.root).0 passed.root_is;
    }

pub verdict_from_valid : (key : Public) (content signature : List ℕ) → Valid key content signature → verdict key content signature ≡ Ok tt
verdict_from_valid key content signature valid =
    let long = valid.sized in
    let short : nat_lt (length signature) 8 ≡ false = le-ltb (length signature) 8 (omega arith) in
    let ots = eq-eqb _ _ valid.ots_typed in
    let sized = eq-eqb _ _ valid.sized in
    let tree = eq-eqb _ _ valid.tree_typed in
    let leaf = lt-ltb _ _ valid.leaf in
    let root = (bytes_eq-Decides (candidate_root key content signature) key.root).1 valid.root in
    rw (short, ots, sized, tree, leaf, root) refl

pub length-leaf_randomizer : (seed : OtsSeed) (q : ℕ) → length (leaf_randomizer seed q) ≡ 32
unfolding leaf_randomizer
length-leaf_randomizer seed q = length-sha256 _
