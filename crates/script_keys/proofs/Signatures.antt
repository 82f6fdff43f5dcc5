-- A signature of a leaf is a list of bytes, and has a place in a message.
use Rattle.std.proofs.Common.{◌≡◌, ℕ, zero, suc, ◌+◌, ◌*◌, ◌-◌, ◌<◌, Bool, true, false, cond, nat_le, List, ◌++◌, length, refl, ap, ◌∙◌}
use Rattle.std.specs.Prelude.{◌==◌}
use Rattle.std.specs.Int.{w32, to_be_bytes}
use Rattle.fab_base.specs.Fields.{are_bytes}
use Rattle.fab_base.specs.declared.limits.TheConstants.{LONGEST_SIGNATURE}
use Rattle.fab_base.specs.declared.ids.Who.{Who}
use Rattle.fab_base.proofs.Bytes.{are_bytes-append, are_bytes-to_be_bytes}
use Rattle.fab_base.proofs.Tests.{and_both}
use Rattle.fab_rules.specs.Format.{signature_fits}
use Rattle.fab_rules.proofs.Digests.{are_bytes-sha256}
use Rattle.fault_script.specs.declared.scripts.Script.{Script}
use Rattle.lmots_core.specs.declared.kind.OtsKind.{OtsKind}
use Rattle.lmots_core.specs.declared.kind.OtsKind.TheVariants.{W4}
use Rattle.lmots_core.specs.declared.seed.OtsSeed.{OtsSeed}
use Rattle.lmots_core.specs.Parameters.{width, chain_count, type_code}
use Rattle.lmots_core.specs.Digits.{coef}
use Rattle.lmots_core.specs.Chains.{chain_step, chain, chain_start, joined}
use Rattle.lmots_core.specs.OneTime.{signed_digits, signed_value, signature, public_key}
use Rattle.lms_tree.specs.declared.heights.Height.{Height}
use Rattle.lms_tree.specs.declared.heights.Height.TheVariants.{H5, H10}
use Rattle.lms_tree.specs.Heights.{levels, leaf_count, tree_code}
use Rattle.lms_tree.specs.Keys.{TreeKey, public_of_key}
use Rattle.lms_tree.specs.Tree.{leaf_node, inner_node, node, path_node, path, sibling}
use Rattle.lms_tree.specs.Signatures.{leaf_randomizer, leaf_signature, tree_signature_len}
use Rattle.lms_tree.specs.Verdict.{Valid}
use Rattle.lms_tree.proofs.SignerLemmas.{leaf_signature_valid}
use Rattle.script_keys.specs.Keys.{key_height, key_of, leaves_of, signature_of}

joined_are : (y : ℕ → List ℕ) (n : ℕ) → ((i : ℕ) → are_bytes (y i) ≡ true) → are_bytes (joined y n) ≡ true
unfolding joined
joined_are y zero h = refl
joined_are y (suc n) h = are_bytes-append (joined y n) (y n) (joined_are y n h) (h n)

step_are : (id : List ℕ) (q i j : ℕ) (value : List ℕ) → are_bytes (chain_step id q i j value) ≡ true
unfolding chain_step
step_are id q i j value = are_bytes-sha256 _

chain_are : (id : List ℕ) (q i from steps : ℕ) (value : List ℕ) → are_bytes value ≡ true → are_bytes (chain id q i from steps value) ≡ true
unfolding chain
chain_are id q i from zero value h = h
chain_are id q i from (suc steps) value h = step_are id q i (from + steps) (chain id q i from steps value)

leaf_are : (id : List ℕ) (r : ℕ) (key : List ℕ) → are_bytes (leaf_node id r key) ≡ true
unfolding leaf_node
leaf_are id r key = are_bytes-sha256 _

inner_are : (id : List ℕ) (r : ℕ) (left right : List ℕ) → are_bytes (inner_node id r left right) ≡ true
unfolding inner_node
inner_are id r left right = are_bytes-sha256 _

node_are : (ots : OtsKind) (height : Height) (seed : OtsSeed) (above r : ℕ) → are_bytes (node ots height seed above r) ≡ true
unfolding node
node_are ots height seed zero r = leaf_are seed.id r (public_key ots seed (r - leaf_count height))
node_are ots height seed (suc above) r =
    inner_are seed.id r (node ots height seed above (2 * r)) (node ots height seed above (2 * r + 1))

randomizer_are : (seed : OtsSeed) (q : ℕ) → are_bytes (leaf_randomizer seed q) ≡ true
unfolding leaf_randomizer
randomizer_are seed q = are_bytes-sha256 _

value_are : (kind : OtsKind) (seed : OtsSeed) (q : ℕ) (digits : List ℕ) (i : ℕ) → are_bytes (signed_value kind seed q digits i) ≡ true
value_are kind seed q digits i =
    chain_are seed.id q i 0 (coef digits i (width kind)) (chain_start seed q i) (step_are seed.id q i 0xff seed.seed)

one_time_are : (kind : OtsKind) (seed : OtsSeed) (q : ℕ) (randomizer content : List ℕ) → are_bytes randomizer ≡ true
    → are_bytes (signature kind seed q randomizer content) ≡ true
one_time_are kind seed q randomizer content h =
    let digits = signed_digits kind seed.id q randomizer content in
    are_bytes-append (to_be_bytes w32 (type_code kind) ++ randomizer) (joined (signed_value kind seed q digits) (chain_count kind))
    (are_bytes-append (to_be_bytes w32 (type_code kind)) randomizer (are_bytes-to_be_bytes w32 (type_code kind)) h)
    (joined_are (signed_value kind seed q digits) (chain_count kind) (value_are kind seed q digits))

leaf_signature_are : (key : TreeKey) (q : ℕ) (content : List ℕ) → are_bytes (leaf_signature key q content) ≡ true
leaf_signature_are key q content =
    let one_time = signature key.ots key.seed q (leaf_randomizer key.seed q) content in
    let way = path key.ots key.height key.seed q in
    are_bytes-append (to_be_bytes w32 q ++ one_time ++ to_be_bytes w32 (tree_code key.height)) way
    (are_bytes-append (to_be_bytes w32 q ++ one_time) (to_be_bytes w32 (tree_code key.height))
    (are_bytes-append (to_be_bytes w32 q) one_time (are_bytes-to_be_bytes w32 q)
    (one_time_are key.ots key.seed q (leaf_randomizer key.seed q) content (randomizer_are key.seed q)))
    (are_bytes-to_be_bytes w32 (tree_code key.height)))
    (joined_are (path_node key.ots key.height key.seed q) (levels key.height)
    (λ i. node_are key.ots key.height key.seed i (sibling (leaf_count key.height + q) i)))

short_by : (b : Bool) → nat_le (tree_signature_len W4 (cond b H5 H10)) LONGEST_SIGNATURE ≡ true
short_by true = refl
short_by false = refl

short : (script : Script) (who : Who) → nat_le (tree_signature_len W4 (key_height script who)) LONGEST_SIGNATURE ≡ true
short script (Who.Replica i) = short_by (script.height == 5)
short script (Who.Client c) = refl

-- each signature that a key gives is valid under it
pub is_valid : (script : Script) (who : Who) (k : ℕ) (content : List ℕ) → k < leaves_of script who
    → Valid (public_of_key (key_of script who)) content (signature_of script who k content)
is_valid script who k content lt = leaf_signature_valid (key_of script who) k content lt

-- it has a place in a message
pub has_place : (script : Script) (who : Who) (k : ℕ) (content : List ℕ) → k < leaves_of script who
    → signature_fits (signature_of script who k content) ≡ true
has_place script who k content lt =
    let long = (is_valid script who k content lt).sized in
    and_both (nat_le (length (signature_of script who k content)) LONGEST_SIGNATURE) (are_bytes (signature_of script who k content))
    (ap (λ n. nat_le n LONGEST_SIGNATURE) long ∙ short script who)
    (leaf_signature_are (key_of script who) k content)
