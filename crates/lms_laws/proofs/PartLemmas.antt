-- What verifying computes: nodes, keys, digests and the ways up, as bytes and by their lengths; and lists in parts.
use Rattle.std.proofs.Common.{◌≡◌, ℕ, zero, suc, ◌+◌, ◌-◌, ◌/◌, ◌^◌, ◌≤◌, List, ◌++◌, length, take, drop, refl, sym, ap, ◌∙◌, subst, arith, take-add}
use Rattle.std.proofs.lemmas.List.{take-append-drop}
use Rattle.sha2.proofs.Facts256.{length-sha256}
use Rattle.lmots_core.specs.declared.kind.OtsKind.{OtsKind}
use Rattle.lmots_core.specs.declared.kind.OtsKind.TheVariants.{W1, W2, W4, W8}
use Rattle.lmots_core.specs.declared.seed.OtsSeed.{OtsSeed}
use Rattle.lmots_core.specs.Parameters.{top_digit}
use Rattle.lmots_core.specs.OneTime.{key_of_ends, public_key, message_digest}
use Rattle.lms_tree.specs.declared.heights.Height.{Height}
use Rattle.lms_tree.specs.Heights.{leaf_count}
use Rattle.lms_tree.specs.Tree.{leaf_node, inner_node, node}
use Rattle.lms_tree.specs.Verdict.{parent, climbed}
use Rattle.lms_laws.specs.Hashed.{IsBytes}
use Rattle.lms_laws.proofs.HashLemmas.{parent_hashes, bytes_of_sha256}

pub bytes_of_node : (ots : OtsKind) (height : Height) (seed : OtsSeed) (above r : ℕ) → IsBytes (node ots height seed above r)
unfolding node leaf_node inner_node
bytes_of_node ots height seed zero r = bytes_of_sha256 _
bytes_of_node ots height seed (suc above) r = bytes_of_sha256 _

pub bytes_of_leaf_node : (id : List ℕ) (r : ℕ) (key : List ℕ) → IsBytes (leaf_node id r key)
unfolding leaf_node
bytes_of_leaf_node id r key = bytes_of_sha256 _

pub length-leaf_node : (id : List ℕ) (r : ℕ) (key : List ℕ) → length (leaf_node id r key) ≡ 32
unfolding leaf_node
length-leaf_node id r key = length-sha256 _

pub bytes_of_key : (id : List ℕ) (q : ℕ) (ends : List ℕ) → IsBytes (key_of_ends id q ends)
unfolding key_of_ends
bytes_of_key id q ends = bytes_of_sha256 _

pub bytes_of_digest : (id : List ℕ) (q : ℕ) (c m : List ℕ) → IsBytes (message_digest id q c m)
unfolding message_digest
bytes_of_digest id q c m = bytes_of_sha256 _

pub length-digest : (id : List ℕ) (q : ℕ) (c m : List ℕ) → length (message_digest id q c m) ≡ 32
unfolding message_digest
length-digest id q c m = length-sha256 _

pub bytes_of_climbed : (id : List ℕ) (beside : ℕ → List ℕ) (r : ℕ) (value : List ℕ) (n : ℕ) → IsBytes value → IsBytes (climbed id beside r value n)
unfolding climbed
bytes_of_climbed id beside r value zero h = h
bytes_of_climbed id beside r value (suc n) h = subst IsBytes (sym (parent_hashes id (r / 2 ^ n) _ (beside n))) (bytes_of_sha256 _)

pub length-climbed : (id : List ℕ) (beside : ℕ → List ℕ) (r : ℕ) (value : List ℕ) (n : ℕ) → length value ≡ 32
    → length (climbed id beside r value n) ≡ 32
unfolding climbed
length-climbed id beside r value zero h = h
length-climbed id beside r value (suc n) h = ap length (parent_hashes id (r / 2 ^ n) _ (beside n)) ∙ length-sha256 _

pub climbed_next : (id : List ℕ) (beside : ℕ → List ℕ) (r : ℕ) (value : List ℕ) (n : ℕ)
    → climbed id beside r value (suc n) ≡ parent id (r / 2 ^ n) (climbed id beside r value n) (beside n)
unfolding climbed
climbed_next id beside r value n = refl

pub climbed_first : (id : List ℕ) (beside : ℕ → List ℕ) (r : ℕ) (value : List ℕ) → climbed id beside r value 0 ≡ value
unfolding climbed
climbed_first id beside r value = refl

pub node_first : (ots : OtsKind) (height : Height) (seed : OtsSeed) (q : ℕ)
    → node ots height seed 0 (leaf_count height + q) ≡ leaf_node seed.id (leaf_count height + q) (public_key ots seed q)
unfolding node
node_first ots height seed q =
    let back : leaf_count height + q - leaf_count height ≡ q = omega arith in
    ap (λ (n : ℕ). leaf_node seed.id (leaf_count height + q) (public_key ots seed n)) back

pub top_within : (kind : OtsKind) → (1 ≤ top_digit kind) × (top_digit kind ≤ 255)
top_within W1 = (omega arith, omega arith)
top_within W2 = (omega arith, omega arith)
top_within W4 = (omega arith, omega arith)
top_within W8 = (omega arith, omega arith)

pub three_parts : (l : List ℕ) (a b : ℕ) → l ≡ take a l ++ take b (drop a l) ++ drop (a + b) l
three_parts l a b = sym (take-append-drop (a + b) l) ∙ ap (λ f. f ++ drop (a + b) l) (take-add a b l)

pub four_parts : (l : List ℕ) (a b c : ℕ) → l ≡ take a l ++ take b (drop a l) ++ take c (drop (a + b) l) ++ drop (a + b + c) l
four_parts l a b c =
    sym (take-append-drop (a + b + c) l)
    ∙ ap (λ f. f ++ drop (a + b + c) l) (take-add (a + b) c l ∙ ap (λ f. f ++ take c (drop (a + b) l)) (take-add a b l))
