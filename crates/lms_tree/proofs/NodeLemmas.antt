-- What stands in a tree's list of nodes, and where climbing along a path leads.
use Rattle.std.proofs.Common.{◌≡◌, ℕ, zero, suc, ◌+◌, ◌-◌, ◌*◌, ◌/◌, ◌%◌, ◌^◌, ◌<◌, ◌≤◌, List, [], length, refl, sym, ap, ◌∙◌, subst, inl, inr, arith, bit_xor, slice_index_or, add-one}
use Rattle.std.proofs.lemmas.Bool.{cases_eq}
use Rattle.std.proofs.Math.Nat.{pow-succ', one-le-pow}
use Rattle.std.proofs.Math.Pow.{pow_mono}
use Rattle.sha2.proofs.Facts256.{length-sha256}
use Rattle.lmots_core.specs.declared.kind.OtsKind.{OtsKind}
use Rattle.lmots_core.specs.declared.seed.OtsSeed.{OtsSeed}
use Rattle.lmots_core.specs.Chains.{joined}
use Rattle.lmots_core.specs.OneTime.{public_key}
use Rattle.lmots_core.proofs.ChainLemmas.{joined_same}
use Rattle.lms_tree.specs.declared.heights.Height.{Height}
use Rattle.lms_tree.specs.Heights.{levels, leaf_count}
use Rattle.lms_tree.specs.Tree.{leaf_node, inner_node, node, tree_root, sibling, path_node, path, IsTree}
use Rattle.lms_tree.specs.Paths.{nodes_beside}
use Rattle.lms_tree.specs.Verdict.{parent, climbed}
use Rattle.lms_tree.proofs.NumberLemmas.{xor_even, xor_odd, halved_none, halved_more, sibling_within}

pub length-node : (ots : OtsKind) (height : Height) (seed : OtsSeed) (above r : ℕ) → length (node ots height seed above r) ≡ 32
unfolding node leaf_node inner_node
length-node ots height seed zero r = length-sha256 _
length-node ots height seed (suc above) r = length-sha256 _

-- place r of the list holds T[r]
pub node_at : (ots : OtsKind) (height : Height) (seed : OtsSeed) (nodes : List (List ℕ)) → IsTree ots height seed nodes
    → (above depth r : ℕ) → above + depth ≡ levels height → 2 ^ depth ≤ r → r < 2 * 2 ^ depth
    → slice_index_or nodes r [] ≡ node ots height seed above r
unfolding node
node_at ots height seed nodes tree zero depth r e low high =
    let same : depth ≡ levels height = omega arith in
    let power : 2 ^ depth ≡ leaf_count height = ap (λ (n : ℕ). 2 ^ n) same in
    let place : leaf_count height + (r - leaf_count height) ≡ r = omega arith in
    ap (λ (p : ℕ). slice_index_or nodes p []) (sym place)
    ∙ tree.leaves (r - leaf_count height) (omega arith)
    ∙ ap (λ (p : ℕ). leaf_node seed.id p (public_key ots seed (r - leaf_count height))) place
node_at ots height seed nodes tree (suc above) depth r e low high =
    let twice : 2 ^ suc depth ≡ 2 * 2 ^ depth = pow-succ' 2 depth in
    let lower : 2 ^ suc depth ≤ leaf_count height = pow_mono (omega arith) in
    let least : 1 ≤ 2 ^ depth = one-le-pow depth 2 (omega arith) in
    let left = node_at ots height seed nodes tree above (suc depth) (2 * r) (omega arith) (omega arith) (omega arith) in
    let right = node_at ots height seed nodes tree above (suc depth) (2 * r + 1) (omega arith) (omega arith) (omega arith) in
    tree.inner r (omega arith) (omega arith)
    ∙ ap (λ v. inner_node seed.id r v (slice_index_or nodes (2 * r + 1) [])) left
    ∙ ap (λ v. inner_node seed.id r (node ots height seed above (2 * r)) v) right

pub root_at : (ots : OtsKind) (height : Height) (seed : OtsSeed) (nodes : List (List ℕ)) → IsTree ots height seed nodes
    → slice_index_or nodes 1 [] ≡ tree_root ots height seed
root_at ots height seed nodes tree = node_at ots height seed nodes tree (levels height) 0 1 (omega arith) (omega arith) (omega arith)

-- the nodes beside a leaf's way up are the leaf's path
pub path_at : (ots : OtsKind) (height : Height) (seed : OtsSeed) (nodes : List (List ℕ)) (q : ℕ) → IsTree ots height seed nodes
    → q < leaf_count height → joined (nodes_beside nodes (leaf_count height + q)) (levels height) ≡ path ots height seed q
path_at ots height seed nodes q tree lt =
    let each : (i : ℕ) → i < levels height → nodes_beside nodes (leaf_count height + q) i ≡ path_node ots height seed q i =
    λ i below.
    let depth : i + suc (levels height - i - 1) ≡ levels height = omega arith in
    let within = sibling_within (levels height) (leaf_count height + q) i (levels height - i - 1) depth (omega arith) (omega arith) in
    node_at ots height seed nodes tree i (suc (levels height - i - 1)) (sibling (leaf_count height + q) i) depth within.0 within.1 in
    joined_same (nodes_beside nodes (leaf_count height + q)) (path_node ots height seed q) (levels height) each

-- the node above node r and its sibling
parent_even : (ots : OtsKind) (height : Height) (seed : OtsSeed) (n k : ℕ)
    → parent seed.id (2 * k) (node ots height seed n (2 * k)) (node ots height seed n (bit_xor (2 * k) 1)) ≡ node ots height seed (suc n) k
unfolding node
parent_even ots height seed n k =
    let rest : 2 * k % 2 ≡ 0 = omega arith in
    let half : 2 * k / 2 ≡ k = omega arith in
    rw (rest, half, xor_even k) refl

parent_odd : (ots : OtsKind) (height : Height) (seed : OtsSeed) (n k : ℕ)
    → parent seed.id (2 * k + 1) (node ots height seed n (2 * k + 1)) (node ots height seed n (bit_xor (2 * k + 1) 1)) ≡ node ots height seed (suc n) k
unfolding node
parent_odd ots height seed n k =
    let rest : (2 * k + 1) % 2 ≡ 1 = omega arith in
    let half : (2 * k + 1) / 2 ≡ k = omega arith in
    rw (rest, half, xor_odd k) refl

pub parent_of_node : (ots : OtsKind) (height : Height) (seed : OtsSeed) (n m : ℕ)
    → parent seed.id m (node ots height seed n m) (node ots height seed n (bit_xor m 1)) ≡ node ots height seed (suc n) (m / 2)
parent_of_node ots height seed n m =
    let P : ℕ → Type 0 = λ (v : ℕ). parent seed.id v (node ots height seed n v) (node ots height seed n (bit_xor v 1)) ≡ node ots height seed (suc n) (m / 2) in
    elim (cases_eq (m % 2) 1) [
      | inl odd ↦ let is : 2 * (m / 2) + 1 ≡ m = omega arith in subst P is (parent_odd ots height seed n (m / 2))
      | inr even ↦ let is : 2 * (m / 2) ≡ m = omega arith in subst P is (parent_even ots height seed n (m / 2))
    ]

pub climbed_none : (id : List ℕ) (path : ℕ → List ℕ) (r : ℕ) (value : List ℕ) → climbed id path r value 0 ≡ value
unfolding climbed
climbed_none id path r value = refl

pub climbed_more : (id : List ℕ) (path : ℕ → List ℕ) (r : ℕ) (value : List ℕ) (n : ℕ)
    → climbed id path r value (n + 1) ≡ parent id (r / 2 ^ n) (climbed id path r value n) (path n)
unfolding climbed
climbed_more id path r value n = rw add-one refl

-- only the nodes that are passed count
pub climbed_same : (id : List ℕ) (path other : ℕ → List ℕ) (r : ℕ) (value : List ℕ) (n : ℕ) → ((i : ℕ) → i < n → path i ≡ other i)
    → climbed id path r value n ≡ climbed id other r value n
unfolding climbed
climbed_same id path other r value zero h = refl
climbed_same id path other r value (suc n) h =
    rw (climbed_same id path other r value n (λ i lt. h i (omega arith)), h n (omega arith)) refl

-- climbing from a node of the tree beside the tree's own nodes leads to the tree's nodes
pub climb_reaches : (ots : OtsKind) (height : Height) (seed : OtsSeed) (r n : ℕ)
    → climbed seed.id (λ i. node ots height seed i (sibling r i)) r (node ots height seed 0 r) n ≡ node ots height seed n (r / 2 ^ n)
unfolding climbed
climb_reaches ots height seed r zero = ap (node ots height seed 0) (sym (halved_none r))
climb_reaches ots height seed r (suc n) =
    ap (λ v. parent seed.id (r / 2 ^ n) v (node ots height seed n (sibling r n))) (climb_reaches ots height seed r n)
    ∙ parent_of_node ots height seed n (r / 2 ^ n)
    ∙ ap (node ots height seed (suc n)) (sym (halved_more r n))
