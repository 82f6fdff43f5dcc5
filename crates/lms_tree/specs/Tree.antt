-- The nodes of the tree and the path of a leaf (RFC 8554, sections 5.3 and 5.4.1).
use Rattle.std.specs.Prelude.{◌≡◌, ℕ, zero, suc, ◌+◌, ◌-◌, ◌*◌, ◌/◌, ◌^◌, ◌<◌, ◌≤◌, List, [], ◌∷◌, ◌++◌, length, bit_xor, slice_index_or}
use Rattle.std.specs.Int.{w32, to_be_bytes}
use Rattle.sha2.specs.Sha256.{sha256}
use Rattle.lmots_core.specs.declared.kind.OtsKind.{OtsKind}
use Rattle.lmots_core.specs.declared.seed.OtsSeed.{OtsSeed}
use Rattle.lmots_core.specs.Chains.{joined}
use Rattle.lmots_core.specs.OneTime.{public_key}
use Rattle.lms_tree.specs.declared.heights.Height.{Height}
use Rattle.lms_tree.specs.Heights.{levels, leaf_count}

-- T[r] of a leaf: H(I ‖ u32str(r) ‖ u16str(D_LEAF) ‖ K[r − 2^h]), D_LEAF being 0x8282 (5.3)
unfoldable pub leaf_node : List ℕ → ℕ → List ℕ → List ℕ
leaf_node id r key = sha256 (id ++ to_be_bytes w32 r ++ 0x82 ∷ 0x82 ∷ [] ++ key)

-- T[r] above the leaves: H(I ‖ u32str(r) ‖ u16str(D_INTR) ‖ T[2r] ‖ T[2r + 1]), D_INTR being 0x8383 (5.3)
unfoldable pub inner_node : List ℕ → ℕ → List ℕ → List ℕ → List ℕ
inner_node id r left right = sha256 (id ++ to_be_bytes w32 r ++ 0x83 ∷ 0x83 ∷ [] ++ left ++ right)

-- T[r], which stands so many levels above the leaves (5.3)
unfoldable pub node : OtsKind → Height → OtsSeed → ℕ → ℕ → List ℕ
node ots height seed zero r = leaf_node seed.id r (public_key ots seed (r - leaf_count height))
node ots height seed (suc above) r =
    inner_node seed.id r (node ots height seed above (2 * r)) (node ots height seed above (2 * r + 1))

-- T[1]
abbrev pub tree_root : OtsKind → Height → OtsSeed → List ℕ
tree_root ots height seed = node ots height seed (levels height) 1

-- the number of the node beside the one that stands above leaf node r by i levels: floor(r / 2^i) xor 1 (5.4.1)
abbrev pub sibling : ℕ → ℕ → ℕ
sibling r i = bit_xor (r / 2 ^ i) 1

-- path[i] of leaf q (5.4.1)
abbrev pub path_node : OtsKind → Height → OtsSeed → ℕ → ℕ → List ℕ
path_node ots height seed q i = node ots height seed i (sibling (leaf_count height + q) i)

-- path[0] ‖ … ‖ path[h − 1] of leaf q
abbrev pub path : OtsKind → Height → OtsSeed → ℕ → List ℕ
path ots height seed q = joined (path_node ots height seed q) (levels height)

-- of so many leaves the first n stand in the list, with these one-time public keys
abbrev pub HaveLeaves : List ℕ → ℕ → (ℕ → List ℕ) → List (List ℕ) → ℕ → Type 0
HaveLeaves id leaves keys nodes n = (q : ℕ) → q < n → slice_index_or nodes (leaves + q) [] ≡ leaf_node id (leaves + q) (keys q)

-- T[r] stands at place r of the list, for each r from 1 on
pub record IsTree (ots : OtsKind) (height : Height) (seed : OtsSeed) (nodes : List (List ℕ)) : Type 0 where
  pub sized : length nodes ≡ 2 * leaf_count height
  pub leaves : (q : ℕ) → q < leaf_count height
      → slice_index_or nodes (leaf_count height + q) [] ≡ leaf_node seed.id (leaf_count height + q) (public_key ots seed q)
  pub inner : (r : ℕ) → 1 ≤ r → r < leaf_count height
      → slice_index_or nodes r [] ≡ inner_node seed.id r (slice_index_or nodes (2 * r) []) (slice_index_or nodes (2 * r + 1) [])
