-- Paths as the code holds them: in the list of a tree's nodes, and in bytes.
use Rattle.std.specs.Prelude.{ℕ, ◌*◌, List, [], take, drop, slice_index_or}
use Rattle.lms_tree.specs.Tree.{sibling}

-- the node beside the way up from leaf node r, by i levels
abbrev pub nodes_beside : List (List ℕ) → ℕ → ℕ → List ℕ
nodes_beside nodes r i = slice_index_or nodes (sibling r i) []

-- node i of a path that stands alone in bytes
abbrev pub path_read : List ℕ → ℕ → List ℕ
path_read bytes i = take 32 (drop (32 * i) bytes)
