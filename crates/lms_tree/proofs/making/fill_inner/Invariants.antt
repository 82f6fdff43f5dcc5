use Rattle.std.proofs.Common.{◌≡◌, ℕ, ◌+◌, ◌*◌, ◌<◌, ◌≤◌, [], length, slice_index_or}
use Rattle.lms_tree.specs.Tree.{inner_node}
use Rattle.lms_tree.proofs.making.fill_inner.Given as goal

abbrev pub invariant-loop-r : goal.invariant-loop-r
invariant-loop-r l = record {
  sized : length l.nodes ≡ 2 * l.leaves;
  below : l.r ≤ l.leaves;
  same : (k : ℕ) → l.leaves ≤ k → slice_index_or l.nodes k [] ≡ slice_index_or l.initial.nodes k [];
  filled : (k : ℕ) → 1 ≤ k → l.r ≤ k → k < l.leaves
      → slice_index_or l.nodes k [] ≡ inner_node l.id k (slice_index_or l.nodes (2 * k) []) (slice_index_or l.nodes (2 * k + 1) []);
}
