use Rattle.std.proofs.Common.{◌≢◌, ◌≡◌, ℕ, ◌+◌, List, [], ap, ◌∙◌, arith, slice_index_or, slice_set, get_or-set_other, get_or-set_same, inl, inr}
use Rattle.std.proofs.lemmas.Bool.{cases_eq}
use Rattle.lms_tree.specs.Tree.{leaf_node}
use Rattle.lms_tree.proofs.making.set_leaf.Goals as goal

pub returns : goal.returns
returns c = λ keys same before k lt.
    let nodes : List (List ℕ) = c.args.nodes.now in
    let at = c.args.leaves + c.args.q in
    let node : List ℕ = c.leaf_node.result in
    elim (cases_eq k c.args.q) [
      | inl here ↦
          let value : slice_index_or (slice_set nodes at node) at [] ≡ leaf_node c.args.id.now at (keys c.args.q) =
          get_or-set_same nodes at node [] (omega arith) ∙ c.leaf_node.ensures ∙ ap (leaf_node c.args.id.now at) same in
          rw here value
      | inr other ↦
          let apart : c.args.leaves + k ≢ at = omega (arith, other) in
          get_or-set_other nodes at (c.args.leaves + k) node [] apart ∙ before k (omega (arith, other))
    ]
