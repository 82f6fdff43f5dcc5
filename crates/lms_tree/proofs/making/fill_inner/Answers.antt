use Rattle.std.proofs.Common.{◌≢◌, ℕ, ◌+◌, ◌-◌, ◌*◌, [], sym, ap, ◌∙◌, arith, slice_index_or, slice_set, get_or-set_other, get_or-set_same, inl, inr}
use Rattle.std.proofs.lemmas.Bool.{cases_eq}
use Rattle.std.proofs.lemmas.List.{length-set}
use Rattle.lms_tree.specs.Tree.{inner_node}
use Rattle.lms_tree.proofs.making.fill_inner.Goals as goal

pub loop-r-preserved : goal.loop-r-preserved
loop-r-preserved c =
    let sized = c.loop-r.invariant.sized in
    let high = c.loop-r.invariant.below in
    record {
      sized = length-set c.loop-r.nodes (c.loop-r.r - 1) c.inner_node.result ∙ c.loop-r.invariant.sized;
      below = omega arith;
      same = λ k h.
          let apart : k ≢ c.loop-r.r - 1 = omega arith in
          get_or-set_other c.loop-r.nodes (c.loop-r.r - 1) k c.inner_node.result [] apart ∙ c.loop-r.invariant.same k h;
      filled = λ k least h lt.
          let left : 2 * k ≢ c.loop-r.r - 1 = omega arith in
          let right : 2 * k + 1 ≢ c.loop-r.r - 1 = omega arith in
          let children = ap (λ v. inner_node c.args.id.now k v (slice_index_or c.loop-r.nodes (2 * k + 1) []))
          (sym (get_or-set_other c.loop-r.nodes (c.loop-r.r - 1) (2 * k) c.inner_node.result [] left))
          ∙ ap (λ v. inner_node c.args.id.now k (slice_index_or (slice_set c.loop-r.nodes (c.loop-r.r - 1) c.inner_node.result) (2 * k) []) v)
          (sym (get_or-set_other c.loop-r.nodes (c.loop-r.r - 1) (2 * k + 1) c.inner_node.result [] right)) in
          elim (cases_eq k (c.loop-r.r - 1)) [
            | inl here ↦
                ap (λ (p : ℕ). slice_index_or (slice_set c.loop-r.nodes (c.loop-r.r - 1) c.inner_node.result) p []) here
                ∙ get_or-set_same c.loop-r.nodes (c.loop-r.r - 1) c.inner_node.result [] (omega arith)
                ∙ c.inner_node.ensures
                ∙ ap (λ (p : ℕ). inner_node c.args.id.now p (slice_index_or c.loop-r.nodes (2 * p) []) (slice_index_or c.loop-r.nodes (2 * p + 1) [])) (sym here)
                ∙ children
            | inr apart ↦
                get_or-set_other c.loop-r.nodes (c.loop-r.r - 1) k c.inner_node.result [] apart
                ∙ c.loop-r.invariant.filled k least (omega arith) lt
                ∙ children
          ];
    }
