use Rattle.std.proofs.Common.{◌≡◌, ℕ, ◌+◌, ◌-◌, ◌*◌, refl, sym, ap, ◌∙◌, arith, take, drop}
use Rattle.std.proofs.lemmas.List.{take_rest}
use Rattle.lmots_core.specs.Parameters.{signature_len}
use Rattle.lms_tree.specs.Verdict.{path_part, candidate_root}
use Rattle.lms_tree.proofs.NodeLemmas.{climbed_same}
use Rattle.lms_tree.proofs.FieldLemmas.{behind}
use Rattle.lms_tree.proofs.verifying.candidate_root.Goals as goal

pub returns : goal.returns
returns c =
    let bytes = c.args.signature.now in
    let len : ℕ = signature_len c.args.key.now.ots in
    let end : 4 + c.signature_len-end.result + 4 ≡ 8 + len = let e = c.signature_len-end.ensures in omega arith in
    let one_time : 4 + c.signature_len-end.result - 4 ≡ len = let e = c.signature_len-end.ensures in omega arith in
    let rest = take_rest bytes (4 + c.signature_len-end.result + 4) ∙ ap (λ (n : ℕ). drop n bytes) end in
    let each = λ (i : ℕ). ap (λ l. take 32 (drop (32 * i) l)) rest ∙ sym (behind bytes (8 + len) (32 * i) 32) in
    c.climb.ensures
    ∙ climbed_same c.args.key.now.id _ (path_part c.args.key.now.ots bytes) (c.leaf_count.result + c.number_at-q.result)
    c.leaf_node-leaf.result c.levels.result (λ i _. each i)
    ∙ rw (c.leaf_node-leaf.ensures, c.candidate-ots_key.ensures, one_time, c.leaf_count.ensures, c.number_at-q.ensures, c.levels.ensures) (refl {a = candidate_root c.args.key.now c.args.content.now bytes})
