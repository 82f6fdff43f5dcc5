use Rattle.std.proofs.Common.{◌≡◌, ℕ, ◌++◌, take, drop, sym, ap, ◌∙◌, arith, get_or, ◌<◌}
use Rattle.std.specs.Int.{w32, to_be_bytes, from_be_bytes}
use Rattle.lmots_core.specs.Parameters.{type_code}
use Rattle.lms_tree.specs.Heights.{tree_code}
use Rattle.lms_tree.proofs.SpellingLemmas.{tree_code_of_height, type_code_of_kind, rewritten, rejoined}
use Rattle.lms_tree.proofs.spelling.read_public.Goals as goal

pub returns-clause-written_back : goal.returns-clause-written_back
returns-clause-written_back c =
    let bytes = c.args.bytes.now in
    let size = c.if-bytes-ne56.false in
    let height : tree_code c.in-Some.height ≡ from_be_bytes w32 (take 4 (drop 0 bytes)) =
    tree_code_of_height c.number_at.result c.in-Some.height (sym c.in-Some.ensures) ∙ c.number_at.ensures in
    let ots : type_code c.in-Some-from_type_code.ots ≡ from_be_bytes w32 (take 4 (drop 4 bytes)) =
    type_code_of_kind c.number_at-2.result c.in-Some-from_type_code.ots (sym c.in-Some-from_type_code.ensures) ∙ c.number_at-2.ensures in
    let small : (i : ℕ) → get_or bytes i 0 < 256 = λ i. let fits = c.type_inv.bytes i in omega arith in
    let first = ap (to_be_bytes w32) height ∙ rewritten bytes 0 (omega arith) small in
    let second = ap (to_be_bytes w32) ots ∙ rewritten bytes 4 (omega arith) small in
    ap (λ l. l ++ to_be_bytes w32 (type_code c.in-Some-from_type_code.ots) ++ c.copy_from_slice.new.self ++ c.hash_at-root.result) first
    ∙ ap (λ l. take 4 (drop 0 bytes) ++ l ++ c.copy_from_slice.new.self ++ c.hash_at-root.result) second
    ∙ ap (λ l. take 4 (drop 0 bytes) ++ take 4 (drop 4 bytes) ++ l ++ c.hash_at-root.result) c.copy_from_slice.ensures.after
    ∙ ap (λ l. take 4 (drop 0 bytes) ++ take 4 (drop 4 bytes) ++ take 16 (drop 8 bytes) ++ l) c.hash_at-root.ensures
    ∙ rejoined bytes size
