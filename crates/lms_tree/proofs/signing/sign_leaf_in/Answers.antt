use Rattle.std.proofs.Common.{◌≡◌, ℕ, ◌+◌, List, ◌++◌, ◌<◌, sym, ap, ◌∙◌, subst}
use Rattle.std.specs.Int.{w32, to_be_bytes}
use Rattle.std.proofs.lemmas.Slice.{pushed}
use Rattle.lmots_core.specs.OneTime.{signature}
use Rattle.lms_tree.specs.Heights.{tree_code, leaf_count}
use Rattle.lmots_core.specs.Chains.{joined}
use Rattle.lms_tree.specs.Tree.{path}
use Rattle.lms_tree.specs.Paths.{nodes_beside}
use Rattle.lms_tree.specs.Keys.{TreeKey, public_of_key}
use Rattle.lms_tree.specs.Signatures.{leaf_randomizer, leaf_signature}
use Rattle.lms_tree.specs.Verdict.{Valid}
use Rattle.lms_tree.proofs.NodeLemmas.{path_at}
use Rattle.lms_tree.proofs.ValidityLemmas.{signature_is_valid, length-leaf_randomizer}
use Rattle.lms_tree.proofs.signing.sign_leaf_in.Goals as goal

pub returns-clause-signed : goal.returns-clause-signed
returns-clause-signed c =
    let P : TreeKey → Type 0 = λ (key : TreeKey). c.from_vec.result ≡ leaf_signature key c.args.q c.args.content.now in
    let key = c.key.inside in
    let r : c.leaf_count.result + c.args.q ≡ leaf_count key.height + c.args.q = ap (λ (n : ℕ). n + c.args.q) c.leaf_count.ensures in
    let lt : c.args.q < leaf_count key.height = subst (λ (k : TreeKey). c.args.q < leaf_count k.height) (sym c.key.view_is) c.requires.leaf in
    let beside : joined (nodes_beside c.as_slice.result.now (c.leaf_count.result + c.args.q)) c.levels.result ≡ path key.ots key.height key.seed c.args.q =
    rw (c.as_slice.ensures.value, r, c.levels.ensures) (path_at key.ots key.height key.seed key.nodes.items c.args.q c.key.invariant lt) in
    let q = to_be_bytes w32 c.args.q in
    let one_time = signature key.ots key.seed c.args.q (leaf_randomizer key.seed c.args.q) c.args.content.now in
    let one : c.extend_from_slice.new.self.items ≡ q =
    pushed c.to_be_bytes.result c.into_bytes-bytes.ensures.items c.unwrap.ensures c.extend_from_slice.ensures.items ∙ c.to_be_bytes.ensures in
    let two : c.sign_in.new.into.items ≡ q ++ one_time =
    c.sign_in.ensures.signed
    ∙ ap (λ l. l ++ signature key.ots key.seed c.args.q c.leaf_randomizer-randomizer.result c.args.content.now) one
    ∙ ap (λ l. q ++ signature key.ots key.seed c.args.q l c.args.content.now) c.leaf_randomizer-randomizer.ensures in
    let three : c.extend_from_slice-2.new.self.items ≡ q ++ one_time ++ to_be_bytes w32 (tree_code key.height) =
    pushed c.to_be_bytes-2.result two c.unwrap-2.ensures c.extend_from_slice-2.ensures.items
    ∙ ap (λ l. q ++ one_time ++ l) (c.to_be_bytes-2.ensures ∙ ap (to_be_bytes w32) c.type_code.ensures) in
    subst P c.key.view_is
    (c.from_vec.ensures ∙ c.write_path.ensures
    ∙ ap (λ l. l ++ joined (nodes_beside c.as_slice.result.now (c.leaf_count.result + c.args.q)) c.levels.result) three
    ∙ ap (λ l. q ++ one_time ++ to_be_bytes w32 (tree_code key.height) ++ l) beside)

pub returns-clause-valid : goal.returns-clause-valid
returns-clause-valid c =
    let P : List ℕ → Type 0 = λ (bytes : List ℕ). Valid (public_of_key c.args.key.now) c.args.content.now bytes in
    subst P (sym (returns-clause-signed c))
    (signature_is_valid c.args.key.now c.args.q (leaf_randomizer c.args.key.now.seed c.args.q) c.args.content.now c.requires.leaf
    (length-leaf_randomizer c.args.key.now.seed c.args.q))

pub returns-clause-len : goal.returns-clause-len
returns-clause-len c = (returns-clause-valid c).sized
