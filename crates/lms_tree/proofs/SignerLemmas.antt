-- What the law of a signer asks of the signatures of leaves.
use Rattle.std.proofs.Common.{◌≡◌, ℕ, ◌<◌, List, sym, ◌∙◌, arith}
use Rattle.lms_tree.specs.Heights.{leaf_count}
use Rattle.lms_tree.specs.Keys.{TreeKey, public_of_key}
use Rattle.lms_tree.specs.Signatures.{leaf_randomizer, leaf_signature}
use Rattle.lms_tree.specs.Verdict.{number_at, Valid}
use Rattle.lms_tree.proofs.FieldLemmas.{number_read}
use Rattle.lms_tree.proofs.ValidityLemmas.{signature_is_valid, length-leaf_randomizer, leaf_count_fits}

pub leaf_signature_valid : (key : TreeKey) (q : ℕ) (content : List ℕ) → q < leaf_count key.height
    → Valid (public_of_key key) content (leaf_signature key q content)
leaf_signature_valid key q content lt =
    signature_is_valid key q (leaf_randomizer key.seed q) content lt (length-leaf_randomizer key.seed q)

-- a signature begins with the number of its leaf
pub leaf_of_signature : (key : TreeKey) (q : ℕ) (content : List ℕ) → q < leaf_count key.height
    → number_at (leaf_signature key q content) 0 ≡ q
leaf_of_signature key q content lt = let fits = leaf_count_fits key.height in number_read q (omega arith)

pub leaf_signature_apart : (key : TreeKey) (j k : ℕ) (a b : List ℕ) → j < leaf_count key.height → k < leaf_count key.height
    → number_at (leaf_signature key j a) 0 ≡ number_at (leaf_signature key k b) 0 → j ≡ k
leaf_signature_apart key j k a b left right same =
    sym (leaf_of_signature key j a left) ∙ same ∙ leaf_of_signature key k b right
