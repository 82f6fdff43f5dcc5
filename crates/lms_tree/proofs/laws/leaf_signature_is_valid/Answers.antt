use Rattle.lms_tree.proofs.ValidityLemmas.{signature_is_valid}
use Rattle.lms_tree.proofs.laws.leaf_signature_is_valid.Goals as goal

pub returns : goal.returns
returns c = signature_is_valid
