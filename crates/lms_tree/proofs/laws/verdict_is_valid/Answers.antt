use Rattle.lms_tree.proofs.ValidityLemmas.{valid_from_verdict, verdict_from_valid}
use Rattle.lms_tree.proofs.laws.verdict_is_valid.Goals as goal

pub returns : goal.returns
returns c = λ key content signature. (valid_from_verdict key content signature, verdict_from_valid key content signature)
