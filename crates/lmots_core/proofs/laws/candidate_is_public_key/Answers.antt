use Rattle.lmots_core.proofs.SignatureLemmas.{candidate_of_signature}
use Rattle.lmots_core.proofs.laws.candidate_is_public_key.Goals as goal

pub returns : goal.returns
returns c = candidate_of_signature
