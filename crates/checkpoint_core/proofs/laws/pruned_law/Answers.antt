use Rattle.checkpoint_core.proofs.Keeping.{stable_above, proof_above}
use Rattle.checkpoint_core.proofs.laws.pruned_law.Goals as goal

pub returns-clause-stable : goal.returns-clause-stable
returns-clause-stable c = stable_above

pub returns-clause-proof : goal.returns-clause-proof
returns-clause-proof c = proof_above
