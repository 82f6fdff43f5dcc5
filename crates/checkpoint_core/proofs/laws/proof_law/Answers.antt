use Rattle.checkpoint_core.proofs.Ranking.{proof_full, proof_rises, proof_counts, proof_agrees}
use Rattle.checkpoint_core.proofs.laws.proof_law.Goals as goal

pub returns-clause-full : goal.returns-clause-full
returns-clause-full c = proof_full

pub returns-clause-rises : goal.returns-clause-rises
returns-clause-rises c = proof_rises

pub returns-clause-counts : goal.returns-clause-counts
returns-clause-counts c = proof_counts

pub returns-clause-agrees : goal.returns-clause-agrees
returns-clause-agrees c = proof_agrees
