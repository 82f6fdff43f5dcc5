use Rattle.checkpoint_core.proofs.Counting.{stable_is, one_quorum}
use Rattle.checkpoint_core.proofs.Keeping.{stable_stays}
use Rattle.checkpoint_core.proofs.laws.stable_law.Goals as goal

pub returns-clause-is : goal.returns-clause-is
returns-clause-is c = stable_is

pub returns-clause-one : goal.returns-clause-one
returns-clause-one c = one_quorum

pub returns-clause-stays : goal.returns-clause-stays
returns-clause-stays c = stable_stays
