use Rattle.world_laws.proofs.Made.{all_made}
use Rattle.world_laws.proofs.Voting.{one_prepared, one_committed_in_view_zero}
use Rattle.world_laws.proofs.agreement.view0_law.Goals as goal

pub returns-clause-one_prepared : goal.returns-clause-one_prepared
returns-clause-one_prepared c = λ w world honest few unforged stays. one_prepared w world honest few (all_made w world unforged)

pub returns-clause-one_committed : goal.returns-clause-one_committed
returns-clause-one_committed c = λ w world honest few unforged. one_committed_in_view_zero w world honest few (all_made w world unforged)
