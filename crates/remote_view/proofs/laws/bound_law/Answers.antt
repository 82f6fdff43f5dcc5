use Rattle.remote_view.proofs.Few.{few_stay, few_kept}
use Rattle.remote_view.proofs.Sayings.{said_kept}
use Rattle.remote_view.proofs.Totals.{drvcs_kept, rvcs_kept}
use Rattle.remote_view.proofs.laws.bound_law.Goals as goal

pub returns : goal.returns
returns c = record { stays = few_stay; few = few_kept; drvcs = drvcs_kept; rvcs = rvcs_kept; said = said_kept }
