use Rattle.fabric_run.proofs.Endings.{run_from_ends}
use Rattle.fabric_run.proofs.sequential.plain.Goals as goal

pub returns : goal.returns
returns g c = run_from_ends _ _ _ _ c.run.ensures
