use Rattle.remote_view.proofs.Raising.{presents, start_counts}
use Rattle.remote_view.proofs.laws.count_law.Goals as goal

pub returns : goal.returns
returns c = record { present = presents; started = start_counts }
