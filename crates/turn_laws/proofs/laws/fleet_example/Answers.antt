use Rattle.turn_laws.proofs.Alone.{met}
use Rattle.turn_laws.proofs.laws.fleet_example.Goals as goal

pub returns : goal.returns
returns c = met
