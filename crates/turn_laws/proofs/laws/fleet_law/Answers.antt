use Rattle.turn_laws.proofs.Fleets.{lawful, settled}
use Rattle.turn_laws.proofs.laws.fleet_law.Goals as goal

pub returns : goal.returns
returns c = record { lawful = lawful; settled = settled }
