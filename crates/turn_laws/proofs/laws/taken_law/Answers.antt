use Rattle.turn_laws.proofs.Taken.{taken, heard_end}
use Rattle.turn_laws.proofs.laws.taken_law.Goals as goal

pub returns : goal.returns
returns c = record { taken = taken; heard = heard_end }
