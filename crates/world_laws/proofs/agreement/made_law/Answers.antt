use Rattle.world_laws.proofs.Made.{all_made, unforged}
use Rattle.world_laws.proofs.agreement.made_law.Goals as goal

pub returns : goal.returns
returns c = record { made = all_made; unforged = unforged }
