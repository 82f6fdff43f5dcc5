use Rattle.world_laws.proofs.Headline.{worlds_are_safe}
use Rattle.world_laws.proofs.agreement.safety_law.Goals as goal

pub returns : goal.returns
returns c = worlds_are_safe
