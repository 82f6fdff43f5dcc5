use Rattle.world_laws.proofs.Headline.{clusters_agree}
use Rattle.world_laws.proofs.agreement.clusters_law.Goals as goal

pub returns : goal.returns
returns c = clusters_agree
