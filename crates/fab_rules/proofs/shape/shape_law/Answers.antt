use Rattle.fab_rules.proofs.Shapes.{shown}
use Rattle.fab_rules.proofs.shape.shape_law.Goals as goal

pub returns : goal.returns
returns c = shown
