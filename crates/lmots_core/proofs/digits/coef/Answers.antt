use Rattle.lmots_core.specs.Digits.{coef}
use Rattle.lmots_core.proofs.digits.coef.Goals as goal

pub returns : goal.returns
unfolding coef
returns c = cc
