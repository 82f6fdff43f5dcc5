use Rattle.std.proofs.Common.{arith}
use Rattle.lmots_core.proofs.StepLemmas.{headed}
use Rattle.lmots_core.proofs.steps.number.Goals as goal

pub returns : goal.returns
returns c = λ x hx. rw (c.from.ensures, c.from-2.ensures) (headed c.args.i c.args.j x (omega arith) (omega arith) hx)
