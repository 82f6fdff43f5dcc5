use Rattle.std.proofs.Common.{refl, length, arith}
use Rattle.lmots_core.proofs.RunningLemmas.{committed}
use Rattle.lmots_core.proofs.chains.commit.Goals as goal

pub returns-then-j-goals-clause-on : goal.returns-then-j-goals-clause-on
returns-then-j-goals-clause-on c = λ id q from start next on.
    committed id q from start c.args.goals.now c.args.places.now c.args.values.now (length c.args.values.now) c.args.at c.args.j c.args.value.now
    c.requires.at refl c.requires.places (omega arith) next on
