use Rattle.std.proofs.Common.{ap}
use Rattle.replica_core.proofs.Outs.{keepable_in}
use Rattle.replica_core.proofs.parts.Parts.take_answer.Goals as goal

pub answer-requires : goal.answer-requires
answer-requires c =
    keepable_in c.self.inside.me c.self.inside.order c.self.inside.rounds c.self.inside.talk c.args.self.now.roster c.args.cert.now c.self.invariant
    (ap (λ a. a.roster) c.self.view_is) c.requires
