use Rattle.std.proofs.Common.{ap}
use Rattle.replica_core.proofs.Outs.{keepable_in}
use Rattle.replica_core.proofs.parts.Parts.keep.Goals as goal

pub keep-requires : goal.keep-requires
keep-requires c =
    keepable_in c.self.inside.me c.self.inside.order c.self.inside.rounds c.self.inside.talk c.args.self.now.roster c.args.cert c.self.invariant
    (ap (λ a. a.roster) c.self.view_is) c.requires
