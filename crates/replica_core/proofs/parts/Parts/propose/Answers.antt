use Rattle.std.proofs.Common.{subst}
use Rattle.fab_rules.specs.Lists.{In}
use Rattle.fab_machine.specs.declared.outs.Out.{Out}
use Rattle.fab_machine.proofs.States.{propose_forms_none}
use Rattle.replica_core.proofs.parts.Parts.propose.Goals as goal

pub follow-requires : goal.follow-requires
follow-requires c =
    λ k h.
    absurd (propose_forms_none c.self.inside.order.roster c.self.inside.order.me c.self.inside.order.local c.args.nudged c.knows_others-known.result k
    (subst (In (Out.Certified k)) c.in_ok-told.ensures.outs h))
