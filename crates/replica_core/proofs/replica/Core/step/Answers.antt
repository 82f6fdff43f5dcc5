use Rattle.std.proofs.Common.{subst}
use Rattle.replica_core.specs.Cores.{IsCore, event_of}
use Rattle.replica_core.proofs.Machines.{core_after, honest_after}
use Rattle.replica_core.proofs.replica.Core.step.Goals as goal

pub invariant_of-self : goal.invariant_of-self
invariant_of-self c =
    let parts = c.self.inside.parts in
    let is = subst (IsCore parts) c.if-self.false c.self.invariant in
    core_after parts c.step-answer.new.self (event_of c.args.event) c.step-answer.result c.is_err-self-inside.result is
    c.step-answer.ensures.may c.step-answer.ensures.state c.step-answer.ensures.same c.is_err-self-inside.ensures.value

pub returns-clause-honest : goal.returns-clause-honest
returns-clause-honest c =
    let parts = c.self.inside.parts in
    honest_after c.args.self.now parts c.step-answer.new.self (event_of c.args.event) c.step-answer.result c.self.inside.shut c.self.view_is
    c.self.invariant.limits c.self.invariant.member c.step-answer.ensures.may c.step-answer.ensures.state
