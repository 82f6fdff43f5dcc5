use Rattle.std.proofs.Common.{◌≡◌, [], sym, ap, subst, ◌∙◌, rules}
use Rattle.fab_machine.specs.ReplicaState.{IsKeptCertificate}
use Rattle.replica_core.proofs.Outs.{taken_first, taken_more, taken_all, none_left, is_first_out}
use Rattle.replica_core.proofs.parts.Parts.take.Goals as goal

pub loop-out-init : goal.loop-out-init
loop-out-init c = taken_first c.args.self.now c.args.outs c.into_iter-out-iterator.result.rest.items (search rules)

pub take_one-requires : goal.take_one-requires
take_one-requires c =
    λ k is.
    (let rest = c.loop-out.out-iterator.rest.items in
    let before = c.requires k (c.loop-out.invariant.inside k (is_first_out k c.in-Some.out rest c.next.new.self.rest.items c.in-Some.ensures.steps.0 is)) in
    subst (λ r. IsKeptCertificate r k) (sym (ap (λ a. a.roster) c.loop-out.invariant.beside)) before)

pub loop-out-preserved : goal.loop-out-preserved
loop-out-preserved c =
    taken_more c.args.self.now c.loop-out.self c.take_one.new.self c.args.outs c.loop-out.out-iterator.rest.items c.next.new.self.rest.items c.in-Some.out
    c.in-Some.ensures.steps.0 c.in_ok-take_one.ensures.state c.loop-out.invariant

pub returns-clause-state : goal.returns-clause-state
returns-clause-state c =
    let none : c.loop-out.out-iterator.rest.items ≡ [] = none_left _ (sym c.loop-out.out-iterator.rest.ok.0 ∙ c.in-None.ensures.steps.0) in
    taken_all c.args.self.now c.loop-out.self c.args.outs c.loop-out.out-iterator.rest.items none c.loop-out.invariant
