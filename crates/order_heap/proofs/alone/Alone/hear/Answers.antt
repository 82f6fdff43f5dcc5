use Rattle.std.proofs.Common.{◌≡◌, sym, ap, subst, ◌∙◌}
use Rattle.fab_rules.specs.Shape.{IsShaped}
use Rattle.fab_machine.specs.Hearing.{hear}
use Rattle.fab_machine.proofs.Members.{is_member}
use Rattle.order_heap.proofs.Calls.{alone_after, hear_keeps}
use Rattle.order_heap.proofs.alone.Alone.hear.Goals as goal

pub invariant_of-self-in-Ok : goal.invariant_of-self-in-Ok
invariant_of-self-in-Ok c =
    let p = c.self.inside in
    let is = c.self.invariant in
    let m = c.into_message.result in
    let members : c.in-Ok.shaped.members ≡ p.members = ap (λ s. s.members) c.in-Ok.ensures.shaped ∙ c.in_ok-share.ensures in
    let fine : IsShaped p.members m = subst (λ x. IsShaped p.members x) (sym c.into_message.ensures.is)
    (subst (λ r. IsShaped r c.in-Ok.shaped.message) members c.into_message.ensures.shaped) in
    record {
      limits = is.limits;
      member = is.member;
      ordering = alone_after p.members p.me p.rounds p.order c.hear.new.self c.hear.result (λ r i k. (hear r i k m).local) is.ordering
          (λ k whole. hear_keeps p.members p.me m k (is_member p.members p.me is.limits is.member) fine whole) c.hear.ensures.live c.hear.ensures.state c.hear.ensures.err;
    }
