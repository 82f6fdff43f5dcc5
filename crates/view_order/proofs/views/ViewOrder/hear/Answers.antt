use Rattle.std.proofs.Common.{sym, subst, ◌∙◌}
use Rattle.fab_rules.specs.Shape.{IsShaped}
use Rattle.fab_machine.specs.Attending.{attend, changes_after}
use Rattle.fab_machine.proofs.Members.{is_member}
use Rattle.fab_machine.proofs.ReplicaStates.{changes_kept_after, attend_state}
use Rattle.view_order.proofs.Keeping.{whole_sealed}
use Rattle.view_order.proofs.views.ViewOrder.hear.Goals as goal

pub invariant_of-self : goal.invariant_of-self
invariant_of-self c =
    let o = c.self.inside.order in
    let m = c.args.message in
    let changes = c.self.inside.changes.items in
    let member = is_member o.roster o.me c.self.invariant.limits c.self.invariant.member in
    let fine = subst (λ v. IsShaped v.roster m) (sym c.self.view_is) c.requires in
    whole_sealed o c.attend-told.new.order c.seal.new.order (attend o.roster o.me o.local changes m).local changes (changes_after o.me o.local changes m)
    c.attend-told.new.changes.items c.attend-told.result c.self.invariant (sym c.is_shut.ensures ∙ c.if-is_shut.false)
    (λ is. ((attend_state o.roster o.me o.local changes m member fine is.1 is.0).is, changes_kept_after o.roster o.me o.local changes m fine is.1))
    c.attend-told.ensures.same c.attend-told.ensures.state c.attend-told.ensures.kept c.seal.ensures.same c.seal.ensures.shut
