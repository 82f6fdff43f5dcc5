use Rattle.std.proofs.Common.{sym, ap, subst}
use Rattle.remote_view.specs.Pleading.{MayHearRvc}
use Rattle.fab_machine.proofs.Pleading.{may_hear_rvc}
use Rattle.replica_core.proofs.Missing.{rvc_told}
use Rattle.replica_core.proofs.parts.Parts.count_rvc.Goals as goal

pub hear_rvc-requires : goal.hear_rvc-requires
hear_rvc-requires c =
    let now = c.args.self.now in
    subst (λ s. MayHearRvc s c.args.plea) (sym (ap (λ a. a.state.pleading) c.self.view_is))
    (may_hear_rvc now.roster now.me now.state.pleading c.args.plea c.requires.whole.pleading c.requires.shaped c.requires.own)

pub returns-clause-state : goal.returns-clause-state
returns-clause-state c =
    rvc_told c.args.self.now c.start.new.self c.self.inside.me c.self.inside.order c.self.inside.rounds c.self.inside.talk c.hear_rvc.new.self
    c.self.inside.outbox.items c.put_all.new.outbox.items c.in_ok-how.items c.args.plea c.in_ok-how.starts c.self.view_is c.self.invariant
    c.in_ok-how.ensures.state c.in_ok-how.ensures.items c.in_ok-put_all.ensures c.in_ok-how.ensures.starts c.in_ok-start.ensures.state
