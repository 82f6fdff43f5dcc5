use Rattle.std.proofs.Common.{sym, ap, subst}
use Rattle.remote_view.specs.Pleading.{MayHearDrvc}
use Rattle.fab_machine.proofs.Pleading.{may_hear_drvc}
use Rattle.replica_core.proofs.parts.Parts.count_drvc.Goals as goal

pub hear_drvc-requires : goal.hear_drvc-requires
hear_drvc-requires c =
    let now = c.args.self.now in
    subst (λ s. MayHearDrvc s c.args.plea.now) (sym (ap (λ a. a.state.pleading) c.self.view_is))
    (may_hear_drvc now.roster now.me now.state.pleading c.args.plea.now c.requires.whole.pleading c.requires.shaped c.requires.own)
