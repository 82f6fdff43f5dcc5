use Rattle.std.proofs.Common.{ap, ◌∙◌}
use Rattle.fab_machine.specs.Attending.{attend}
use Rattle.fab_machine.specs.declared.outs.Out.{Out}
use Rattle.fab_machine.proofs.Members.{is_member}
use Rattle.fab_machine.proofs.ReplicaStates.{attend_state}
use Rattle.replica_core.proofs.Outs.{kept_as}
use Rattle.replica_core.proofs.parts.Parts.attend.Goals as goal

pub follow-requires : goal.follow-requires
follow-requires c =
    let now = c.args.self.now in
    let m = c.args.message in
    let roster = ap (λ o. o.roster) c.in_ok-told.ensures.state ∙ ap (λ a. a.roster) c.self.view_is in
    let outs = c.in_ok-told.ensures.outs ∙ ap (λ a. (attend a.roster a.me a.state.local a.state.changes m).outs) c.self.view_is in
    let member = is_member now.roster now.me c.requires.limits c.requires.member in
    let is = attend_state now.roster now.me now.state.local now.state.changes m member c.requires.shaped c.requires.whole.changes c.requires.whole.local in
    kept_as now.roster c.hear.new.self.roster (attend now.roster now.me now.state.local now.state.changes m).outs c.in_ok-told.told.outs roster outs
    (λ k h. is.made (Out.Certified k) h)
