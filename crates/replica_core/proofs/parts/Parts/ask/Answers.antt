use Rattle.std.proofs.Common.{false, ap, ◌∙◌}
use Rattle.fab_machine.specs.TimingOut.{timeout}
use Rattle.fab_machine.specs.declared.outs.Out.{Out}
use Rattle.fab_machine.proofs.Members.{is_member}
use Rattle.fab_machine.proofs.Turning.{timeout_state}
use Rattle.replica_core.proofs.Outs.{kept_as}
use Rattle.replica_core.proofs.parts.Parts.ask.Goals as goal

pub follow-requires : goal.follow-requires
follow-requires c =
    let now = c.args.self.now in
    let known = c.knows_next-known.result in
    let roster = ap (λ o. o.roster) c.in_ok-told.ensures.state ∙ ap (λ a. a.roster) c.self.view_is in
    let outs = c.in_ok-told.ensures.outs ∙ ap (λ a. (timeout a.roster a.me a.state.local false known).outs) c.self.view_is in
    let is = timeout_state now.roster now.me now.state.local false known (is_member now.roster now.me c.requires.limits c.requires.member) c.requires.whole.local in
    kept_as now.roster c.timeout.new.self.roster (timeout now.roster now.me now.state.local false known).outs c.in_ok-told.told.outs roster outs
    (λ k h. is.made (Out.Certified k) h)
