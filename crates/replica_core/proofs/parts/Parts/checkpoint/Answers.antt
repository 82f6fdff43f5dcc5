use Rattle.std.proofs.Common.{ap, ◌∙◌}
use Rattle.fab_machine.specs.Checkpointing.{checkpoint}
use Rattle.fab_machine.specs.declared.outs.Out.{Out}
use Rattle.fab_machine.proofs.Members.{is_member}
use Rattle.fab_machine.proofs.CheckpointStates.{checkpoint_state}
use Rattle.replica_core.proofs.Outs.{kept_as}
use Rattle.replica_core.proofs.parts.Parts.checkpoint.Goals as goal

pub follow-requires : goal.follow-requires
follow-requires c =
    let now = c.args.self.now in
    let roster = ap (λ o. o.roster) c.in_ok-told.ensures.state ∙ ap (λ a. a.roster) c.self.view_is in
    let outs = c.in_ok-told.ensures.outs ∙ ap (λ a. (checkpoint a.roster a.me a.state.local).outs) c.self.view_is in
    let is = checkpoint_state now.roster now.me now.state.local (is_member now.roster now.me c.requires.limits c.requires.member) c.requires.whole.local in
    kept_as now.roster c.checkpoint.new.self.roster (checkpoint now.roster now.me now.state.local).outs c.in_ok-told.told.outs roster outs (λ k h. is.made (Out.Certified k) h)
