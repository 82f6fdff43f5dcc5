use Rattle.std.proofs.Common.{All, IsTrue, List, subst, sym}
use Rattle.fab_base.specs.declared.messages.PreparedCert.{PreparedCert}
use Rattle.fab_rules.specs.Format.{batch_fits}
use Rattle.bft_msg.proofs.Ready.{change_batches}
use Rattle.bft_msg.proofs.misfits.in_reports.Goals as goal

pub in_prepared-requires-clause-batches : goal.in_prepared-requires-clause-batches
in_prepared-requires-clause-batches c =
    subst (λ (ks : List PreparedCert). All (λ k. IsTrue (batch_fits k.batch)) ks) (sym c.as_slice.ensures)
    (change_batches c.args.members.now c.args.change.now c.requires)
