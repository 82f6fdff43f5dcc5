-- What is known of the batches in a part that is ready.
use Rattle.std.specs.List.{AllByRecursion, flat_map, list_all}
use Rattle.std.proofs.Common.{◌≡◌, true, All, IsTrue, List, [], ◌∷◌, map}
use Rattle.std.proofs.lemmas.List.Elements.{All-from_recursion}
use Rattle.fab_base.specs.Limits.{Roster}
use Rattle.fab_base.specs.Roster.{is_client}
use Rattle.fab_base.specs.declared.requests.Request.{Request}
use Rattle.fab_base.specs.declared.messages.PrePrepare.{PrePrepare}
use Rattle.fab_base.specs.declared.messages.PreparedCert.{PreparedCert}
use Rattle.fab_base.specs.declared.messages.CommitCert.{CommitCert}
use Rattle.fab_base.specs.declared.messages.ViewChange.{ViewChange}
use Rattle.fab_base.specs.declared.messages.Message.{Message}
use Rattle.fab_base.proofs.Tests.{and_left, and_right}
use Rattle.fab_rules.specs.Format.{batch_fits, certificate_fits}
use Rattle.fab_rules.specs.Shape.{is_known}
use Rattle.fab_rules.specs.Statements.{parts_of_certificate}
use Rattle.fab_rules.proofs.Fitting.{certificate_batch_fits, certificates_are}
use Rattle.bft_msg.specs.Ready.{IsReady}
use Rattle.bft_msg.proofs.Alls.{all_left, all_right}
use Rattle.bft_msg.proofs.Fitting.{all_certificates_fit}

module _ (r : Roster) where
  abbrev Known : Message → Type 0
  Known p = is_known r p ≡ true

  abbrev IsClient : Request → Type 0
  IsClient x = IsTrue (is_client r x.client)

  clients : (batch : List Request) → AllByRecursion Known (map Message.Request batch) → AllByRecursion IsClient batch
  clients [] h = tt
  clients (x ∷ batch) h = (h.0, clients batch h.1)

  clients_of : (batch : List Request) → AllByRecursion Known (map Message.Request batch) → All IsClient batch
  clients_of batch h = All-from_recursion IsClient batch (clients batch h)

  pub proposal_clients : (p : PrePrepare) → IsReady r (Message.PrePrepare p) → All (λ x. IsTrue (is_client r x.client)) p.batch
  proposal_clients p h = clients_of p.batch h.known.1

  pub share_clients : (k : CommitCert) → IsReady r (Message.Share k) → All (λ x. IsTrue (is_client r x.client)) k.batch
  share_clients k h = clients_of k.batch (all_left Known (map Message.Request k.batch) (map Message.Commit k.votes) h.known.1)

  certificate_clients : (prepared : List PreparedCert) → AllByRecursion Known (flat_map parts_of_certificate prepared)
      → AllByRecursion (λ k. All IsClient k.batch) prepared
  certificate_clients [] h = tt
  certificate_clients (k ∷ prepared) h =
      let here = all_left Known (parts_of_certificate k) (flat_map parts_of_certificate prepared) h in (
        clients_of k.batch (all_left Known (map Message.Request k.batch) (map Message.Prepare k.votes) here),
        certificate_clients prepared (all_right Known (parts_of_certificate k) (flat_map parts_of_certificate prepared) h),
      )

  pub change_clients : (c : ViewChange) → IsReady r (Message.ViewChange c) → All (λ k. All (λ x. IsTrue (is_client r x.client)) k.batch) c.prepared
  change_clients c h =
      All-from_recursion (λ k. All IsClient k.batch) c.prepared
      (certificate_clients c.prepared (all_right Known (map Message.Checkpoint c.proof) (flat_map parts_of_certificate c.prepared) h.known.1))

batches : (prepared : List PreparedCert) → list_all certificate_fits prepared ≡ true → AllByRecursion (λ k. IsTrue (batch_fits k.batch)) prepared
batches [] h = tt
batches (k ∷ prepared) h = (
  certificate_batch_fits k (and_left (certificate_fits k) (list_all certificate_fits prepared) h),
  batches prepared (and_right (certificate_fits k) (list_all certificate_fits prepared) h),
)

pub change_batches : (r : Roster) (c : ViewChange) → IsReady r (Message.ViewChange c) → All (λ k. IsTrue (batch_fits k.batch)) c.prepared
change_batches r c h =
    All-from_recursion (λ k. IsTrue (batch_fits k.batch)) c.prepared (batches c.prepared (all_certificates_fit c.prepared (certificates_are c h.fits)))
