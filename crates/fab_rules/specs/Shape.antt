-- What is wrong with a message that has a spelling (ours): the numbered list of its misfits, in the order in which they are answered.
use Rattle.std.specs.Prelude.{◌≡◌, ℕ, ◌+◌, ◌%◌, Bool, true, false, ◌&&◌, ◌||◌, not, List, [], ◌∷◌, ◌++◌, length, Option, nat_le, nat_lt, nat_eq, IsTrue}
use Rattle.std.specs.List.{flat_map, list_all}
use Rattle.fab_base.specs.Limits.{Roster}
use Rattle.fab_base.specs.declared.limits.TheConstants.{GREATEST_NUMBER, GREATEST_COUNT}
use Rattle.fab_base.specs.Quorums.{quorum_size}
use Rattle.fab_base.specs.Digests.{same_digest}
use Rattle.fab_base.specs.Roster.{is_cluster, is_replica, is_client, home_of, size_of}
use Rattle.fab_base.specs.declared.requests.Request.{Request}
use Rattle.fab_base.specs.declared.messages.PrePrepare.{PrePrepare}
use Rattle.fab_base.specs.declared.messages.Vote.{Vote}
use Rattle.fab_base.specs.declared.messages.StableVote.{StableVote}
use Rattle.fab_base.specs.declared.messages.PreparedCert.{PreparedCert}
use Rattle.fab_base.specs.declared.messages.CommitCert.{CommitCert}
use Rattle.fab_base.specs.declared.messages.ViewChange.{ViewChange}
use Rattle.fab_base.specs.declared.messages.NewView.{NewView}
use Rattle.fab_base.specs.declared.messages.Plea.{Plea}
use Rattle.fab_base.specs.declared.messages.Message.{Message}
use Rattle.fab_rules.specs.declared.misfits.Misfit.{Misfit}
use Rattle.fab_rules.specs.Lists.{first_of}
use Rattle.fab_rules.specs.Format.{fits}
use Rattle.fab_rules.specs.Digests.{batch_digest}
use Rattle.fab_rules.specs.Statements.{parts_of}

-- ---- strangers

-- whether the part's signer or asker, and each cluster that it names, take part
abbrev pub is_known : Roster → Message → Bool
is_known r (Message.Request x) = is_client r x.client
is_known r (Message.PrePrepare x) = is_replica r x.signer
is_known r (Message.Prepare x) = is_replica r x.signer
is_known r (Message.Commit x) = is_replica r x.signer
is_known r (Message.Checkpoint x) = is_replica r x.signer
is_known r (Message.ViewChange x) = is_replica r x.signer
is_known r (Message.NewView x) = is_replica r x.signer
is_known r (Message.Drvc x) = is_replica r x.signer && is_cluster r x.target
is_known r (Message.Rvc x) = is_replica r x.signer && is_cluster r x.target
is_known r (Message.ReplyNote x) = is_replica r x.signer
is_known r (Message.Share x) = is_cluster r x.cluster
is_known r (Message.Fetch x) = is_replica r x.asker && is_cluster r x.cluster

-- ---- the fields of a part

abbrev pub is_view : ℕ → Bool
is_view view = nat_le view GREATEST_NUMBER

-- a slot or a round
abbrev pub is_slot : ℕ → Bool
is_slot slot = nat_le 1 slot && nat_le slot GREATEST_NUMBER

-- the clients of a cluster's batch have their home there
abbrev pub is_batch_of : Roster → ℕ → List Request → Bool
is_batch_of r cluster batch = list_all (λ request. nat_eq (home_of r request.client) cluster) batch

-- the primary of a view is the member whose index is the view modulo their number (PBFT, section 4)
abbrev pub is_primary : Roster → ℕ → ℕ → ℕ → Bool
is_primary r cluster view index = nat_eq index (view % size_of r cluster)

abbrev pub is_vote : Vote → Bool
is_vote v = is_view v.view && is_slot v.slot

abbrev pub is_proposal : Roster → PrePrepare → Bool
is_proposal r p =
    is_view p.view && is_slot p.slot && is_batch_of r p.signer.cluster p.batch && is_primary r p.signer.cluster p.view p.signer.index

-- a prepared certificate in a view change: its slot is in the window above the low mark, its view is older
abbrev pub is_report_of : Roster → ViewChange → PreparedCert → Bool
is_report_of r c k =
    is_view k.view && is_slot k.slot && is_batch_of r c.signer.cluster k.batch && nat_lt c.low k.slot && nat_le k.slot (c.low + r.window) &&
    nat_lt k.view c.view

-- at low mark 0 there is nothing to be proved
abbrev pub is_empty_at_zero : ViewChange → Bool
is_empty_at_zero c = not (nat_eq c.low 0) || nat_eq (length c.proof) 0

abbrev pub is_view_change : Roster → ViewChange → Bool
is_view_change r c =
    nat_le 1 c.view && is_view c.view && nat_le c.low GREATEST_NUMBER && is_empty_at_zero c && list_all (is_report_of r c) c.prepared

-- a quorum's changes for the view
abbrev pub is_new_view : Roster → NewView → Bool
is_new_view r x =
    nat_le 1 x.view && is_view x.view && is_primary r x.signer.cluster x.view x.signer.index &&
    nat_eq (length x.changes) (quorum_size (size_of r x.signer.cluster)) &&
    list_all (λ c. nat_eq c.signer.cluster x.signer.cluster && nat_eq c.view x.view) x.changes

abbrev pub is_plea : Plea → Bool
is_plea p = is_slot p.round && nat_le p.count GREATEST_COUNT && not (nat_eq p.target p.signer.cluster)

-- whether the part's own fields keep the rules of its kind
abbrev pub keeps_shape : Roster → Message → Bool
keeps_shape r (Message.Request x) = true
keeps_shape r (Message.PrePrepare x) = is_proposal r x
keeps_shape r (Message.Prepare x) = is_vote x
keeps_shape r (Message.Commit x) = is_vote x
keeps_shape r (Message.Checkpoint x) = is_slot x.round
keeps_shape r (Message.ViewChange x) = is_view_change r x
keeps_shape r (Message.NewView x) = is_new_view r x
keeps_shape r (Message.Drvc x) = is_plea x
keeps_shape r (Message.Rvc x) = is_plea x
keeps_shape r (Message.ReplyNote x) = is_slot x.round
keeps_shape r (Message.Share x) = is_batch_of r x.cluster x.batch
keeps_shape r (Message.Fetch x) = is_slot x.round

-- ---- certificates and proofs

-- exactly a quorum of the cluster's members
abbrev pub is_quorum_of : {X : Type 0} → Roster → ℕ → List X → Bool
is_quorum_of r cluster statements = nat_eq (length statements) (quorum_size (size_of r cluster))

-- the vote is of the cluster, and equal to the first one
abbrev pub agrees_with : ℕ → Vote → Vote → Bool
agrees_with cluster first v =
    nat_eq v.signer.cluster cluster && nat_eq v.view first.view && nat_eq v.slot first.slot && same_digest v.digest first.digest

-- the votes are of the cluster and all equal
abbrev pub agree : ℕ → List Vote → Bool
agree cluster [] = true
agree cluster (first ∷ rest) = list_all (agrees_with cluster first) (first ∷ rest)

-- the votes bear the digest of the batch
abbrev pub bear_digest : List Request → List Vote → Bool
bear_digest batch votes = list_all (λ v. same_digest v.digest (batch_digest batch)) votes

-- a prepared certificate: its view and slot are those of its Prepares
abbrev pub is_prepared : Roster → ℕ → PreparedCert → Bool
is_prepared r cluster k =
    is_quorum_of r cluster k.votes && agree cluster k.votes && list_all (λ v. nat_eq v.view k.view && nat_eq v.slot k.slot) k.votes

-- a commit certificate
abbrev pub is_committed : Roster → CommitCert → Bool
is_committed r k = is_quorum_of r k.cluster k.votes && agree k.cluster k.votes

-- the checkpoints are of the cluster and of the low mark's round, and bear one digest
abbrev pub agree_on_low : ℕ → ℕ → List StableVote → Bool
agree_on_low cluster low [] = true
agree_on_low cluster low (first ∷ rest) =
    list_all (λ v. nat_eq v.signer.cluster cluster && nat_eq v.round low && same_digest v.digest first.digest) (first ∷ rest)

-- the proof of a low mark above 0
abbrev pub is_proved : Roster → ViewChange → Bool
is_proved r c = nat_eq c.low 0 || (is_quorum_of r c.signer.cluster c.proof && agree_on_low c.signer.cluster c.low c.proof)

-- ---- the misfits

abbrev pub unless : Bool → Misfit → List Misfit
unless true x = []
unless false x = x ∷ []

-- what each part gives, in order, where the first part has this number
abbrev pub numbered : {X : Type 0} → (ℕ → Message → List X) → ℕ → List Message → List X
numbered f k [] = []
numbered f k (p ∷ ps) = f k p ++ numbered f (k + 1) ps

abbrev pub stranger_at : Roster → ℕ → Message → List Misfit
stranger_at r k p = unless (is_known r p) (Misfit.Stranger k)

abbrev pub prepared_misfits : Roster → ℕ → ℕ → PreparedCert → List Misfit
prepared_misfits r k cluster c =
    unless (is_prepared r cluster c) (Misfit.BadCert k) ++ unless (bear_digest c.batch c.votes) (Misfit.WrongDigest k)

-- the certificates and proofs of a part, in order: a view change's proof, and then its prepared certificates
abbrev pub certificate_misfits : Roster → ℕ → Message → List Misfit
certificate_misfits r k (Message.ViewChange x) =
    unless (is_proved r x) (Misfit.BadCert k) ++ flat_map (prepared_misfits r k x.signer.cluster) x.prepared
certificate_misfits r k (Message.Share x) =
    unless (is_committed r x) (Misfit.BadCert k) ++ unless (bear_digest x.batch x.votes) (Misfit.WrongDigest k)
certificate_misfits r k m = []

-- a part's own misfits: its fields, and then its certificates
abbrev pub misfits_at : Roster → ℕ → Message → List Misfit
misfits_at r k p = unless (keeps_shape r p) (Misfit.BadShape k) ++ certificate_misfits r k p

-- first over all parts the strangers, and then over all parts their own misfits
abbrev pub misfits : Roster → Message → List Misfit
misfits r m = numbered (stranger_at r) 0 (parts_of m) ++ numbered (misfits_at r) 0 (parts_of m)

-- the one that is answered
abbrev pub first_misfit : Roster → Message → Option Misfit
first_misfit r m = first_of (misfits r m)

-- the message has a spelling, and nothing is wrong with it
pub record IsShaped (r : Roster) (m : Message) : Type 0 where
  pub spelled : IsTrue (fits m)
  pub fitting : misfits r m ≡ []
