-- What the laws take of a shaped new view, in the words of the protocol: `shape_law` has it of every one that is shaped.
use Rattle.std.specs.Prelude.{◌≡◌, ℕ, ◌<◌, List, map}
use Rattle.fab_base.specs.Limits.{Roster}
use Rattle.fab_base.specs.Quorums.{IsQuorum}
use Rattle.fab_base.specs.Roster.{size_of}
use Rattle.fab_base.specs.declared.ids.Hash32.{Hash32}
use Rattle.fab_base.specs.declared.messages.Vote.{Vote}
use Rattle.fab_base.specs.declared.messages.PreparedCert.{PreparedCert}
use Rattle.fab_base.specs.declared.messages.ViewChange.{ViewChange}
use Rattle.fab_base.specs.declared.messages.NewView.{NewView}
use Rattle.fab_rules.specs.Lists.{In}
use Rattle.fab_rules.specs.Digests.{batch_digest}

-- the vote is for this view, slot and digest
pub record IsVoteFor (view slot : ℕ) (digest : Hash32) (v : Vote) : Type 0 where
  pub view_is : v.view ≡ view
  pub slot_is : v.slot ≡ slot
  pub digest_is : v.digest ≡ digest

-- equal votes of a quorum of distinct members of a cluster
pub record AreVotesFor (r : Roster) (cluster view slot : ℕ) (digest : Hash32) (votes : List Vote) : Type 0 where
  pub quorum : IsQuorum (size_of r cluster) (map (λ v. v.signer.index) votes)
  pub members : (v : Vote) → In v votes → v.signer.cluster ≡ cluster
  pub equal : (v : Vote) → In v votes → IsVoteFor view slot digest v

-- a certificate in a change of a cluster for a view: the cluster prepared its batch in an older view
pub record IsOlderCertificate (r : Roster) (cluster view : ℕ) (k : PreparedCert) : Type 0 where
  pub older : k.view < view
  pub votes : AreVotesFor r cluster k.view k.slot (batch_digest k.batch) k.votes

-- a quorum of distinct members of the cluster ask for the view
pub record IsShownBy (r : Roster) (x : NewView) : Type 0 where
  pub quorum : IsQuorum (size_of r x.signer.cluster) (map (λ c. c.signer.index) x.changes)
  pub members : (c : ViewChange) → In c x.changes → c.signer.cluster ≡ x.signer.cluster
  pub views : (c : ViewChange) → In c x.changes → c.view ≡ x.view
  pub certificates : (c : ViewChange) → In c x.changes → (k : PreparedCert) → In k c.prepared
      → IsOlderCertificate r x.signer.cluster x.view k
