-- Votes and who cast them: what a quorum's correct members said, from what was heard; and the statements that a new view quotes.
use Rattle.std.proofs.Common.{◌≡◌, ℕ, ◌+◌, ◌<◌, true, false, nat_lt, List, [], map, inl, refl, ap, subst, ◌∙◌}
use Rattle.fab_base.specs.Quorums.{greatest_faulty, AreMembers, IsQuorum, is_member, shared_members}
use Rattle.fab_base.specs.Roster.{is_cluster, size_of}
use Rattle.fab_base.proofs.Counting.{quorums_meet}
use Rattle.fab_base.proofs.Tests.{and_both, is_below}
use Rattle.fab_base.proofs.Correct.{correct_member, quorum_is_enough}
use Rattle.fab_base.specs.declared.ids.ReplicaId.{ReplicaId}
use Rattle.fab_base.specs.declared.ids.Hash32.{Hash32}
use Rattle.fab_base.specs.declared.messages.Vote.{Vote}
use Rattle.fab_base.specs.declared.messages.PreparedCert.{PreparedCert}
use Rattle.fab_base.specs.declared.messages.ViewChange.{ViewChange}
use Rattle.fab_base.specs.declared.messages.NewView.{NewView}
use Rattle.fab_base.specs.declared.messages.Message.{Message}
use Rattle.fab_rules.specs.Lists.{In}
use Rattle.fab_rules.specs.Digests.{batch_digest}
use Rattle.fab_rules.specs.Quoted.{IsVoteFor, IsOlderCertificate, IsShownBy}
use Rattle.fab_rules.specs.Diary.{Entry, Heard, Said, PrepareHeard, CommitHeard, QuorumHeard}
use Rattle.world_laws.specs.World.{World, member_of, IsCorrect, IsWorld, is_faulty, FewFaulty, AllMade, QuorumSaid}
use Rattle.fab_rules.proofs.Lists.{of_map, of_filter, in_from_is_member}
use Rattle.fab_rules.proofs.Parts.{part_is_statement, change_is_part, prepare_is_part}

-- ---- members

same_member : (i : ReplicaId) (cluster index : ℕ) → i.cluster ≡ cluster → i.index ≡ index → i ≡ member_of cluster index
same_member i cluster index e f = ap (λ c. member_of c i.index) e ∙ ap (λ k. member_of cluster k) f

pub is_correct : (w : World) (c k : ℕ) → is_cluster w.roster c ≡ true → k < size_of w.roster c → is_faulty w c k ≡ false
    → IsCorrect w (member_of c k)
is_correct w c k is_c l good =
    record { takes_part = and_both (is_cluster w.roster c) (nat_lt k (size_of w.roster c)) is_c (is_below k (size_of w.roster c) l); not_faulty = good }

-- a correct member of a set
pub record CorrectIn (w : World) (c : ℕ) (members : List ℕ) : Type 0 where
  pub index : ℕ
  pub is_in : In index members
  pub correct : IsCorrect w (member_of c index)

-- a correct member of two sets
pub record CorrectInBoth (w : World) (c : ℕ) (xs ys : List ℕ) : Type 0 where
  pub index : ℕ
  pub in_first : In index xs
  pub in_second : In index ys
  pub correct : IsCorrect w (member_of c index)

pub correct_in_enough : (w : World) → FewFaulty w → (c : ℕ) → is_cluster w.roster c ≡ true → (members : List ℕ)
    → AreMembers (size_of w.roster c) (greatest_faulty (size_of w.roster c) + 1) members → CorrectIn w c members
correct_in_enough w few c is_c members enough =
    let k = correct_member (size_of w.roster c) (is_faulty w c) members (few c is_c) enough in
    record { index = k.index; is_in = in_from_is_member members k.index k.is_in; correct = is_correct w c k.index is_c k.in_range k.not_faulty }

-- each quorum has a correct member
pub correct_in_quorum : (w : World) → IsWorld w → FewFaulty w → (c : ℕ) → is_cluster w.roster c ≡ true → (members : List ℕ)
    → IsQuorum (size_of w.roster c) members → CorrectIn w c members
correct_in_quorum w world few c is_c members quorum =
    correct_in_enough w few c is_c members (quorum_is_enough (size_of w.roster c) members (world.peopled c is_c) quorum)

-- two quorums share a correct member
pub correct_in_both : (w : World) → IsWorld w → FewFaulty w → (c : ℕ) → is_cluster w.roster c ≡ true → (xs ys : List ℕ)
    → IsQuorum (size_of w.roster c) xs → IsQuorum (size_of w.roster c) ys → CorrectInBoth w c xs ys
correct_in_both w world few c is_c xs ys qx qy =
    let shared = correct_in_enough w few c is_c (shared_members xs ys) (quorums_meet (size_of w.roster c) xs ys (world.peopled c is_c) qx qy) in
    let at = of_filter (is_member ys) shared.index xs shared.is_in in
    record { index = shared.index; in_first = at.0; in_second = in_from_is_member ys shared.index at.1; correct = shared.correct }

-- ---- the same votes under other names

vote_for : (view slot : ℕ) (digest : Hash32) (v2 s2 : ℕ) (d2 : Hash32) (x : Vote) → view ≡ v2 → slot ≡ s2 → digest ≡ d2
    → IsVoteFor view slot digest x → IsVoteFor v2 s2 d2 x
vote_for view slot digest v2 s2 d2 x e f g h = record { view_is = h.view_is ∙ e; slot_is = h.slot_is ∙ f; digest_is = h.digest_is ∙ g }

pub said_for : (kind : Vote → Message) (w : World) (c view slot : ℕ) (digest : Hash32) (v2 s2 : ℕ) (d2 : Hash32) → view ≡ v2 → slot ≡ s2
    → digest ≡ d2 → QuorumSaid kind w c view slot digest → QuorumSaid kind w c v2 s2 d2
said_for kind w c view slot digest v2 s2 d2 e f g q = record {
  members = q.members;
  quorum = q.quorum;
  each = λ k h ok. (let a = q.each k h ok in record { vote = a.vote; said = a.said; votes_for = vote_for view slot digest v2 s2 d2 a.vote e f g a.votes_for });
}

-- ---- from heard to said

module _ (w : World) (all_made : AllMade w) (i : ReplicaId) (correct : IsCorrect w i) where
  -- what was heard of correct members, they said
  said_from_heard : (kind : Vote → Message) (WasHeard : Vote → Type 0)
      → ((v : Vote) → WasHeard v → IsCorrect w v.signer → In (Said (kind (record v { sig = [] }))) (w.diary v.signer))
      → (c view slot : ℕ) (digest : Hash32) → QuorumHeard w.roster WasHeard c view slot digest → QuorumSaid kind w c view slot digest
  said_from_heard kind WasHeard made c view slot digest q = record {
    members = q.members;
    quorum = q.quorum;
    each = λ k h ok.
        (let a = q.each k h in
        let vote : Vote = a.vote in
        record {
          vote = record vote { sig = [] };
          said = subst (λ j. IsCorrect w j → In (Said (kind (record vote { sig = [] }))) (w.diary j)) a.signer (made a.vote a.heard) ok;
          votes_for = record { view_is = a.votes_for.view_is; slot_is = a.votes_for.slot_is; digest_is = a.votes_for.digest_is };
        });
  }

  pub prepares_said : (past : List Entry) → ((x : Entry) → In x past → In x (w.diary i)) → (c view slot : ℕ) (digest : Hash32)
      → QuorumHeard w.roster (PrepareHeard past) c view slot digest → QuorumSaid Message.Prepare w c view slot digest
  prepares_said past within =
      said_from_heard Message.Prepare (PrepareHeard past) (λ v h. all_made i correct (Message.Prepare v) (within _ h) (Message.Prepare v) (inl refl))

  pub commits_said : (c view slot : ℕ) (digest : Hash32) → QuorumHeard w.roster (CommitHeard (w.diary i)) c view slot digest
      → QuorumSaid Message.Commit w c view slot digest
  commits_said = said_from_heard Message.Commit (CommitHeard (w.diary i)) (λ v h. all_made i correct h.message h.heard (Message.Commit v) h.inside)

  -- ---- what a new view quotes

  module _ (x : NewView) (heard : In (Heard (Message.NewView x)) (w.diary i)) (shown : IsShownBy w.roster x) (c : ℕ) (cluster_is : x.signer.cluster ≡ c) where
    -- a change that it has of a correct member, that member said
    pub change_said : (change : ViewChange) → In change x.changes → (k : ℕ) → change.signer.index ≡ k → IsCorrect w (member_of c k)
        → In (Said (Message.ViewChange (record change { sig = [] }))) (w.diary (member_of c k))
    change_said change h k e =
        let statement = part_is_statement (Message.NewView x) (Message.ViewChange change) (change_is_part x change h) refl in
        let who = same_member change.signer c k (shown.members change h ∙ cluster_is) e in
        subst (λ j. IsCorrect w j → In (Said (Message.ViewChange (record change { sig = [] }))) (w.diary j)) who
        (all_made i correct (Message.NewView x) heard (Message.ViewChange change) statement)

    -- the quorum of a certificate that it has said the Prepares
    pub certificate_said : (change : ViewChange) → In change x.changes → (k : PreparedCert) → In k change.prepared
        → QuorumSaid Message.Prepare w c k.view k.slot (batch_digest k.batch)
    certificate_said change h k q =
        let certificate : IsOlderCertificate w.roster x.signer.cluster x.view k = shown.certificates change h k q in
        record {
          members = map (λ v. v.signer.index) k.votes;
          quorum = subst (λ z. IsQuorum (size_of w.roster z) (map (λ v. v.signer.index) k.votes)) cluster_is certificate.votes.quorum;
          each = λ index in_votes ok.
              (let at = of_map (λ v. v.signer.index) index k.votes in_votes in
              let vote : Vote = at.from in
              let statement = part_is_statement (Message.NewView x) (Message.Prepare vote) (prepare_is_part x change k vote h q at.is_in) refl in
              let who = same_member vote.signer c index (certificate.votes.members vote at.is_in ∙ cluster_is) at.same in
              let equal = certificate.votes.equal vote at.is_in in
              record {
                vote = record vote { sig = [] };
                said = subst (λ j. IsCorrect w j → In (Said (Message.Prepare (record vote { sig = [] }))) (w.diary j)) who
                    (all_made i correct (Message.NewView x) heard (Message.Prepare vote) statement) ok;
                votes_for = record { view_is = equal.view_is; slot_is = equal.slot_is; digest_is = equal.digest_is };
              });
        }
