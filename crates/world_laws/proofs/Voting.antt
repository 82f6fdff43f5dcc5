-- Within one cluster: one digest in a view and slot, the same digest in later views, and so one certificate for a slot.
use Rattle.std.proofs.Common.{◌≡◌, ℕ, zero, suc, ◌<◌, ◌≤◌, true, List, [], map, inl, inr, refl, sym, ap, subst, ◌∙◌, arith}
use Rattle.std.proofs.lemmas.Bool.{cases_lt}
use Rattle.std.proofs.Math.Nat.{eq-or-lt_of_le}
use Rattle.fab_base.specs.Quorums.{IsQuorum}
use Rattle.fab_base.specs.Roster.{is_cluster, size_of}
use Rattle.fab_base.specs.declared.ids.Hash32.{Hash32}
use Rattle.fab_base.specs.declared.messages.Vote.{Vote}
use Rattle.fab_base.specs.declared.messages.PreparedCert.{PreparedCert}
use Rattle.fab_base.specs.declared.messages.ViewChange.{ViewChange}
use Rattle.fab_base.specs.declared.messages.NewView.{NewView}
use Rattle.fab_base.specs.declared.messages.Message.{Message}
use Rattle.fab_rules.specs.Lists.{In}
use Rattle.fab_rules.specs.Digests.{batch_digest}
use Rattle.fab_rules.specs.Choice.{batch_in, IsDecided}
use Rattle.fab_rules.specs.Quoted.{IsShownBy}
use Rattle.fab_rules.specs.Diary.{Entry, Heard, Said}
use Rattle.fab_rules.specs.Rules.{IsOpenedFor, KeepsRules}
use Rattle.world_laws.specs.World.{World, member_of, IsCorrect, IsWorld, AllHonest, FewFaulty, AllMade, QuorumSaid, OnePrepared, OneCommitted, OneCertificate, InViewZero}
use Rattle.fab_rules.proofs.Choices.{is_decided, le_base, le_top}
use Rattle.fab_rules.proofs.Lists.{of_map, in_flat_map, of_flat_map}
use Rattle.fab_rules.proofs.Shapes.{shown}
use Rattle.fab_rules.proofs.Diaries.{kept, in_order, first_is}
use Rattle.world_laws.proofs.Made.{heard_is_shaped}
use Rattle.world_laws.proofs.Votes.{correct_in_quorum, correct_in_both, said_for, prepares_said, commits_said, change_said, certificate_said}

same_prepare : (x y : Vote) → Said (Message.Prepare x) ≡ Said (Message.Prepare y) → x ≡ y
same_prepare x y e = cc

commit_is_no_change : (x : Vote) (y : ViewChange) → Said (Message.Commit x) ≡ Said (Message.ViewChange y) → ⊥
commit_is_no_change x y e = cc

-- the opening of a slot, under other names for the same view, slot and digest
opened_for : (past : List Entry) (c view slot : ℕ) (digest : Hash32) (v2 s2 : ℕ) (d2 : Hash32) → view ≡ v2 → slot ≡ s2 → digest ≡ d2
    → IsOpenedFor past c view slot digest → IsOpenedFor past c v2 s2 d2
opened_for past c view slot digest v2 s2 d2 e f g o =
    subst (λ x. IsOpenedFor past c v2 s2 x) g (subst (λ x. IsOpenedFor past c v2 x digest) f (subst (λ x. IsOpenedFor past c x slot digest) e o))

-- a quorum prepared the digest in a view from `least` on and before `limit`
record PreparedBetween (w : World) (c least limit slot : ℕ) (digest : Hash32) : Type 0 where
  view : ℕ
  from_least : least ≤ view
  below_limit : view < limit
  said : QuorumSaid Message.Prepare w c view slot digest

module _ (w : World) (world : IsWorld w) (honest : AllHonest w) (few : FewFaulty w) (all_made : AllMade w) (c : ℕ) (is_c : is_cluster w.roster c ≡ true) where
  rules_of : (k : ℕ) → IsCorrect w (member_of c k) → KeepsRules w.roster (member_of c k) (w.diary (member_of c k))
  rules_of k ok = (honest (member_of c k) ok).rules

  -- ---- same view: two quorums that prepared in one view and slot share a correct member, and it said one Prepare there

  pub same_view : (view slot : ℕ) (d e : Hash32) → QuorumSaid Message.Prepare w c view slot d → QuorumSaid Message.Prepare w c view slot e
      → d ≡ e
  same_view view slot d e qa qb =
      let k = correct_in_both w world few c is_c qa.members qb.members qa.quorum qb.quorum in
      let a = qa.each k.index k.in_first k.correct in
      let b = qb.each k.index k.in_second k.correct in
      let views : a.vote.view ≡ b.vote.view = a.votes_for.view_is ∙ sym b.votes_for.view_is in
      let slots : a.vote.slot ≡ b.vote.slot = a.votes_for.slot_is ∙ sym b.votes_for.slot_is in
      let i = member_of c k.index in
      let one : Entry = Said (Message.Prepare a.vote) in
      let other : Entry = Said (Message.Prepare b.vote) in
      elim (in_order w.roster i (w.diary i) one other (rules_of k.index k.correct) a.said b.said) [
        | inl same ↦ sym a.votes_for.digest_is ∙ (ap (λ x. x.digest) (same_prepare a.vote b.vote same) ∙ b.votes_for.digest_is)
        | inr (inl later) ↦ absurd (later.may.one_vote a.vote later.before views slots)
        | inr (inr later) ↦ absurd (later.may.one_vote b.vote later.before (sym views) (sym slots))
      ]

  -- what a quorum committed, a quorum prepared before: one correct committer heard it
  pub prepared_before : (view slot : ℕ) (digest : Hash32) → QuorumSaid Message.Commit w c view slot digest
      → QuorumSaid Message.Prepare w c view slot digest
  prepared_before view slot digest q =
      let k = correct_in_quorum w world few c is_c q.members q.quorum in
      let i = member_of c k.index in
      let a = q.each k.index k.is_in k.correct in
      let at = kept w.roster i (w.diary i) (Said (Message.Commit a.vote)) (rules_of k.index k.correct) a.said in
      said_for Message.Prepare w c a.vote.view a.vote.slot a.vote.digest view slot digest a.votes_for.view_is a.votes_for.slot_is a.votes_for.digest_is
      (prepares_said w all_made i k.correct at.past at.within c a.vote.view a.vote.slot a.vote.digest at.may.commit_rule)

  -- ---- later views

  -- what a committed slot is opened for in a later view: k is the correct replica that prepared there, and `past` what it had heard
  module _
      (view slot : ℕ) (digest : Hash32) (committed : QuorumSaid Message.Commit w c view slot digest)
      (k : ℕ) (correct : IsCorrect w (member_of c k)) (past : List Entry) (within : (x : Entry) → In x past → In x (w.diary (member_of c k)))
      (v2 : ℕ) (d2 : Hash32) (opened : IsOpenedFor past c v2 slot d2) where
    abbrev new_view : NewView
    new_view = opened.new_view

    heard : In (Heard (Message.NewView new_view)) (w.diary (member_of c k))
    heard = within _ (first_is c v2 past new_view opened.is_first).heard

    cluster_is : new_view.signer.cluster ≡ c
    cluster_is = (first_is c v2 past new_view opened.is_first).cluster_is

    view_is : new_view.view ≡ v2
    view_is = (first_is c v2 past new_view opened.is_first).view_is

    quoted : IsShownBy w.roster new_view
    quoted = shown w.roster new_view (heard_is_shaped w world (member_of c k) correct (Message.NewView new_view) heard)

    -- a certificate of the slot in the new view: the deciding one is no older, and its quorum prepared what the slot was opened for
    by_certificate : (change : ViewChange) → In change new_view.changes → (q : PreparedCert) → In q change.prepared → q.slot ≡ slot
        → view ≤ q.view → PreparedBetween w c view v2 slot d2
    by_certificate change h q in_change slot_is least =
        let in_certificates = in_flat_map (λ y. y.prepared) change q new_view.changes h in_change in
        let best : IsDecided new_view slot q = is_decided new_view slot q in_certificates slot_is in
        let up_to_top = le_top new_view q in_certificates in
        let from = of_flat_map (λ y. y.prepared) best.certificate new_view.changes best.inside in
        let older = (quoted.certificates from.from from.is_in best.certificate from.inside).older in
        let decided : PreparedCert = best.certificate in
        let digest_is : d2 ≡ batch_digest decided.batch = opened.as_chosen (omega arith) ∙ ap (λ x. batch_digest (batch_in x)) best.deciding_is in
        let said = certificate_said w all_made (member_of c k) correct new_view heard quoted c cluster_is from.from from.is_in decided from.inside in
        record {
          view = decided.view;
          from_least = omega (arith, best.no_older, least);
          below_limit = omega (arith, older, view_is);
          said = said_for Message.Prepare w c decided.view decided.slot (batch_digest decided.batch) decided.view slot d2 refl best.slot_is (sym digest_is) said;
        }

    -- the quorum that asked for the later view has a correct committer. Its change either closes the slot by its low mark, and then the
    -- slot isn't open; or it reports a certificate of it
    by_common_member : view < v2 → PreparedBetween w c view v2 slot d2
    by_common_member later =
        let indexes : List ℕ = map (λ x. x.signer.index) new_view.changes in
        let askers : IsQuorum (size_of w.roster c) indexes = subst (λ z. IsQuorum (size_of w.roster z) indexes) cluster_is quoted.quorum in
        let j = correct_in_both w world few c is_c committed.members indexes committed.quorum askers in
        let a = committed.each j.index j.in_first j.correct in
        let from = of_map (λ x. x.signer.index) j.index new_view.changes j.in_second in
        let change : ViewChange = from.from in
        let said = change_said w all_made (member_of c k) correct new_view heard quoted c cluster_is change from.is_in j.index from.same j.correct in
        let lows = le_base new_view change from.is_in in
        let asks : change.view ≡ v2 = quoted.views change from.is_in ∙ view_is in
        let i = member_of c j.index in
        let commit : Entry = Said (Message.Commit a.vote) in
        let report : Entry = Said (Message.ViewChange (record change { sig = [] })) in
        elim (in_order w.roster i (w.diary i) commit report (rules_of j.index j.correct) a.said said) [
          | inl same ↦ absurd (commit_is_no_change a.vote (record change { sig = [] }) same)
          | inr (inl after) ↦ elim (after.may.change_reports a.vote after.before) [
            | inl low ↦ absurd (omega (arith, low, lows, opened.above_base, a.votes_for.slot_is))
            | inr q ↦ by_certificate change from.is_in q.0 q.1 (q.2 ∙ a.votes_for.slot_is) (omega (arith, q.3, a.votes_for.view_is))
          ]
          | inr (inr after) ↦ absurd (omega (arith, after.may.views_rise (record change { sig = [] }) after.before, asks, a.votes_for.view_is, later))
        ]

  -- what a quorum committed is what each later view prepares, by induction on views (`limit` is above the later view)
  pub later_views : (limit view slot : ℕ) (digest : Hash32) → QuorumSaid Message.Commit w c view slot digest → (v2 : ℕ) (d2 : Hash32)
      → v2 < limit → view ≤ v2 → QuorumSaid Message.Prepare w c v2 slot d2 → d2 ≡ digest
  later_views zero view slot digest committed v2 d2 below least prepared = absurd (omega arith)
  later_views (suc limit) view slot digest committed v2 d2 below least prepared =
      elim (eq-or-lt_of_le least) [
        | inl e ↦
            same_view view slot d2 digest (said_for Message.Prepare w c v2 slot d2 view slot d2 (sym e) refl refl prepared)
            (prepared_before view slot digest committed)
        | inr later ↦
            (let k = correct_in_quorum w world few c is_c prepared.members prepared.quorum in
            let i = member_of c k.index in
            let a = prepared.each k.index k.is_in k.correct in
            let at = kept w.roster i (w.diary i) (Said (Message.Prepare a.vote)) (rules_of k.index k.correct) a.said in
            let x : Vote = a.vote in
            let above : 1 ≤ x.view = omega (arith, a.votes_for.view_is, later) in
            let opened = opened_for at.past c x.view x.slot x.digest v2 slot d2 a.votes_for.view_is a.votes_for.slot_is a.votes_for.digest_is
            (at.may.prepare_rule.in_later_views above) in
            let between = by_common_member view slot digest committed k.index k.correct at.past at.within v2 d2 opened later in
            later_views limit view slot digest committed between.view d2 (omega (arith, between.below_limit, below)) between.from_least between.said)
      ]

  -- ---- one certificate: two quorums that committed in a slot committed one digest

  pub one_certificate : (u v slot : ℕ) (d e : Hash32) → QuorumSaid Message.Commit w c u slot d → QuorumSaid Message.Commit w c v slot e
      → d ≡ e
  one_certificate u v slot d e qa qb =
      elim (cases_lt u v) [
        | inl l ↦ sym (later_views (suc v) u slot d qa v e (omega arith) (omega arith) (prepared_before v slot e qb))
        | inr l ↦ later_views (suc u) v slot e qb u d (omega arith) l (prepared_before u slot d qa)
      ]

  -- where nobody left view 0, the same view is enough
  pub one_certificate_in_view_zero : InViewZero w → (u v slot : ℕ) (d e : Hash32) → QuorumSaid Message.Commit w c u slot d
      → QuorumSaid Message.Commit w c v slot e → d ≡ e
  one_certificate_in_view_zero stays u v slot d e qa qb =
      same_view 0 slot d e
      (said_for Message.Prepare w c u slot d 0 slot d (is_zero u d qa) refl refl (prepared_before u slot d qa))
      (said_for Message.Prepare w c v slot e 0 slot e (is_zero v e qb) refl refl (prepared_before v slot e qb))
    where
      is_zero : (view : ℕ) (digest : Hash32) → QuorumSaid Message.Commit w c view slot digest → view ≡ 0
      is_zero view digest q =
          let k = correct_in_quorum w world few c is_c q.members q.quorum in
          let a = q.each k.index k.is_in k.correct in
          sym a.votes_for.view_is ∙ stays (member_of c k.index) k.correct a.vote a.said

-- ---- of a whole world

pub one_prepared : (w : World) → IsWorld w → AllHonest w → FewFaulty w → AllMade w → OnePrepared w
one_prepared w world honest few all_made c is_c = same_view w world honest few all_made c is_c

pub one_committed : (w : World) → IsWorld w → AllHonest w → FewFaulty w → AllMade w → OneCommitted w
one_committed w world honest few all_made c is_c = one_certificate w world honest few all_made c is_c

pub one_committed_in_view_zero : (w : World) → IsWorld w → AllHonest w → FewFaulty w → AllMade w → InViewZero w → OneCommitted w
one_committed_in_view_zero w world honest few all_made stays c is_c = one_certificate_in_view_zero w world honest few all_made c is_c stays

-- what holds of Commits that were said holds of those that were heard
pub one_heard : (w : World) → AllMade w → OneCommitted w → OneCertificate w
one_heard w all_made one c is_c i j ci cj u v slot d e qa qb =
    one c is_c u v slot d e (commits_said w all_made i ci c u slot d qa) (commits_said w all_made j cj c v slot e qb)
