-- The first votes of a quorum, and the certificates that are made of them.
use Rattle.std.proofs.Common.{◌≡◌, ℕ, zero, suc, ◌+◌, ◌^◌, ◌≤◌, Bool, true, false, cond, nat_eq, nat_lt, ◌&&◌, ◌||◌, List, [], ◌∷◌, ◌++◌, length, take, map, Option, Some, None, inl, inr, refl, sym, ap, subst, ◌∙◌, arith}
use Rattle.std.specs.Bool.{IsTrue}
use Rattle.std.specs.List.{filter, list_all, range_with_len}
use Rattle.std.proofs.lemmas.Bool.Decides.{nat_tests}
use Rattle.std.proofs.lemmas.List.{length-take}
use Rattle.fab_base.specs.declared.limits.TheConstants.{GREATEST_NUMBER, MOST_MEMBERS, MOST_STATEMENTS}
use Rattle.fab_base.specs.Roster.{is_cluster, size_of}
use Rattle.fab_base.proofs.Tests.{and_left}
use Rattle.fab_base.specs.Limits.{Roster}
use Rattle.fab_base.specs.Quorums.{quorum_size}
use Rattle.fab_base.specs.declared.ids.ReplicaId.{ReplicaId}
use Rattle.fab_base.specs.declared.ids.Hash32.{Hash32}
use Rattle.fab_base.specs.declared.messages.Vote.{Vote}
use Rattle.fab_base.specs.declared.messages.Message.{Message}
use Rattle.fab_base.proofs.Digests.{is_same_digest, same_digest_of}
use Rattle.fab_base.proofs.Tests.{and_both, are_same, is_at_most, is_below}
use Rattle.fab_base.specs.Digests.{same_digest}
use Rattle.fab_base.specs.Roster.{size_of}
use Rattle.fab_base.specs.declared.messages.PreparedCert.{PreparedCert}
use Rattle.fab_rules.specs.Lists.{In, leads_by, rises_by}
use Rattle.fab_rules.specs.Format.{is_u64, batch_fits, vote_fits, votes_fit, fits, comes_before}
use Rattle.fab_rules.specs.Format as format
use Rattle.fab_rules.specs.Digests.{batch_digest}
use Rattle.fab_rules.specs.Shape.{is_batch_of, is_quorum_of, agrees_with, agree, IsShaped}
use Rattle.fab_rules.specs.Quoted.{IsVoteFor}
use Rattle.fab_rules.specs.Diary.{Entry, Heard, CommitHeard, QuorumHeard}
use Rattle.fab_rules.proofs.Lists.{contains_from_in, of_flat_map, all_pass}
use Rattle.fab_rules.proofs.Fitting.{fields_are}
use Rattle.vote_certs.specs.Counting.{value_of}
use Rattle.vote_certs.proofs.Meaning.{in_filter}
use Rattle.pbft_slots.specs.Ballots.{Counted, is_for, senders_for, kept_of, kept_from, first_votes}
use Rattle.pbft_slots.specs.Window.{votes_in, batch_at, prepared_at, committed_at}
use Rattle.pbft_slots.proofs.Agreement.{quorum_counted}
use Rattle.fab_machine.specs.State.{Local}
use Rattle.fab_machine.specs.Items.{member_of}
use Rattle.fab_machine.specs.Voting.{batch_or_null, prepared_certificate, commit_certificate}
use Rattle.fab_machine.specs.Rounds.{slot_of, round_of, IsCertificate}
use Rattle.fab_machine.specs.LocalState.{AreOpen, IsKeptVote, AreHeld, IsReport, IsLocalState}
use Rattle.fab_machine.proofs.Shaped.{prepare_slot}
use Rattle.fab_machine.specs.ReplicaState.{IsKeptCertificate}
use Rattle.fab_machine.specs.Relation.{IsBatchKnown, AreHeard, IsReported, IsBacked}
use Rattle.fab_machine.proofs.Lists.{in_take}
use Rattle.fab_machine.proofs.Members.{IsMember}
use Rattle.fab_machine.proofs.Shares.{IsFormedOf, formed_fits, formed_relay}
use Rattle.fab_machine.proofs.Quorums.{prepared_slot, committed_slot, open_slot, agreed_batch, prepares_kept, prepares_fine, commits_kept, prepares_heard, commits_heard, votes_heard}

-- ---- the senders of a digest

record IsSender (votes : List (Option (Counted Vote))) (d : Hash32) (k : ℕ) : Type 0 where
  vote : Counted Vote
  is : value_of votes k ≡ Some vote
  digest_is : vote.digest ≡ d

sender_of : (d : Hash32) (o : Option (Counted Vote)) → is_for d o ≡ true → (c : Counted Vote) × (o ≡ Some c) × (c.digest ≡ d)
sender_of d None h = cc
sender_of d (Some c) h = (c, refl, is_same_digest c.digest d h)

is_sender : (votes : List (Option (Counted Vote))) (d : Hash32) (k : ℕ) → In k (senders_for votes d) → IsSender votes d k
unfolding senders_for
is_sender votes d k h =
    let c = sender_of d (value_of votes k) (in_filter (λ s. is_for d (value_of votes s)) (length votes) k (contains_from_in (senders_for votes d) k h)).1 in
    record { vote = c.0; is = c.1; digest_is = c.2 }

-- numbers that rise, from a on
abbrev RiseFrom : ℕ → List ℕ → Type 0
RiseFrom a [] = Unit {0}
RiseFrom a (x ∷ xs) = (a ≤ x) × RiseFrom (x + 1) xs

rise_lower : (a b : ℕ) (xs : List ℕ) → a ≤ b → RiseFrom b xs → RiseFrom a xs
rise_lower a b [] l h = tt
rise_lower a b (x ∷ xs) l h = (omega (arith, l, h.0), h.1)

filter_rise : (p : ℕ → Bool) (a n : ℕ) → RiseFrom a (filter p (range_with_len a n))
filter_rise p a zero = tt
filter_rise p a (suc n) = go (filter_rise p (a + 1) n) (p a)
  where
    go : RiseFrom (a + 1) (filter p (range_with_len (a + 1) n)) → (b : Bool)
        → RiseFrom a (cond b (a ∷ filter p (range_with_len (a + 1) n)) (filter p (range_with_len (a + 1) n)))
    go rest true = (omega arith, rest)
    go rest false = rise_lower a (a + 1) (filter p (range_with_len (a + 1) n)) (omega arith) rest

take_rise : (a n : ℕ) (xs : List ℕ) → RiseFrom a xs → RiseFrom a (take n xs)
take_rise a zero xs h = tt
take_rise a (suc n) [] h = tt
take_rise a (suc n) (x ∷ xs) h = (h.0, take_rise (x + 1) n xs h.1)

senders_rise : (votes : List (Option (Counted Vote))) (d : Hash32) → RiseFrom 0 (senders_for votes d)
unfolding senders_for
senders_rise votes d = filter_rise (λ s. is_for d (value_of votes s)) 0 (length votes)

-- ---- their votes

kept_count : (votes : List (Option (Counted Vote))) (d : Hash32) (senders : List ℕ) → ((k : ℕ) → In k senders → IsSender votes d k)
    → length (kept_from votes senders) ≡ length senders
kept_count votes d [] each = refl
kept_count votes d (k ∷ rest) each =
    let c = each k (inl refl) in
    ap (λ o. length (kept_of o ++ kept_from votes rest)) c.is ∙ ap suc (kept_count votes d rest (λ j h. each j (inr h)))

record IsKeptFrom (votes : List (Option (Counted Vote))) (d : Hash32) (senders : List ℕ) (v : Vote) : Type 0 where
  sender : ℕ
  vote : Counted Vote
  is : value_of votes sender ≡ Some vote
  digest_is : vote.digest ≡ d
  kept_is : vote.kept ≡ v

kept_one : (o : Option (Counted Vote)) (c : Counted Vote) (v : Vote) → o ≡ Some c → In v (kept_of o) → c.kept ≡ v
kept_one None c v e h = cc
kept_one (Some x) c v e h = elim h [ inl s ↦ (let same : x ≡ c = cc in ap (λ y. y.kept) (sym same) ∙ s) | inr none ↦ absurd none ]

kept_each : (votes : List (Option (Counted Vote))) (d : Hash32) (senders : List ℕ) (v : Vote) → ((k : ℕ) → In k senders → IsSender votes d k)
    → In v (kept_from votes senders) → IsKeptFrom votes d senders v
kept_each votes d senders v each h =
    let j = of_flat_map (λ s. kept_of (value_of votes s)) v senders h in
    let c = each j.from j.is_in in
    record { sender = j.from; vote = c.vote; is = c.is; digest_is = c.digest_is; kept_is = kept_one (value_of votes j.from) c.vote v c.is j.inside }

comes : (c i j : ℕ) → i + 1 ≤ j → (nat_lt c c || (nat_eq c c && nat_lt i j)) ≡ true
comes c i j h = grind (arith, nat_tests)

signers_rise : (me : ReplicaId) (votes : List (Option (Counted Vote))) (d : Hash32) (a : ℕ) (senders : List ℕ) → RiseFrom a senders
    → ((k : ℕ) → In k senders → IsSender votes d k) → ((k : ℕ) (c : Counted Vote) → value_of votes k ≡ Some c → c.kept.signer ≡ member_of me k)
    → rises_by comes_before (map (λ v. v.signer) (kept_from votes senders)) ≡ true
signers_rise me votes d a [] rise each signer = refl
signers_rise me votes d a (k ∷ rest) rise each signer =
    let c = each k (inl refl) in
    let later = signers_rise me votes d (k + 1) rest rise.1 (λ j h. each j (inr h)) signer in
    let lead = leads rest rise.1 (λ j h. each j (inr h)) in
    ap (λ o. rises_by comes_before (map (λ v. v.signer) (kept_of o ++ kept_from votes rest))) c.is
    ∙ (ap (λ s. leads_by comes_before s (map (λ v. v.signer) (kept_from votes rest)) && rises_by comes_before (map (λ v. v.signer) (kept_from votes rest))) (signer k c.vote c.is)
    ∙ (ap (λ b. b && rises_by comes_before (map (λ v. v.signer) (kept_from votes rest))) lead ∙ later))
  where
    leads : (rest : List ℕ) → RiseFrom (k + 1) rest → ((j : ℕ) → In j rest → IsSender votes d j)
        → leads_by comes_before (member_of me k) (map (λ v. v.signer) (kept_from votes rest)) ≡ true
    leads [] r e = refl
    leads (j ∷ more) r e =
        let c = e j (inl refl) in
        ap (λ o. leads_by comes_before (member_of me k) (map (λ v. v.signer) (kept_of o ++ kept_from votes more))) c.is
        ∙ (ap (λ s. comes_before (member_of me k) s) (signer j c.vote c.is) ∙ comes me.cluster k j r.0)

-- ---- the first votes of a quorum

-- as many votes as are needed, by rising index, all for one view, slot and digest and of the cluster
pub record AreFirst (me : ReplicaId) (view slot : ℕ) (d : Hash32) (need : ℕ) (votes : List Vote) : Type 0 where
  pub count : length votes ≡ need
  pub rises : rises_by comes_before (map (λ v. v.signer) votes) ≡ true
  pub own : (v : Vote) → In v votes → v.signer.cluster ≡ me.cluster
  pub votes_for : (v : Vote) → In v votes → IsVoteFor view slot d v
  pub fit : (v : Vote) → In v votes → vote_fits v ≡ true

first_from : (need : ℕ) (votes : List (Option (Counted Vote))) (d : Hash32) (v : Vote) → In v (first_votes need votes d)
    → IsKeptFrom votes d (take need (senders_for votes d)) v
first_from need votes d v h =
    kept_each votes d (take need (senders_for votes d)) v (λ k q. is_sender votes d k (in_take need (senders_for votes d) k q)) h

first_are : (me : ReplicaId) (view slot need : ℕ) (votes : List (Option (Counted Vote))) (d : Hash32) → need ≤ length (senders_for votes d)
    → ((k : ℕ) (c : Counted Vote) → value_of votes k ≡ Some c → IsKeptVote me view slot k c) → AreFirst me view slot d need (first_votes need votes d)
first_are me view slot need votes d enough kept =
    let first = take need (senders_for votes d) in
    let each = λ (k : ℕ) (h : In k first). is_sender votes d k (in_take need (senders_for votes d) k h) in
    let count : length first ≡ need = omega (arith, length-take need (senders_for votes d), enough) in
    record {
      count = kept_count votes d first each ∙ count;
      rises = signers_rise me votes d 0 first (take_rise 0 need (senders_for votes d) (senders_rise votes d)) each (λ k c e. (kept k c e).signer);
      own = λ v h. (let x = first_from need votes d v h in ap (λ y. y.signer.cluster) (sym x.kept_is) ∙ ap (λ i. i.cluster) (kept x.sender x.vote x.is).signer);
      votes_for = λ v h. (let x = first_from need votes d v h in let f = (kept x.sender x.vote x.is).votes_for in
          subst (IsVoteFor view slot d) x.kept_is (record { view_is = f.view_is; slot_is = f.slot_is; digest_is = f.digest_is ∙ x.digest_is }));
      fit = λ v h. (let x = first_from need votes d v h in subst (λ y. vote_fits y ≡ true) x.kept_is (kept x.sender x.vote x.is).fits);
    }

-- what holds of each counted vote holds of the first ones
first_each : (P : Vote → Type 0) (need : ℕ) (votes : List (Option (Counted Vote))) (d : Hash32)
    → ((k : ℕ) (c : Counted Vote) → value_of votes k ≡ Some c → P c.kept) → (v : Vote) → In v (first_votes need votes d) → P v
first_each P need votes d each v h = let x = first_from need votes d v h in subst P x.kept_is (each x.sender x.vote x.is)

-- some votes for a slot: the slot of the first is that one
slot_of_first : (slot : ℕ) (votes : List Vote) → 1 ≤ length votes → ((v : Vote) → In v votes → v.slot ≡ slot) → slot_of votes ≡ slot
slot_of_first slot [] some each = absurd (omega (arith, some))
slot_of_first slot (v ∷ rest) some each = each v (inl refl)

-- ---- the certificate of a prepared slot

pub certificate_reported : (r : Roster) (me : ReplicaId) (l : Local) (full : List Entry) (slot : ℕ) (d : Hash32) → IsLocalState r me l
    → AreHeard l.slots l.waiting l.kept l.checkpoints.votes full → prepared_at l.slots slot ≡ Some d → IsReported r me l.view full slot (prepared_certificate l slot d)
certificate_reported r me l full slot d is heard prepared =
    let w = l.slots in
    let n = w.members in
    let s = prepared_slot w slot d is.opened.window prepared in
    let b = agreed_batch (λ t. t.prepares) r me l.view w slot d is.held s in
    let enough = quorum_counted n s.at.prepares d s.size s.agreed.quorum in
    let first = first_are me l.view slot (quorum_size n) s.at.prepares d enough (prepares_kept r me l.view w slot s.at is.held s.at_is) in
    let were = first_each (λ v. In (Heard (Message.Prepare v)) full) (quorum_size n) s.at.prepares d
    (prepares_heard w l.waiting l.kept l.checkpoints.votes full slot s.at heard s.at_is) in
    let votes_are : (prepared_certificate l slot d).votes ≡ first_votes (quorum_size n) s.at.prepares d =
    ap (λ o. first_votes (quorum_size n) (votes_in (λ t. t.prepares) o) d) s.at_is in
    let there = λ (v : Vote) (h : In v (prepared_certificate l slot d).votes). subst (In v) votes_are h in
    record {
      slot_is = refl;
      view_is = omega arith;
      known = subst (IsBatchKnown full) (sym b.batch_is) (heard.proposals slot b.proposal b.there);
      count = ap length votes_are ∙ (first.count ∙ ap quorum_size is.opened.members);
      rises = ap (λ vs. rises_by comes_before (map (λ v. v.signer) vs)) votes_are ∙ first.rises;
      heard = λ v h. were v (there v h);
      own = λ v h. first.own v (there v h);
      agree = λ v h. subst (λ e. IsVoteFor l.view slot e v) b.digest_is (first.votes_for v (there v h));
    }

-- ---- and it may be reported

all_agree : (cluster view slot : ℕ) (d : Hash32) (votes : List Vote) → ((v : Vote) → In v votes → v.signer.cluster ≡ cluster)
    → ((v : Vote) → In v votes → IsVoteFor view slot d v) → agree cluster votes ≡ true
all_agree cluster view slot d [] own votes_for = refl
all_agree cluster view slot d (first ∷ rest) own votes_for = all_pass (agrees_with cluster first) (first ∷ rest) one
  where
    one : (v : Vote) → In v (first ∷ rest) → agrees_with cluster first v ≡ true
    one v h =
        let a = votes_for v h in
        let b = votes_for first (inl refl) in
        and_both (nat_eq v.signer.cluster cluster && nat_eq v.view first.view && nat_eq v.slot first.slot) (same_digest v.digest first.digest)
        (and_both (nat_eq v.signer.cluster cluster && nat_eq v.view first.view) (nat_eq v.slot first.slot)
        (and_both (nat_eq v.signer.cluster cluster) (nat_eq v.view first.view) (are_same v.signer.cluster cluster (own v h))
        (are_same v.view first.view (a.view_is ∙ sym b.view_is))) (are_same v.slot first.slot (a.slot_is ∙ sym b.slot_is)))
        (same_digest_of v.digest first.digest (a.digest_is ∙ sym b.digest_is))

some_vote : (votes : List Vote) → 1 ≤ length votes → (v : Vote) × In v votes
some_vote [] some = absurd (omega (arith, some))
some_vote (v ∷ rest) some = (v, inl refl)

-- from what is known of its votes
report_of : (r : Roster) (me : ReplicaId) (view : ℕ) (k : PreparedCert) → k.view ≡ view → view ≤ GREATEST_NUMBER → batch_fits k.batch ≡ true
    → is_batch_of r me.cluster k.batch ≡ true → AreFirst me view k.slot (batch_digest k.batch) (quorum_size (size_of r me.cluster)) k.votes
    → 1 ≤ quorum_size (size_of r me.cluster) → size_of r me.cluster ≤ MOST_MEMBERS → ((v : Vote) → In v k.votes → IsShaped r (Message.Prepare v))
    → IsReport r me view k.slot k
report_of r me view k view_is low_enough batch homes first some few fine =
    let n = size_of r me.cluster in
    let one = some_vote k.votes (omega (arith, some, first.count)) in
    let slot_fits = prepare_slot r one.0 (fine one.0 one.1) in
    let slot_upto : k.slot ≤ GREATEST_NUMBER = omega (arith, slot_fits, (first.votes_for one.0 one.1).slot_is) in
    let each_fits : list_all vote_fits k.votes ≡ true = all_pass vote_fits k.votes (λ v h. fields_are (Message.Prepare v) (fine v h).spelled) in
    let votes : votes_fit k.votes ≡ true =
    and_both (format.at_most MOST_STATEMENTS k.votes) _ (is_at_most (length k.votes) MOST_STATEMENTS (omega (arith, first.count, few)))
    (and_both (list_all vote_fits k.votes) _ each_fits first.rises) in
    let placed : list_all (λ v. nat_eq v.view k.view && nat_eq v.slot k.slot) k.votes ≡ true =
    all_pass (λ v. nat_eq v.view k.view && nat_eq v.slot k.slot) k.votes (λ v h. (let f = first.votes_for v h in
    and_both (nat_eq v.view k.view) (nat_eq v.slot k.slot) (are_same v.view k.view (f.view_is ∙ sym view_is)) (are_same v.slot k.slot f.slot_is))) in
    record {
      slot_is = refl;
      upto = slot_upto;
      view_is = omega (arith, view_is);
      fits = and_both (is_u64 k.view) _ (is_below k.view (2 ^ 64) (omega (arith, view_is, low_enough)))
          (and_both (is_u64 k.slot) _ (is_below k.slot (2 ^ 64) (omega (arith, slot_upto))) (and_both (batch_fits k.batch) _ batch votes));
      homes = homes;
      prepared = and_both (is_quorum_of r me.cluster k.votes && agree me.cluster k.votes) _
          (and_both (is_quorum_of r me.cluster k.votes) (agree me.cluster k.votes) (are_same (length k.votes) (quorum_size n) first.count)
          (all_agree me.cluster view k.slot (batch_digest k.batch) k.votes first.own first.votes_for)) placed;
      bears = all_pass (λ v. same_digest v.digest (batch_digest k.batch)) k.votes
          (λ v h. same_digest_of v.digest (batch_digest k.batch) (first.votes_for v h).digest_is);
      fine = fine;
    }

pub certificate_report : (r : Roster) (me : ReplicaId) (l : Local) (slot : ℕ) (d : Hash32) → l.view ≤ GREATEST_NUMBER → AreOpen r me l.slots l.prepared
    → AreHeld r me l.view l.slots → prepared_at l.slots slot ≡ Some d → IsReport r me l.view slot (prepared_certificate l slot d)
certificate_report r me l slot d low_enough opened held prepared =
    let w = l.slots in
    let n = w.members in
    let k = prepared_certificate l slot d in
    let s = prepared_slot w slot d opened.window prepared in
    let b = agreed_batch (λ t. t.prepares) r me l.view w slot d held s in
    let enough = quorum_counted n s.at.prepares d s.size s.agreed.quorum in
    let first = first_are me l.view slot (quorum_size n) s.at.prepares d enough (prepares_kept r me l.view w slot s.at held s.at_is) in
    let were = first_each (λ v. IsShaped r (Message.Prepare v)) (quorum_size n) s.at.prepares d (prepares_fine r me l.view w slot s.at held s.at_is) in
    let votes_are : k.votes ≡ first_votes (quorum_size n) s.at.prepares d =
    ap (λ o. first_votes (quorum_size n) (votes_in (λ t. t.prepares) o) d) s.at_is in
    let same_first : AreFirst me l.view slot (batch_digest k.batch) (quorum_size (size_of r me.cluster)) k.votes =
    subst (λ m. AreFirst me l.view slot (batch_digest k.batch) (quorum_size m) k.votes) opened.members
    (subst (λ e. AreFirst me l.view slot e (quorum_size n) k.votes) b.digest_is
    (subst (λ vs. AreFirst me l.view slot d (quorum_size n) vs) (sym votes_are) first)) in
    report_of r me l.view k refl low_enough (ap batch_fits b.batch_is ∙ b.held.fits)
    (subst (λ x. is_batch_of r me.cluster x ≡ true) (sym b.batch_is) b.held.homes) same_first
    (omega (arith, opened.window.some, opened.members)) (omega (arith, opened.window.few, opened.members))
    (λ v h. were v (subst (In v) votes_are h))

-- ---- the certificate of a committed slot

-- it is one, for its slot, and of clients whose home is here
pub record IsFormed (r : Roster) (me : ReplicaId) (l : Local) (slot : ℕ) (d : Hash32) : Type 0 where
  pub round_is : round_of (commit_certificate me l slot d) ≡ slot
  pub certificate : IsCertificate (length r.sizes) (commit_certificate me l slot d)
  pub homes : IsTrue (is_batch_of r me.cluster (commit_certificate me l slot d).batch)
  pub of : IsFormedOf r (commit_certificate me l slot d) l.view slot
  pub spelled : fits (Message.Share (commit_certificate me l slot d)) ≡ true

pub certificate_formed : (r : Roster) (me : ReplicaId) (l : Local) (slot : ℕ) (d : Hash32) → IsMember r me → IsLocalState r me l
    → committed_at l.slots slot ≡ Some d → IsFormed r me l slot d
certificate_formed r me l slot d member is committed =
    let w = l.slots in
    let n = w.members in
    let k = commit_certificate me l slot d in
    let s = committed_slot w slot d is.opened.window committed in
    let o = open_slot w slot s.at s.at_is in
    let b = agreed_batch (λ t. t.commits) r me l.view w slot d is.held s in
    let enough = quorum_counted n s.at.commits d s.size s.agreed.quorum in
    let first = first_are me l.view slot (quorum_size n) s.at.commits d enough (commits_kept r me l.view w slot s.at is.held s.at_is) in
    let votes_are : k.votes ≡ first_votes (quorum_size n) s.at.commits d = ap (λ x. first_votes (quorum_size n) (votes_in (λ t. t.commits) x) d) s.at_is in
    let votes_for = λ (v : Vote) (h : In v k.votes). first.votes_for v (subst (In v) votes_are h) in
    let some : 1 ≤ length k.votes = omega (arith, is.opened.window.some, first.count, ap length votes_are) in
    let size : n ≡ size_of r me.cluster = is.opened.members in
    let of : IsFormedOf r k l.view slot = record {
      count = ap length votes_are ∙ (first.count ∙ ap quorum_size size);
      rises = ap (λ vs. rises_by comes_before (map (λ v. v.signer) vs)) votes_are ∙ first.rises;
      own = λ v h. first.own v (subst (In v) votes_are h);
      votes_for = λ v h. subst (λ e. IsVoteFor l.view slot e v) b.digest_is (votes_for v h);
      fit = λ v h. first.fit v (subst (In v) votes_are h);
      batch_fit = ap batch_fits b.batch_is ∙ b.held.fits;
    } in
    let round_is = slot_of_first slot k.votes some (λ v h. (votes_for v h).slot_is) in
    record {
      round_is = round_is;
      certificate = record {
        cluster_from = member.from;
        cluster_upto = member.upto;
        some = some;
        round_from = omega (arith, round_is, o.1.above);
        agree = λ v h. (let f = votes_for v h in (f.slot_is ∙ sym round_is, f.digest_is ∙ b.digest_is));
        fits = ap batch_fits b.batch_is ∙ b.held.fits;
      };
      homes = subst (λ x. IsTrue (is_batch_of r me.cluster x)) (sym b.batch_is) b.held.homes;
      of = of;
      spelled = formed_fits r k l.view slot member.narrow member.few of;
    }

-- so it may be kept, where its slot is within the limits
pub certificate_may : (r : Roster) (me : ReplicaId) (l : Local) (slot : ℕ) (d : Hash32) → IsMember r me → IsLocalState r me l
    → slot ≤ GREATEST_NUMBER → committed_at l.slots slot ≡ Some d → IsKeptCertificate r (commit_certificate me l slot d)
certificate_may r me l slot d member is low_enough committed =
    let formed = certificate_formed r me l slot d member is committed in
    record { certificate = formed.certificate; round_upto = omega (arith, formed.round_is, low_enough); homes = formed.homes; spelled = formed.spelled }

-- a Commit that was heard as a message of its own is a heard statement
as_statements : (r : Roster) (full : List Entry) (cluster view slot : ℕ) (d : Hash32)
    → QuorumHeard r (λ v. In (Heard (Message.Commit v)) full) cluster view slot d → QuorumHeard r (CommitHeard full) cluster view slot d
as_statements r full cluster view slot d q = record {
  members = q.members;
  quorum = q.quorum;
  each = λ k h. (let x = q.each k h in record {
    vote = x.vote;
    heard = record { message = Message.Commit x.vote; heard = x.heard; inside = inl refl };
    signer = x.signer;
    votes_for = x.votes_for;
  });
}

-- and it is what a round asks for
pub certificate_backed : (r : Roster) (me : ReplicaId) (l : Local) (full : List Entry) (slot : ℕ) (d : Hash32) → IsMember r me → IsLocalState r me l
    → ((m : Message) → In (Heard m) full → IsShaped r m) → AreHeard l.slots l.waiting l.kept l.checkpoints.votes full → committed_at l.slots slot ≡ Some d → IsBacked r full (commit_certificate me l slot d)
certificate_backed r me l full slot d member is shaped heard committed =
    let w = l.slots in
    let formed = certificate_formed r me l slot d member is committed in
    let s = committed_slot w slot d is.opened.window committed in
    let b = agreed_batch (λ t. t.commits) r me l.view w slot d is.held s in
    let n = w.members in
    let known : IsBatchKnown full (commit_certificate me l slot d).batch = subst (IsBatchKnown full) (sym b.batch_is) (heard.proposals slot b.proposal b.there) in
    let were = first_each (λ v. In (Heard (Message.Commit v)) full) (quorum_size n) s.at.commits d
    (commits_heard w l.waiting l.kept l.checkpoints.votes full slot s.at heard s.at_is) in
    let votes_are : (commit_certificate me l slot d).votes ≡ first_votes (quorum_size n) s.at.commits d =
    ap (λ o. first_votes (quorum_size n) (votes_in (λ t. t.commits) o) d) s.at_is in
    let quorum = votes_heard r me Message.Commit full w.members l.view slot s.at.commits d is.opened.members
    (commits_kept r me l.view w slot s.at is.held s.at_is) (commits_heard w l.waiting l.kept l.checkpoints.votes full slot s.at heard s.at_is) s.agreed.quorum in
    record {
      view = l.view;
      committed = subst (λ j. QuorumHeard r (CommitHeard full) me.cluster l.view j (batch_digest (batch_or_null (batch_at w slot)))) (sym formed.round_is)
          (subst (λ e. QuorumHeard r (CommitHeard full) me.cluster l.view slot e) b.digest_is (as_statements r full me.cluster l.view slot d quorum));
      known = known;
      homes = formed.homes;
      share = formed_relay r full (commit_certificate me l slot d) l.view slot shaped formed.spelled (and_left (is_cluster r me.cluster) _ member.known)
          formed.homes formed.of known (λ v h. were v (subst (In v) votes_are h));
    }
