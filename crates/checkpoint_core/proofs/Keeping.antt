-- What counts stays whole, and stays stable, through the calls.
use Rattle.std.proofs.Common.{◌≡◌, ℕ, ◌≤◌, ◌<◌, Bool, true, false, ◌&&◌, cond, nat_eq, nat_le, nat_lt, max, List, [], ◌∷◌, ◌++◌, length, take, Option, Some, None, refl, sym, ap, ◌∙◌, arith}
use Rattle.std.specs.List.{filter, All}
use Rattle.std.specs.Option.{option_map}
use Rattle.std.proofs.lemmas.Bool.{ltb-true, lt-ltb, leb-false}
use Rattle.std.proofs.lemmas.Cmp.{nat_eq_equiv}
use Rattle.std.proofs.lemmas.List.Elements.{All-head, All-tail, All-nil, All-push, All-weaker, All-filter, filter-append, filter_agree, filter_passes}
use Rattle.std.proofs.lemmas.List.Sums.{length-filter}
use Rattle.fab_base.specs.Digests.{same_digest}
use Rattle.fab_base.specs.Quorums.{quorum_size}
use Rattle.fab_base.specs.declared.ids.Hash32.{Hash32}
use Rattle.fab_base.specs.declared.limits.TheConstants.{MOST_MEMBERS}
use Rattle.fab_base.specs.declared.messages.StableVote.{StableVote}
use Rattle.fab_base.specs.declared.answers.Take.{Take}
use Rattle.fab_base.specs.declared.answers.Take.TheVariants.{Taken, Old, Twice, Conflict}
use Rattle.fab_base.proofs.Tests as tests
use Rattle.checkpoint_core.specs.Checkpoints.{Checkpoints, no_checkpoints, IsOpen, AreCheckpoints, AreFirst, is_by, first_in, vote_of, answer_by, vote_answer, votes_by, after_vote, is_for, number_for, is_agreed, stable, by_index, first_for, proof_of, pruned}
use Rattle.checkpoint_core.proofs.Firsts.{by_none}
use Rattle.checkpoint_core.proofs.Counting.{stable_is}

-- ---- at first

pub none_are : (n : ℕ) → 1 ≤ n → n ≤ MOST_MEMBERS → AreCheckpoints (no_checkpoints n)
none_are n some few = record { some = some; few = few; counted = All-nil (IsOpen (no_checkpoints n)); first = tt }

-- ---- one vote more

symmetric : (v x : StableVote) → is_by v.signer.index v.round x ≡ false → is_by x.signer.index x.round v ≡ false
symmetric v x h =
    let both : (p q r s : Bool) → p ≡ q → r ≡ s → (p && r) ≡ (q && s) = λ p q r s e f. rw (e, f) refl in
    both _ _ _ _ (nat_eq_equiv.symm v.signer.index x.signer.index) (nat_eq_equiv.symm v.round x.round) ∙ h

first_push : (votes : List StableVote) (v : StableVote) → AreFirst votes → All (λ x. is_by v.signer.index v.round x ≡ false) votes → AreFirst (votes ++ v ∷ [])
first_push [] v first h = (All-nil (λ x. is_by v.signer.index v.round x ≡ false), tt)
first_push (x ∷ votes) v first h = (
  All-push (λ y. is_by x.signer.index x.round y ≡ false) votes v first.0 (symmetric v x (All-head (λ y. is_by v.signer.index v.round y ≡ false) x votes h)),
  first_push votes v first.1 (All-tail (λ y. is_by v.signer.index v.round y ≡ false) x votes h),
)

-- a vote that is the first of its member for a round above the mark
pub push_keeps : (c : Checkpoints) (v : StableVote) → AreCheckpoints c → v.signer.index < c.members → c.low < v.round
    → vote_of c.votes v.signer.index v.round ≡ None → AreCheckpoints (record c { votes = c.votes ++ v ∷ [] })
push_keeps c v h member above none = record {
  some = h.some;
  few = h.few;
  counted = All-push (IsOpen (record c { votes = c.votes ++ v ∷ [] })) c.votes v
      (All-weaker (IsOpen c) (IsOpen (record c { votes = c.votes ++ v ∷ [] })) (λ x o. record { member = o.member; above = o.above }) c.votes h.counted)
      (record { member = member; above = above });
  first = first_push c.votes v h.first (by_none c.votes v.signer.index v.round none);
}

pub vote_keeps : (c : Checkpoints) (v : StableVote) → AreCheckpoints c → v.signer.index < c.members → AreCheckpoints (after_vote c v)
vote_keeps c v h member = go (nat_le v.round c.low) refl (vote_of c.votes v.signer.index v.round) refl
  where
    same : (first : StableVote) (t : Bool) → AreCheckpoints (record c { votes = votes_by (cond t Twice (Conflict first.digest)) c.votes v })
    same first true = h
    same first false = h

    go : (t : Bool) → nat_le v.round c.low ≡ t → (first : Option StableVote) → vote_of c.votes v.signer.index v.round ≡ first
        → AreCheckpoints (record c { votes = votes_by (cond t (Old c.low) (answer_by first v.digest)) c.votes v })
    go true e first f = h
    go false e None f = push_keeps c v h member (leb-false v.round c.low e) f
    go false e (Some first) f = same first (same_digest first.digest v.digest)

-- what holds of all that count and of the vote, holds of all that count then
pub vote_all : (P : StableVote → Type 0) (c : Checkpoints) (v : StableVote) → All P c.votes → P v → All P (after_vote c v).votes
vote_all P c v h p = go (vote_answer c v)
  where
    go : (how : Take) → All P (votes_by how c.votes v)
    go Taken = All-push P c.votes v h p
    go how = h

digest_stays : (votes more : List StableVote) (digest : Hash32) → option_map (λ v. v.digest) (first_in votes) ≡ Some digest
    → option_map (λ v. v.digest) (first_in (votes ++ more)) ≡ Some digest
digest_stays [] more digest e = absurd cc
digest_stays (x ∷ votes) more digest e = e

-- what a member says, it says with one vote more
said_stays : (c : Checkpoints) (v : StableVote) (sender round : ℕ) (digest : Hash32) → option_map (λ x. x.digest) (vote_of c.votes sender round) ≡ Some digest
    → option_map (λ x. x.digest) (vote_of (after_vote c v).votes sender round) ≡ Some digest
said_stays c v sender round digest e = go (vote_answer c v)
  where
    go : (how : Take) → option_map (λ x. x.digest) (vote_of (votes_by how c.votes v) sender round) ≡ Some digest
    go Taken =
        ap (λ vs. option_map (λ x. x.digest) (first_in vs)) (filter-append (is_by sender round) c.votes (v ∷ []))
        ∙ digest_stays (filter (is_by sender round) c.votes) (filter (is_by sender round) (v ∷ [])) digest e
    go how = e

-- so a stable round stays stable
pub stable_stays : (c : Checkpoints) (v : StableVote) (round : ℕ) (digest : Hash32) → AreCheckpoints c → v.signer.index < c.members
    → stable c round ≡ Some digest → stable (after_vote c v) round ≡ Some digest
stable_stays c v round digest h member e =
    let quorum = (stable_is c round digest h).0 e in
    (stable_is (after_vote c v) round digest (vote_keeps c v h member)).1 (
      quorum.0,
      quorum.1,
      All-weaker (λ k. option_map (λ x. x.digest) (vote_of c.votes k round) ≡ Some digest)
          (λ k. option_map (λ x. x.digest) (vote_of (after_vote c v).votes k round) ≡ Some digest) (λ k s. said_stays c v k round digest s) quorum.0 quorum.2,
    )

-- ---- let go

first_filter : (p : StableVote → Bool) (votes : List StableVote) → AreFirst votes → AreFirst (filter p votes)
first_filter p [] first = tt
first_filter p (v ∷ votes) first = go (p v) (first_filter p votes first.1)
  where
    go : (t : Bool) → AreFirst (filter p votes) → AreFirst (cond t (v ∷ filter p votes) (filter p votes))
    go true rest = (All-filter p (λ x. is_by v.signer.index v.round x ≡ false) votes first.0, rest)
    go false rest = rest

pub pruned_keeps : (c : Checkpoints) (round : ℕ) → AreCheckpoints c → AreCheckpoints (pruned c round)
pruned_keeps c round h =
    let p : StableVote → Bool = λ v. nat_lt (max c.low round) v.round in
    record {
      some = h.some;
      few = h.few;
      counted = λ k d l. record {
        member = All-filter p (λ v. v.signer.index < c.members) c.votes (All-weaker (IsOpen c) (λ v. v.signer.index < c.members) (λ v o. o.member) c.votes h.counted) k d l;
        above = ltb-true _ _ (filter_passes p c.votes k d l);
      };
      first = first_filter p c.votes h.first;
    }

-- what holds of all that count, holds of all that still count
pub pruned_all : (P : StableVote → Type 0) (c : Checkpoints) (round : ℕ) → All P c.votes → All P (pruned c round).votes
pruned_all P c round h = All-filter (λ v. nat_lt (max c.low round) v.round) P c.votes h

-- the same, by the parts
pub pruned_is : (c : Checkpoints) (round low : ℕ) (votes : List StableVote) → low ≡ max c.low round → votes ≡ filter (λ v. nat_lt low v.round) c.votes
    → ◌≡◌ {A = Checkpoints} (record { low = low; members = c.members; votes = votes }) (pruned c round)
pruned_is c round low votes mark kept =
    let at : ℕ → Checkpoints = λ l. record { low = l; members = c.members; votes = filter (λ v. nat_lt l v.round) c.votes } in
    let with_votes : List StableVote → Checkpoints = λ vs. record { low = low; members = c.members; votes = vs } in
    ap with_votes kept ∙ ap at mark

-- ---- the rounds above the mark

-- a test that is stricter than one before it
stricter : (p q : StableVote → Bool) (votes : List StableVote) → ((v : StableVote) → q v ≡ true → p v ≡ true) → filter q (filter p votes) ≡ filter q votes
stricter p q [] h = refl
stricter p q (v ∷ votes) h = go (p v) (q v) refl refl (stricter p q votes h)
  where
    go : (s t : Bool) → p v ≡ s → q v ≡ t → filter q (filter p votes) ≡ filter q votes
        → filter q (cond s (v ∷ filter p votes) (filter p votes)) ≡ cond t (v ∷ filter q votes) (filter q votes)
    go true t is so rest = ap (λ u. cond u (v ∷ filter q (filter p votes)) (filter q (filter p votes))) so ∙ ap (λ vs. cond t (v ∷ vs) vs) rest
    go false false is so rest = rest
    go false true is so rest = (let both = h v so in absurd cc)

record IsAbove (c : Checkpoints) (low round : ℕ) : Type 0 where
  old : c.low < round
  new : low < round

still : (c : Checkpoints) (low round : ℕ) → IsAbove c low round → (v : StableVote) → nat_eq v.round round ≡ true → nat_lt (max c.low low) v.round ≡ true
still c low round h v e = lt-ltb (max c.low low) v.round (let is = tests.same v.round round e in omega (arith, is, h.old, h.new))

said_above : (c : Checkpoints) (low round : ℕ) (digest : Hash32) → IsAbove c low round → filter (is_for round digest) (pruned c low).votes ≡ filter (is_for round digest) c.votes
said_above c low round digest h = stricter (λ v. nat_lt (max c.low low) v.round) (is_for round digest) c.votes
    (λ v e. still c low round h v (tests.and_left (nat_eq v.round round) (same_digest v.digest digest) e))

number_above : (c : Checkpoints) (low round : ℕ) (digest : Hash32) → IsAbove c low round → number_for (pruned c low).votes round digest ≡ number_for c.votes round digest
number_above c low round digest h =
    sym (length-filter (is_for round digest) (pruned c low).votes) ∙ (ap length (said_above c low round digest h) ∙ length-filter (is_for round digest) c.votes)

agreed_above : (c : Checkpoints) (low round : ℕ) → IsAbove c low round → filter (is_agreed (pruned c low) round) (pruned c low).votes ≡ filter (is_agreed c round) c.votes
agreed_above c low round h =
    filter_agree (is_agreed (pruned c low) round) (is_agreed c round)
    (λ v. ap (λ n. nat_eq v.round round && nat_le (quorum_size c.members) n) (number_above c low round v.digest h)) (pruned c low).votes
    ∙ stricter (λ v. nat_lt (max c.low low) v.round) (is_agreed c round) c.votes
    (λ v e. still c low round h v (tests.and_left (nat_eq v.round round) (nat_le (quorum_size c.members) (number_for c.votes round v.digest)) e))

-- they stay stable as they were
pub stable_above : (c : Checkpoints) (low round : ℕ) → c.low < round → low < round → stable (pruned c low) round ≡ stable c round
stable_above c low round old new = ap (λ vs. option_map (λ v. v.digest) (first_in vs)) (agreed_above c low round (record { old = old; new = new }))

-- with the same proof
pub proof_above : (c : Checkpoints) (low round : ℕ) → c.low < round → low < round → proof_of (pruned c low) round ≡ proof_of c round
proof_above c low round old new =
    ap (λ digest. option_map (first_for (pruned c low) round) digest) (stable_above c low round old new) ∙ go (stable c round)
  where
    go : (digest : Option Hash32) → option_map (first_for (pruned c low) round) digest ≡ option_map (first_for c round) digest
    go None = refl
    go (Some d) = ap (λ vs. Some (take (quorum_size c.members) (by_index c.members vs))) (said_above c low round d (record { old = old; new = new }))
