-- The Checkpoints that say the same of a round are of as many distinct members. So a round is stable exactly where a quorum agrees.
use Rattle.std.proofs.Common.{◌≡◌, ℕ, zero, suc, ◌+◌, ◌≤◌, ◌<◌, ◌↔◌, ◌⊎◌, Bool, true, false, ◌&&◌, cond, nat_eq, nat_le, eqb, List, [], ◌∷◌, get_or, Option, Some, None, zero-add, inl, inr, refl, sym, ap, subst, ◌∙◌, arith}
use Rattle.std.specs.List.{filter, range_with_len, All}
use Rattle.std.specs.Option.{option_map}
use Rattle.std.proofs.lemmas.Bool.{eqb-true, eqb-false, ne_eqb, and_left, or_cases, leb-true, le-leb}
use Rattle.std.proofs.lemmas.Option.{same_Some}
use Rattle.std.proofs.lemmas.List.Elements.{All-head, All-tail, All-weaker, filter_passes}
use Rattle.std.proofs.lemmas.List.Folds.{list_any_at}
use Rattle.std.proofs.lemmas.List.FromFn.{get_or-range_with_len, length-range_with_len}
use Rattle.std.proofs.lemmas.List.Sums.{sum_by-cons, sum_by-le-sum_by}
use Rattle.fab_base.specs.Digests.{same_digest}
use Rattle.fab_base.specs.Quorums.{quorum_size, IsRisingFrom, is_member, one_if, count_members}
use Rattle.fab_base.specs.declared.ids.Hash32.{Hash32}
use Rattle.fab_base.specs.declared.messages.StableVote.{StableVote}
use Rattle.fab_base.proofs.Counting.{both, some_member, same_count, length-le_members, members-le_filter, rising-filter}
use Rattle.fab_base.proofs.Digests.{is_same_digest, same_digest_of}
use Rattle.fab_base.proofs.Tests as tests
use Rattle.checkpoint_core.specs.Checkpoints.{Checkpoints, IsOpen, AreCheckpoints, AreFirst, is_by, first_in, vote_of, is_for, number_for, is_agreed, stable, HasQuorum}
use Rattle.checkpoint_core.proofs.Firsts.{first_passes, some_first, vote_of-cons, none_by}

-- ---- counts of members

nobody : (n : ℕ) → count_members n (λ k. false) ≡ 0
nobody zero = refl
nobody (suc n) = omega (arith, nobody n)

no_fewer : (n : ℕ) (p q : ℕ → Bool) → ((k : ℕ) → p k ≡ true → q k ≡ true) → count_members n p ≤ count_members n q
no_fewer zero p q h = omega arith
no_fewer (suc n) p q h = go (p n) refl (no_fewer n p q h)
  where
    go : (t : Bool) → p n ≡ t → count_members n p ≤ count_members n q → one_if (p n) + count_members n p ≤ one_if (q n) + count_members n q
    go true e rest = (let one : one_if (q n) ≡ 1 = ap one_if (h n e) in let same : one_if (p n) ≡ 1 = ap one_if e in omega arith)
    go false e rest = (let none : one_if (p n) ≡ 0 = ap one_if e in omega arith)

-- two tests that differ at one member at most
one_apart : (n x : ℕ) (p q : ℕ → Bool) → x < n → ((j : ℕ) → eqb x j ≡ false → q j ≡ p j) → count_members n q + one_if (p x) ≡ count_members n p + one_if (q x)
one_apart zero x p q l h = absurd (omega (arith, l))
one_apart (suc n) x p q l h = go (λ s. one_apart n x p q s h) (eqb x n) refl
  where
    go : (x < n → count_members n q + one_if (p x) ≡ count_members n p + one_if (q x)) → (t : Bool) → eqb x n ≡ t
        → count_members (suc n) q + one_if (p x) ≡ count_members (suc n) p + one_if (q x)
    go rec true e =
        let last : x ≡ n = eqb-true x n e in
        let below = same_count n q p (λ j k. h j (ne_eqb x j (λ s. omega (arith, last, k, s)))) in
        let old : one_if (p x) ≡ one_if (p n) = ap (λ k. one_if (p k)) last in
        let new : one_if (q x) ≡ one_if (q n) = ap (λ k. one_if (q k)) last in
        omega (arith, below, old, new)
    go rec false e =
        let rest = rec (omega (arith, l, eqb-false x n e)) in
        let here : one_if (q n) ≡ one_if (p n) = ap one_if (h n e) in
        omega (arith, rest, here)

-- ---- what a member says

abbrev pub has_digest : Hash32 → Option StableVote → Bool
has_digest digest None = false
has_digest digest (Some v) = same_digest v.digest digest

-- whether a member says this of the round
abbrev pub says : List StableVote → ℕ → Hash32 → ℕ → Bool
says votes round digest sender = has_digest digest (vote_of votes sender round)

digest_said : (digest : Hash32) (vote : Option StableVote) → has_digest digest vote ≡ true → option_map (λ v. v.digest) vote ≡ Some digest
digest_said digest None h = absurd cc
digest_said digest (Some v) h = ap Some (is_same_digest v.digest digest h)

said_digest : (digest : Hash32) (vote : Option StableVote) → option_map (λ v. v.digest) vote ≡ Some digest → has_digest digest vote ≡ true
said_digest digest None h = absurd cc
said_digest digest (Some v) h = same_digest_of v.digest digest (same_Some v.digest digest h)

one_digest : (d e : Hash32) (vote : Option StableVote) → has_digest d vote ≡ true → has_digest e vote ≡ true → d ≡ e
one_digest d e vote h k = same_Some d e (sym (digest_said d vote h) ∙ digest_said e vote k)

-- with one vote more in front
says-cons : (v : StableVote) (votes : List StableVote) (round : ℕ) (digest : Hash32) (sender : ℕ)
    → says (v ∷ votes) round digest sender ≡ cond (is_by sender round v) (same_digest v.digest digest) (says votes round digest sender)
says-cons v votes round digest sender = ap (has_digest digest) (vote_of-cons v votes sender round) ∙ go (is_by sender round v)
  where
    go : (t : Bool) → has_digest digest (cond t (Some v) (vote_of votes sender round)) ≡ cond t (same_digest v.digest digest) (says votes round digest sender)
    go true = refl
    go false = refl

is_one_if : (t : Bool) → cond t 1 0 ≡ one_if t
is_one_if true = refl
is_one_if false = refl

number-cons : (v : StableVote) (votes : List StableVote) (round : ℕ) (digest : Hash32)
    → number_for (v ∷ votes) round digest ≡ one_if (nat_eq v.round round && same_digest v.digest digest) + number_for votes round digest
number-cons v votes round digest =
    sum_by-cons (λ x. cond (is_for round digest x) 1 0) v votes ∙ ap (λ n. n + number_for votes round digest) (is_one_if (is_for round digest v))

-- those that say the same are of as many members
pub as_many : (n : ℕ) (votes : List StableVote) (round : ℕ) (digest : Hash32) → All (λ v. v.signer.index < n) votes → AreFirst votes
    → number_for votes round digest ≡ count_members n (says votes round digest)
as_many n [] round digest members first = sym (nobody n)
as_many n (v ∷ votes) round digest members first =
    go (nat_eq v.round round) refl (as_many n votes round digest (All-tail (λ x. x.signer.index < n) v votes members) first.1)
  where
    go : (t : Bool) → nat_eq v.round round ≡ t → number_for votes round digest ≡ count_members n (says votes round digest)
        → number_for (v ∷ votes) round digest ≡ count_members n (says (v ∷ votes) round digest)
    go true e rest =
        let x : ℕ = v.signer.index in
        let own : v.round ≡ round = eqb-true v.round round e in
        let none : says votes round digest x ≡ false =
        ap (λ vs. has_digest digest (first_in vs)) (none_by votes x round (subst (λ r. All (λ y. is_by x r y ≡ false) votes) own first.0)) in
        let is_own : is_by x round v ≡ true = tests.and_both (nat_eq x x) (nat_eq v.round round) (tests.is_same x) e in
        let some : says (v ∷ votes) round digest x ≡ same_digest v.digest digest =
        says-cons v votes round digest x ∙ ap (λ t. cond t (same_digest v.digest digest) (says votes round digest x)) is_own in
        let others : (j : ℕ) → eqb x j ≡ false → says (v ∷ votes) round digest j ≡ says votes round digest j = λ j f.
        says-cons v votes round digest j ∙ ap (λ t. cond t (same_digest v.digest digest) (says votes round digest j)) (and_left (nat_eq x j) (nat_eq v.round round) f) in
        let apart = one_apart n x (says votes round digest) (says (v ∷ votes) round digest) (All-head (λ y. y.signer.index < n) v votes members) others in
        let old : one_if (says votes round digest x) ≡ 0 = ap one_if none in
        let new : one_if (says (v ∷ votes) round digest x) ≡ one_if (same_digest v.digest digest) = ap one_if some in
        let counted : one_if (nat_eq v.round round && same_digest v.digest digest) ≡ one_if (same_digest v.digest digest) =
        ap (λ t. one_if (t && same_digest v.digest digest)) e in
        omega (arith, rest, number-cons v votes round digest, apart, old, new, counted)
    go false e rest =
        let same = same_count n (says (v ∷ votes) round digest) (says votes round digest) (λ j l. says-cons v votes round digest j
        ∙ ap (λ t. cond t (same_digest v.digest digest) (says votes round digest j)) (by_right (nat_eq v.signer.index j) (nat_eq v.round round) e)) in
        let counted : one_if (nat_eq v.round round && same_digest v.digest digest) ≡ 0 = ap (λ t. one_if (t && same_digest v.digest digest)) e in
        omega (arith, rest, number-cons v votes round digest, same, counted)
      where
        by_right : (a b : Bool) → b ≡ false → (a && b) ≡ false
        by_right true b h = h
        by_right false b h = refl

pub members_count : (c : Checkpoints) (round : ℕ) (digest : Hash32) → AreCheckpoints c
    → number_for c.votes round digest ≡ count_members c.members (says c.votes round digest)
members_count c round digest h = as_many c.members c.votes round digest (All-weaker (IsOpen c) (λ v. v.signer.index < c.members) (λ v o. o.member) c.votes h.counted) h.first

-- ---- a number that makes a quorum, and the members

rises : (least a len n : ℕ) → least ≤ a → a + len ≤ n → IsRisingFrom least n (range_with_len a len)
rises least a zero n l m = tt
rises least a (suc len) n l m = (l, omega (arith, m), rises (a + 1) (a + 1) len n (omega arith) (omega (arith, m)))

each_below : (n j : ℕ) → j < n → is_member (range_with_len 0 n) j ≡ true
each_below n j l =
    let at : get_or (range_with_len 0 n) j 0 ≡ j = get_or-range_with_len 0 n j 0 l ∙ zero-add j in
    list_any_at (λ x. eqb x j) (range_with_len 0 n) j 0 (omega (arith, l, length-range_with_len 0 n)) (ap (λ x. eqb x j) at ∙ tests.is_same j)

-- what holds of all of a list holds of a member
holds_of : (P : ℕ → Type 0) (xs : List ℕ) (k : ℕ) → All P xs → is_member xs k ≡ true → P k
holds_of P [] k h e = absurd cc
holds_of P (x ∷ xs) k h e = go (holds_of P xs k (All-tail P x xs h)) (or_cases (eqb x k) (is_member xs k) e)
  where
    go : (is_member xs k ≡ true → P k) → (eqb x k ≡ true) ⊎ (is_member xs k ≡ true) → P k
    go rest (inl here) = subst P (eqb-true x k here) (All-head P x xs h)
    go rest (inr later) = rest later

pub quorum_of_number : (c : Checkpoints) (round : ℕ) (digest : Hash32) → AreCheckpoints c
    → quorum_size c.members ≤ number_for c.votes round digest → HasQuorum c round digest
quorum_of_number c round digest h enough =
    let n : ℕ = c.members in
    let q : ℕ → Bool = says c.votes round digest in
    let all = same_count n q (λ j. is_member (range_with_len 0 n) j && q j) (λ j l. ap (λ t. t && q j) (sym (each_below n j l))) in (
      filter q (range_with_len 0 n),
      record {
        rising = rising-filter 0 n q (range_with_len 0 n) (rises 0 0 n n (omega arith) (omega arith));
        enough = omega (arith, enough, members_count c round digest h, all, members-le_filter n q (range_with_len 0 n));
      },
      All-weaker (λ k. q k ≡ true) (λ k. option_map (λ v. v.digest) (vote_of c.votes k round) ≡ Some digest)
          (λ k s. digest_said digest (vote_of c.votes k round) s) (filter q (range_with_len 0 n)) (filter_passes q (range_with_len 0 n)),
    )

pub number_of_quorum : (c : Checkpoints) (round : ℕ) (digest : Hash32) → AreCheckpoints c
    → HasQuorum c round digest → quorum_size c.members ≤ number_for c.votes round digest
number_of_quorum c round digest h quorum =
    let long = length-le_members 0 c.members quorum.0 quorum.1.rising in
    let more = no_fewer c.members (is_member quorum.0) (says c.votes round digest) (λ k e. said_digest digest (vote_of c.votes k round)
    (holds_of (λ sender. option_map (λ v. v.digest) (vote_of c.votes sender round) ≡ Some digest) quorum.0 k quorum.2 e)) in
    omega (arith, quorum.1.enough, long, more, members_count c round digest h)

-- two numbers that make a quorum are of one digest: the quorums share a member, who says one
one_number : (c : Checkpoints) (round : ℕ) (d e : Hash32) → AreCheckpoints c
    → quorum_size c.members ≤ number_for c.votes round d → quorum_size c.members ≤ number_for c.votes round e → d ≡ e
one_number c round d e h enough_d enough_e =
    let p : ℕ → Bool = says c.votes round d in
    let q : ℕ → Bool = says c.votes round e in
    let overlap = both c.members p q in
    let some : 0 < count_members c.members (λ k. p k && q k) = omega (arith, h.some, enough_d, enough_e, members_count c round d h, members_count c round e h, overlap) in
    let shared = some_member c.members (λ k. p k && q k) some in
    one_digest d e (vote_of c.votes shared.0 round) (tests.and_left (p shared.0) (q shared.0) shared.2) (tests.and_right (p shared.0) (q shared.0) shared.2)

-- no two digests have a quorum for one round
pub one_quorum : (c : Checkpoints) (round : ℕ) (d e : Hash32) → AreCheckpoints c → HasQuorum c round d → HasQuorum c round e → d ≡ e
one_quorum c round d e h for_d for_e = one_number c round d e h (number_of_quorum c round d h for_d) (number_of_quorum c round e h for_e)

-- ---- stable rounds

-- the digest of a stable round is that of some Checkpoint that a quorum says
pub stable_agreed : (c : Checkpoints) (round : ℕ) (digest : Hash32) → stable c round ≡ Some digest → quorum_size c.members ≤ number_for c.votes round digest
stable_agreed c round digest e = go (first_in (filter (is_agreed c round) c.votes)) refl e
  where
    go : (first : Option StableVote) → first_in (filter (is_agreed c round) c.votes) ≡ first → option_map (λ v. v.digest) first ≡ Some digest
        → quorum_size c.members ≤ number_for c.votes round digest
    go None is f = absurd cc
    go (Some v) is f =
        let passed = first_passes (is_agreed c round) c.votes v is in
        let enough = leb-true (quorum_size c.members) (number_for c.votes round v.digest)
        (tests.and_right (nat_eq v.round round) (nat_le (quorum_size c.members) (number_for c.votes round v.digest)) passed) in
        subst (λ d. quorum_size c.members ≤ number_for c.votes round d) (same_Some v.digest digest f) enough

agreed_stable : (c : Checkpoints) (round : ℕ) (digest : Hash32) → AreCheckpoints c → quorum_size c.members ≤ number_for c.votes round digest → stable c round ≡ Some digest
agreed_stable c round digest h enough =
    let some = some_first (is_agreed c round) c.votes (omega (
      arith,
      h.some,
      enough,
      sum_by-le-sum_by
          (λ v. cond (is_for round digest v) 1 0) (λ v. cond (is_agreed c round v) 1 0) c.votes each,
    )) in
    let is : stable c round ≡ Some some.0.digest = ap (λ first. option_map (λ v. v.digest) first) some.1 in
    is ∙ ap Some (one_number c round some.0.digest digest h (stable_agreed c round some.0.digest is) enough)
  where
    agrees : (v : StableVote) → is_for round digest v ≡ true → is_agreed c round v ≡ true
    agrees v e =
        let same = is_same_digest v.digest digest (tests.and_right (nat_eq v.round round) (same_digest v.digest digest) e) in
        tests.and_both (nat_eq v.round round) (nat_le (quorum_size c.members) (number_for c.votes round v.digest))
        (tests.and_left (nat_eq v.round round) (same_digest v.digest digest) e)
        (le-leb _ _ (subst (λ d. quorum_size c.members ≤ number_for c.votes round d) (sym same) enough))

    less : (a b : Bool) → (a ≡ true → b ≡ true) → cond a 1 0 ≤ cond b 1 0
    less true b h = (let one : ◌≡◌ {A = ℕ} (cond b 1 0) 1 = ap (λ t. cond t 1 0) (h refl) in omega (arith, one))
    less false b h = omega arith

    each : (v : StableVote) → cond (is_for round digest v) 1 0 ≤ cond (is_agreed c round v) 1 0
    each v = less (is_for round digest v) (is_agreed c round v) (agrees v)

-- a round is stable with a digest exactly where a quorum of the members agrees on it
pub stable_is : (c : Checkpoints) (round : ℕ) (digest : Hash32) → AreCheckpoints c → (stable c round ≡ Some digest) ↔ HasQuorum c round digest
stable_is c round digest h = (
  λ e. quorum_of_number c round digest h (stable_agreed c round digest e),
  λ quorum. agreed_stable c round digest h (number_of_quorum c round digest h quorum),
)

-- the same of an answer that is the digest of the stable round
pub stable_by : (c : Checkpoints) (round : ℕ) (digest : Hash32) (answer : Option Hash32) → AreCheckpoints c → answer ≡ stable c round
    → (answer ≡ Some digest) ↔ HasQuorum c round digest
stable_by c round digest answer h is = subst (λ a. (a ≡ Some digest) ↔ HasQuorum c round digest) (sym is) (stable_is c round digest h)
