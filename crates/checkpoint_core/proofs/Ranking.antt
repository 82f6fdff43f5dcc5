-- The Checkpoints that say the same of a round, by the index of their signers: the proof of a stable round.
use Rattle.std.proofs.Common.{◌≡◌, ℕ, zero, suc, ◌+◌, ◌≤◌, ◌<◌, Bool, true, false, ◌&&◌, cond, nat_eq, List, [], ◌∷◌, ◌++◌, length, map, take, Option, Some, None, refl, sym, ap, subst, ◌∙◌, arith}
use Rattle.std.specs.List.{filter, flat_map, range_with_len, All, Contains}
use Rattle.std.specs.Option.{option_map, option_to_list}
use Rattle.std.proofs.lemmas.Bool.{eqb-true}
use Rattle.std.proofs.lemmas.Option.{same_Some}
use Rattle.std.proofs.lemmas.List.{append-nil, map-id, map-append, length-append, length-take, length-take-le, take-map, take_all, take-append-le}
use Rattle.std.proofs.lemmas.List.Concat.{flat_map-append}
use Rattle.std.proofs.lemmas.List.Elements.{All-nil, All-append, All-take, All-filter, All-weaker, All-contains_itself, filter_passes}
use Rattle.std.proofs.lemmas.List.FromFn.{map-range_with_len_more}
use Rattle.fab_base.specs.Digests.{same_digest}
use Rattle.fab_base.specs.Quorums.{quorum_size, IsRisingFrom, one_if, count_members}
use Rattle.fab_base.specs.declared.ids.Hash32.{Hash32}
use Rattle.fab_base.specs.declared.messages.StableVote.{StableVote}
use Rattle.fab_base.proofs.Digests.{is_same_digest}
use Rattle.fab_base.proofs.Tests as tests
use Rattle.checkpoint_core.specs.Checkpoints.{Checkpoints, AreCheckpoints, AreFirst, is_by, first_in, vote_of, is_for, stable, by_index, first_for, proof_of}
use Rattle.checkpoint_core.proofs.Firsts.{first_passes, vote_of-cons, none_by}
use Rattle.checkpoint_core.proofs.Counting.{has_digest, says, members_count, stable_agreed}

-- ---- of one member

abbrev pub is_at : ℕ → StableVote → Bool
is_at index v = nat_eq v.signer.index index

-- the vote, if there is one with this digest
abbrev pub agreeing : Hash32 → Option StableVote → List StableVote
agreeing digest vote = filter (λ v. same_digest v.digest digest) (option_to_list vote)

filter-cond : (p : StableVote → Bool) (t : Bool) (v : StableVote) (votes : List StableVote)
    → filter p (cond t (v ∷ votes) votes) ≡ cond t (cond (p v) (v ∷ filter p votes) (filter p votes)) (filter p votes)
filter-cond p true v votes = refl
filter-cond p false v votes = refl

-- one vote more in front, by whether it is of the member, of the round and with the digest
in_front : (i a b : Bool) (v : StableVote) (digest : Hash32) (votes : List StableVote) (later : Option StableVote)
    → same_digest v.digest digest ≡ b → (i ≡ true → a ≡ true → later ≡ None) → votes ≡ agreeing digest later
    → cond (a && b) (cond i (v ∷ votes) votes) votes ≡ agreeing digest (cond (i && a) (Some v) later)
in_front true true true v digest votes later is none rest =
    ap (λ vs. v ∷ vs) (rest ∙ ap (agreeing digest) (none refl refl)) ∙ sym (ap (λ t. cond t (v ∷ []) []) is)
in_front true true false v digest votes later is none rest =
    rest ∙ (ap (agreeing digest) (none refl refl) ∙ sym (ap (λ t. cond t (v ∷ []) []) is))
in_front true false b v digest votes later is none rest = rest
in_front false true true v digest votes later is none rest = rest
in_front false true false v digest votes later is none rest = rest
in_front false false b v digest votes later is none rest = rest

-- of those that say this of the round at most one is of a member: the one that counts, if it says so
pub one_at : (votes : List StableVote) (round : ℕ) (digest : Hash32) (index : ℕ) → AreFirst votes
    → filter (is_at index) (filter (is_for round digest) votes) ≡ agreeing digest (vote_of votes index round)
one_at [] round digest index first = refl
one_at (v ∷ votes) round digest index first =
    filter-cond (is_at index) (is_for round digest v) v (filter (is_for round digest) votes)
    ∙ in_front (nat_eq v.signer.index index) (nat_eq v.round round) (same_digest v.digest digest) v digest
    (filter (is_at index) (filter (is_for round digest) votes)) (vote_of votes index round) refl none (one_at votes round digest index first.1)
    ∙ sym (ap (agreeing digest) (vote_of-cons v votes index round))
  where
    none : nat_eq v.signer.index index ≡ true → nat_eq v.round round ≡ true → vote_of votes index round ≡ None
    none i a =
        let here : All (λ x. is_by index round x ≡ false) votes =
        subst (λ k. All (λ x. is_by k round x ≡ false) votes) (eqb-true v.signer.index index i)
        (subst (λ r. All (λ x. is_by v.signer.index r x ≡ false) votes) (eqb-true v.round round a) first.0) in
        ap first_in (none_by votes index round here)

-- ---- by index

range_more : (n : ℕ) → range_with_len 0 (n + 1) ≡ range_with_len 0 n ++ n ∷ []
range_more n =
    sym (map-id (range_with_len 0 (n + 1))) ∙ (map-range_with_len_more (λ k. k) 0 n n (omega arith) ∙ ap (λ ks. ks ++ n ∷ []) (map-id (range_with_len 0 n)))

-- with one member more
pub by_index_more : (n : ℕ) (votes : List StableVote) → by_index (n + 1) votes ≡ by_index n votes ++ filter (is_at n) votes
by_index_more n votes =
    let at : ℕ → List StableVote = λ k. filter (is_at k) votes in
    ap (flat_map at) (range_more n) ∙ (flat_map-append at (range_with_len 0 n) (n ∷ []) ∙ ap (λ vs. by_index n votes ++ vs) (append-nil (filter (is_at n) votes)))

-- of those that say this of the round: the one of the next member behind the ones before it
pub agreeing_more : (votes : List StableVote) (round : ℕ) (digest : Hash32) (n : ℕ) → AreFirst votes
    → by_index (n + 1) (filter (is_for round digest) votes) ≡ by_index n (filter (is_for round digest) votes) ++ agreeing digest (vote_of votes n round)
agreeing_more votes round digest n first =
    by_index_more n (filter (is_for round digest) votes) ∙ ap (λ vs. by_index n (filter (is_for round digest) votes) ++ vs) (one_at votes round digest n first)

next_is : (n : ℕ) → suc n ≡ n + 1
next_is n = omega arith

length-agreeing : (votes : List StableVote) (round : ℕ) (digest : Hash32) (index : ℕ) → length (agreeing digest (vote_of votes index round)) ≡ one_if (says votes round digest index)
length-agreeing votes round digest index = go (vote_of votes index round)
  where
    by : (v : StableVote) (t : Bool) → length (cond t (v ∷ []) []) ≡ one_if t
    by v true = omega arith
    by v false = omega arith

    go : (vote : Option StableVote) → length (agreeing digest vote) ≡ one_if (has_digest digest vote)
    go None = omega arith
    go (Some v) = by v (same_digest v.digest digest)

pub length-by_index : (n : ℕ) (votes : List StableVote) (round : ℕ) (digest : Hash32) → AreFirst votes
    → length (by_index n (filter (is_for round digest) votes)) ≡ count_members n (says votes round digest)
length-by_index zero votes round digest first = refl
length-by_index (suc n) votes round digest first =
    let said : List StableVote = filter (is_for round digest) votes in
    let more : length (by_index (suc n) said) ≡ length (by_index n said ++ agreeing digest (vote_of votes n round)) =
    ap (λ m. length (by_index m said)) (next_is n) ∙ ap length (agreeing_more votes round digest n first) in
    omega (arith, more, length-append (by_index n said) (agreeing digest (vote_of votes n round)), length-agreeing votes round digest n, length-by_index n votes round digest first)

-- ---- the first so many

at_most_one : (digest : Hash32) (vote : Option StableVote) → length (agreeing digest vote) ≤ 1
at_most_one digest None = omega arith
at_most_one digest (Some v) = go (same_digest v.digest digest)
  where
    go : (t : Bool) → length (cond t (v ∷ []) []) ≤ 1
    go true = omega arith
    go false = omega arith

take_short : (count : ℕ) (front more : List StableVote) → length (take count front) < count → length more ≤ 1 → take count (front ++ more) ≡ take count front ++ more
take_short zero front more l s = absurd (omega (arith, l))
take_short (suc count) [] more l s = take_all (suc count) more (omega (arith, s))
take_short (suc count) (v ∷ front) more l s = ap (λ vs. v ∷ vs) (take_short count front more (omega (arith, l)) s)

-- a step over the members, while there are fewer: the one of the next member, if it says so, is put behind
pub step_more : (count n : ℕ) (votes : List StableVote) (round : ℕ) (digest : Hash32) (front piece now : List StableVote) → AreFirst votes
    → front ≡ take count (by_index n (filter (is_for round digest) votes)) → length front < count → piece ≡ agreeing digest (vote_of votes n round) → now ≡ front ++ piece
    → now ≡ take count (by_index (n + 1) (filter (is_for round digest) votes))
step_more count n votes round digest front piece now first so_far few said is =
    let before : List StableVote = by_index n (filter (is_for round digest) votes) in
    let next : List StableVote = agreeing digest (vote_of votes n round) in
    let short = take_short count before next (subst (λ vs. length vs < count) so_far few) (at_most_one digest (vote_of votes n round)) in
    is ∙ (ap (λ vs. vs ++ piece) so_far ∙ (ap (λ vs. take count before ++ vs) said ∙ (sym short ∙ ap (take count) (sym (agreeing_more votes round digest n first)))))

-- and once they are as many, nothing
pub step_full : (count n : ℕ) (votes : List StableVote) (round : ℕ) (digest : Hash32) (front now : List StableVote)
    → front ≡ take count (by_index n (filter (is_for round digest) votes)) → count ≤ length front → now ≡ front
    → now ≡ take count (by_index (n + 1) (filter (is_for round digest) votes))
step_full count n votes round digest front now so_far full is =
    let said : List StableVote = filter (is_for round digest) votes in
    let enough : count ≤ length (by_index n said) = omega (arith, full, ap length so_far, length-take count (by_index n said)) in
    is ∙ (so_far ∙ (sym (take-append-le count (by_index n said) (filter (is_at n) said) enough) ∙ ap (take count) (sym (by_index_more n said))))

-- ---- rising

rising_push : (least n : ℕ) (xs : List ℕ) → least ≤ n → IsRisingFrom least n xs → IsRisingFrom least (n + 1) (xs ++ n ∷ [])
rising_push least n [] l r = (l, omega arith, tt)
rising_push least n (x ∷ xs) l r = (r.0, omega (arith, r.1), rising_push (x + 1) n xs (omega (arith, r.1)) r.2)

rising_within : (least n : ℕ) (xs : List ℕ) → IsRisingFrom least n xs → IsRisingFrom least (n + 1) xs
rising_within least n [] r = tt
rising_within least n (x ∷ xs) r = (r.0, omega (arith, r.1), rising_within (x + 1) n xs r.2)

rising_take : (least n count : ℕ) (xs : List ℕ) → IsRisingFrom least n xs → IsRisingFrom least n (take count xs)
rising_take least n zero xs r = tt
rising_take least n (suc count) [] r = tt
rising_take least n (suc count) (x ∷ xs) r = (r.0, r.1, rising_take (x + 1) n count xs r.2)

abbrev indexes : List StableVote → List ℕ
indexes votes = map (λ v. v.signer.index) votes

-- with the one of the next member behind
rising_agreeing : (n : ℕ) (digest : Hash32) (front : List StableVote) (vote : Option StableVote) → IsRisingFrom 0 n (indexes front)
    → ((v : StableVote) → vote ≡ Some v → v.signer.index ≡ n) → IsRisingFrom 0 (n + 1) (indexes (front ++ agreeing digest vote))
rising_agreeing n digest front None r own = subst (λ vs. IsRisingFrom 0 (n + 1) (indexes vs)) (sym (append-nil front)) (rising_within 0 n (indexes front) r)
rising_agreeing n digest front (Some v) r own = go (same_digest v.digest digest)
  where
    go : (t : Bool) → IsRisingFrom 0 (n + 1) (indexes (front ++ cond t (v ∷ []) []))
    go true =
        let is : indexes (front ++ v ∷ []) ≡ indexes front ++ n ∷ [] =
        map-append (λ x. x.signer.index) front (v ∷ []) ∙ ap (λ k. indexes front ++ k ∷ []) (own v refl) in
        subst (λ ks. IsRisingFrom 0 (n + 1) ks) (sym is) (rising_push 0 n (indexes front) (omega arith) r)
    go false = subst (λ vs. IsRisingFrom 0 (n + 1) (indexes vs)) (sym (append-nil front)) (rising_within 0 n (indexes front) r)

rising-by_index : (n : ℕ) (votes : List StableVote) (round : ℕ) (digest : Hash32) → AreFirst votes
    → IsRisingFrom 0 n (indexes (by_index n (filter (is_for round digest) votes)))
rising-by_index zero votes round digest first = tt
rising-by_index (suc n) votes round digest first =
    let said : List StableVote = filter (is_for round digest) votes in
    let own = λ (v : StableVote) (e : vote_of votes n round ≡ Some v).
    eqb-true v.signer.index n (tests.and_left (nat_eq v.signer.index n) (nat_eq v.round round) (first_passes (is_by n round) votes v e)) in
    let more = rising_agreeing n digest (by_index n said) (vote_of votes n round) (rising-by_index n votes round digest first) own in
    subst (λ m. IsRisingFrom 0 m (indexes (by_index m said))) (sym (next_is n))
    (subst (λ vs. IsRisingFrom 0 (n + 1) (indexes vs)) (sym (agreeing_more votes round digest n first)) more)

-- ---- what holds of all

all_at : (P : StableVote → Type 0) (votes : List StableVote) (members : List ℕ) → All P votes → All P (flat_map (λ index. filter (λ v. nat_eq v.signer.index index) votes) members)
all_at P votes [] h = All-nil P
all_at P votes (index ∷ members) h =
    All-append P (filter (is_at index) votes) (flat_map (λ k. filter (is_at k) votes) members) (All-filter (is_at index) P votes h) (all_at P votes members h)

-- what holds of all that count and say this of the round, holds of the first of them
first_for_all : (P : StableVote → Type 0) (c : Checkpoints) (round : ℕ) (digest : Hash32) → All P (filter (is_for round digest) c.votes) → All P (first_for c round digest)
first_for_all P c round digest h =
    let said : List StableVote = filter (is_for round digest) c.votes in
    All-take P (quorum_size c.members) (by_index c.members said) (all_at P said (range_with_len 0 c.members) h)

-- ---- the proof of a stable round

-- it is that of the digest with which the round is stable
pub proof_is : (c : Checkpoints) (round : ℕ) (votes : List StableVote) → proof_of c round ≡ Some votes
    → (digest : Hash32) × (stable c round ≡ Some digest) × (first_for c round digest ≡ votes)
proof_is c round votes e = go (stable c round) refl e
  where
    go : (digest : Option Hash32) → stable c round ≡ digest → option_map (first_for c round) digest ≡ Some votes
        → (d : Hash32) × (stable c round ≡ Some d) × (first_for c round d ≡ votes)
    go None is f = absurd cc
    go (Some d) is f = (d, is, same_Some (first_for c round d) votes f)

-- as many as make a quorum
pub proof_full : (c : Checkpoints) (round : ℕ) (votes : List StableVote) → AreCheckpoints c → proof_of c round ≡ Some votes → length votes ≡ quorum_size c.members
proof_full c round votes h e =
    let is = proof_is c round votes e in
    let said : List StableVote = filter (is_for round is.0) c.votes in
    let long = length-by_index c.members c.votes round is.0 h.first in
    let enough : quorum_size c.members ≤ length (by_index c.members said) = omega (arith, long, members_count c round is.0 h, stable_agreed c round is.0 is.1) in
    ap length (sym is.2) ∙ length-take-le (quorum_size c.members) (by_index c.members said) enough

-- of members whose indexes rise
pub proof_rises : (c : Checkpoints) (round : ℕ) (votes : List StableVote) → AreCheckpoints c → proof_of c round ≡ Some votes
    → IsRisingFrom 0 c.members (map (λ v. v.signer.index) votes)
proof_rises c round votes h e =
    let is = proof_is c round votes e in
    let said : List StableVote = by_index c.members (filter (is_for round is.0) c.votes) in
    let rising = rising_take 0 c.members (quorum_size c.members) (indexes said) (rising-by_index c.members c.votes round is.0 h.first) in
    subst (λ vs. IsRisingFrom 0 c.members (map (λ v. v.signer.index) vs)) is.2
    (subst (λ ks. IsRisingFrom 0 c.members ks) (take-map (λ v. v.signer.index) (quorum_size c.members) said) rising)

-- what holds of all that count, holds of all in the proof
pub proof_all : (P : StableVote → Type 0) (c : Checkpoints) (round : ℕ) (votes : List StableVote) → proof_of c round ≡ Some votes → All P c.votes → All P votes
proof_all P c round votes e h =
    let is = proof_is c round votes e in
    subst (λ vs. All P vs) is.2 (first_for_all P c round is.0 (All-filter (is_for round is.0) P c.votes h))

-- they say the digest with which the round is stable
pub proof_agrees : (c : Checkpoints) (round : ℕ) (votes : List StableVote) → proof_of c round ≡ Some votes
    → All (λ v. (v.round ≡ round) × (stable c round ≡ Some v.digest)) votes
proof_agrees c round votes e =
    let is = proof_is c round votes e in
    let P : StableVote → Type 0 = λ v. (v.round ≡ round) × (stable c round ≡ Some v.digest) in
    let says_so : (v : StableVote) → is_for round is.0 v ≡ true → P v = λ v t. (
      eqb-true v.round round (tests.and_left (nat_eq v.round round) (same_digest v.digest is.0) t),
      is.1 ∙ ap Some (sym (is_same_digest v.digest is.0 (tests.and_right (nat_eq v.round round) (same_digest v.digest is.0) t))),
    ) in
    subst (λ vs. All P vs) is.2 (first_for_all P c round is.0
    (All-weaker (λ v. is_for round is.0 v ≡ true) P says_so (filter (is_for round is.0) c.votes) (filter_passes (is_for round is.0) c.votes)))

-- each of them counts
pub proof_counts : (c : Checkpoints) (round : ℕ) (votes : List StableVote) → proof_of c round ≡ Some votes → All (λ v. Contains c.votes v) votes
proof_counts c round votes e = proof_all (Contains c.votes) c round votes e (All-contains_itself c.votes)
