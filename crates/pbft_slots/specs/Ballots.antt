-- The votes of one kind for one slot in one view (PBFT's prepares or commits): a place for each sender, by
-- index, with the first vote that this sender gave.
use Rattle.std.specs.Prelude.{◌≡◌, ℕ, List, [], ◌∷◌, length, take, filter, All, Option, Some, None, Bool, false, if◌then◌else◌}
use Rattle.std.specs.List.{flat_map, range_with_len}
use Rattle.std.specs.Option.{option_map}
use Rattle.fab_base.specs.Digests.{same_digest}
use Rattle.fab_base.specs.Quorums.{IsQuorum}
use Rattle.fab_base.specs.declared.ids.Hash32.{Hash32}
use Rattle.fab_base.specs.declared.answers.Take.{Take}
use Rattle.fab_base.specs.declared.answers.Take.TheVariants.{Taken, Twice, Conflict}
use Rattle.vote_certs.specs.Counting.{value_of}

-- a counted vote: the digest that it was for, and what was kept of it
pub record Counted (K : Type 0) : Type 0 where
  pub digest : Hash32
  pub kept : K

-- whether a vote is there and is for this digest
abbrev pub is_for : {K : Type 0} → Hash32 → Option (Counted K) → Bool
is_for digest None = false
is_for digest (Some vote) = same_digest vote.digest digest

-- the senders whose counted vote is for this digest, rising
unfoldable pub senders_for : {K : Type 0} → List (Option (Counted K)) → Hash32 → List ℕ
senders_for votes digest = filter (λ sender. is_for digest (value_of votes sender)) (range_with_len 0 (length votes))

-- what a vote for a digest is answered, by the counted vote of its sender
abbrev pub vote_answer : {K : Type 0} → Option (Counted K) → Hash32 → Take
vote_answer None digest = Taken
vote_answer (Some first) digest = if same_digest first.digest digest then Twice else Conflict first.digest

-- the digest that a sender's counted vote is for
abbrev pub digest_of : {K : Type 0} → List (Option (Counted K)) → ℕ → Option Hash32
digest_of votes sender = option_map (λ vote. vote.digest) (value_of votes sender)

-- a quorum of the n members voted for this digest
abbrev pub HasQuorum : {K : Type 0} → ℕ → List (Option (Counted K)) → Hash32 → Type 0
HasQuorum n votes digest = (members : List ℕ) × IsQuorum n members × All (λ sender. digest_of votes sender ≡ Some digest) members

-- what was kept of a counted vote, if it is there
abbrev pub kept_of : {K : Type 0} → Option (Counted K) → List K
kept_of None = []
kept_of (Some vote) = vote.kept ∷ []

-- what was kept of the votes of these senders
abbrev pub kept_from : {K : Type 0} → List (Option (Counted K)) → List ℕ → List K
kept_from votes senders = flat_map (λ sender. kept_of (value_of votes sender)) senders

-- what was kept of the votes of the first senders of this digest
abbrev pub first_votes : {K : Type 0} → ℕ → List (Option (Counted K)) → Hash32 → List K
first_votes need votes digest = kept_from votes (take need (senders_for votes digest))
