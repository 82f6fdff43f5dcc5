-- The Checkpoints that the members of a cluster said (PBFT, section 4.3): of each member the first one for a round counts. A round is
-- stable where a quorum of the members agree on it, and what lies behind a stable round may be let go.
use Rattle.std.specs.Prelude.{◌≡◌, ◌<◌, ◌≤◌, ℕ, ◌++◌, List, [], ◌∷◌, max, take, filter, count_by, All, nat_eq, nat_le, nat_lt, Bool, false, ◌&&◌, Option, Some, None, if◌then◌else◌}
use Rattle.std.specs.List.{flat_map, range_with_len}
use Rattle.std.specs.Option.{option_map}
use Rattle.fab_base.specs.Digests.{same_digest}
use Rattle.fab_base.specs.Quorums.{quorum_size, IsQuorum}
use Rattle.fab_base.specs.declared.limits.TheConstants.{MOST_MEMBERS}
use Rattle.fab_base.specs.declared.ids.Hash32.{Hash32}
use Rattle.fab_base.specs.declared.messages.StableVote.{StableVote}
use Rattle.fab_base.specs.declared.answers.Take.{Take}
use Rattle.fab_base.specs.declared.answers.Take.TheVariants.{Taken, Old, Twice, Conflict}

pub record Checkpoints : Type 0 where
  -- the rounds up to the low mark are over: nothing is kept of them
  pub low : ℕ
  -- how many members the cluster has
  pub members : ℕ
  -- the Checkpoints that count, in the order in which they came
  pub votes : List StableVote

-- of n members, at low mark 0, and nothing was heard
abbrev pub no_checkpoints : ℕ → Checkpoints
no_checkpoints n = record { low = 0; members = n; votes = [] }

-- ---- of one member

abbrev pub is_by : ℕ → ℕ → StableVote → Bool
is_by sender round v = nat_eq v.signer.index sender && nat_eq v.round round

abbrev pub first_in : List StableVote → Option StableVote
first_in [] = None
first_in (v ∷ rest) = Some v

-- the one of a member for a round that counts
abbrev pub vote_of : List StableVote → ℕ → ℕ → Option StableVote
vote_of votes sender round = first_in (filter (is_by sender round) votes)

-- no two are of one member for one round
abbrev pub AreFirst : List StableVote → Type 0
AreFirst [] = Unit {0}
AreFirst (v ∷ rest) = All (λ x. is_by v.signer.index v.round x ≡ false) rest × AreFirst rest

-- what counts is of a member, for a round above the low mark
pub record IsOpen (c : Checkpoints) (v : StableVote) : Type 0 where
  pub member : v.signer.index < c.members
  pub above : c.low < v.round

pub record AreCheckpoints (c : Checkpoints) : Type 0 where
  pub some : 1 ≤ c.members
  pub few : c.members ≤ MOST_MEMBERS
  pub counted : All (IsOpen c) c.votes
  pub first : AreFirst c.votes

-- ---- hearing one

-- by the one of its signer for its round that counts
abbrev pub answer_by : Option StableVote → Hash32 → Take
answer_by None digest = Taken
answer_by (Some first) digest = if same_digest first.digest digest then Twice else Conflict first.digest

abbrev pub vote_answer : Checkpoints → StableVote → Take
vote_answer c v = if nat_le v.round c.low then Old c.low else answer_by (vote_of c.votes v.signer.index v.round) v.digest

abbrev pub votes_by : Take → List StableVote → StableVote → List StableVote
votes_by Taken votes v = votes ++ v ∷ []
votes_by how votes v = votes

abbrev pub after_vote : Checkpoints → StableVote → Checkpoints
after_vote c v = record c { votes = votes_by (vote_answer c v) c.votes v }

-- ---- stable rounds

abbrev pub is_for : ℕ → Hash32 → StableVote → Bool
is_for round digest v = nat_eq v.round round && same_digest v.digest digest

-- how many say this of the round. No two of them are of one member
abbrev pub number_for : List StableVote → ℕ → Hash32 → ℕ
number_for votes round digest = count_by (is_for round digest) votes

-- the Checkpoint is for the round, and a quorum says the same
abbrev pub is_agreed : Checkpoints → ℕ → StableVote → Bool
is_agreed c round v = nat_eq v.round round && nat_le (quorum_size c.members) (number_for c.votes round v.digest)

-- the digest that a quorum agrees on for the round
abbrev pub stable : Checkpoints → ℕ → Option Hash32
stable c round = option_map (λ v. v.digest) (first_in (filter (is_agreed c round) c.votes))

-- a quorum of the members, each of whom counts with this digest for the round
abbrev pub HasQuorum : Checkpoints → ℕ → Hash32 → Type 0
HasQuorum c round digest =
    (members : List ℕ) × IsQuorum c.members members × All (λ sender. option_map (λ v. v.digest) (vote_of c.votes sender round) ≡ Some digest) members

-- ---- the proof of a stable round

-- by rising index of their signers
abbrev pub by_index : ℕ → List StableVote → List StableVote
by_index members votes = flat_map (λ index. filter (λ v. nat_eq v.signer.index index) votes) (range_with_len 0 members)

-- the first of those that say this of the round, by index, as many as make a quorum
abbrev pub first_for : Checkpoints → ℕ → Hash32 → List StableVote
first_for c round digest = take (quorum_size c.members) (by_index c.members (filter (is_for round digest) c.votes))

-- none, where the round isn't stable
abbrev pub proof_of : Checkpoints → ℕ → Option (List StableVote)
proof_of c round = option_map (first_for c round) (stable c round)

-- ---- letting go

-- the low mark moves up to the round, and what counts for rounds up to it is let go
abbrev pub pruned : Checkpoints → ℕ → Checkpoints
pruned c round =
    let low = max c.low round in
    record c { low = low; votes = filter (λ v. nat_lt low v.round) c.votes }
