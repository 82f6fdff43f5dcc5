-- The slots that are open in one view: those above the low mark, as many as the window has.
use Rattle.std.specs.Prelude.{◌≡◌, ◌≤◌, ℕ, ◌+◌, ◌-◌, List, [], ◌++◌, length, drop, min, replicate, nat_le, nat_lt, slice_get, slice_set, All, Option, Some, None, Result, Ok, Err, if◌then◌else◌}
use Rattle.std.specs.Option.{option_map, option_and_then}
use Rattle.fab_base.specs.declared.limits.TheConstants.{MOST_MEMBERS}
use Rattle.fab_base.specs.declared.ids.Hash32.{Hash32}
use Rattle.fab_base.specs.declared.requests.Request.{Request}
use Rattle.fab_base.specs.declared.answers.Take.{Take}
use Rattle.fab_base.specs.declared.answers.Take.TheVariants.{Old, Far}
use Rattle.vote_certs.specs.Counting.{value_of}
use Rattle.pbft_slots.specs.Ballots.{Counted, vote_answer}
use Rattle.pbft_slots.specs.Slots.{empty_slot, proposal_answer, with_proposal, with_prepare, with_commit, agreed_digest, IsAgreed}
use Rattle.pbft_slots.specs.declared.slot.Proposal.{Proposal}
use Rattle.pbft_slots.specs.declared.slot.Slot.{Slot}

-- the low mark, how many members the cluster has, and the slots low + 1, low + 2 and so on
pub record Window (K : Type 0) : Type 0 where
  pub low : ℕ
  pub members : ℕ
  pub slots : List (Slot K)

-- each slot has a place for each member
pub record IsWindow {K : Type 0} (window : Window K) : Type 0 where
  pub some : 1 ≤ window.members
  pub few : window.members ≤ MOST_MEMBERS
  pub wide : 1 ≤ length window.slots
  pub prepares : All (λ slot. length slot.prepares ≡ window.members) window.slots
  pub commits : All (λ slot. length slot.commits ≡ window.members) window.slots

-- n members, at low mark 0, and nothing was heard
abbrev pub empty_window : {K : Type 0} → ℕ → ℕ → Window K
empty_window n size = record { low = 0; members = n; slots = replicate size (empty_slot n) }

-- the last open slot
abbrev pub high : {K : Type 0} → Window K → ℕ
high window = window.low + length window.slots

-- the place of a slot among the open ones; a slot below them is old, one above them far
abbrev pub place_in : {K : Type 0} → Window K → ℕ → Result ℕ Take
place_in window slot =
    if nat_le slot window.low then Err (Old window.low) else
    if nat_lt (high window) slot then Err (Far (high window)) else
    Ok (slot - window.low - 1)

abbrev pub slot_by : {K : Type 0} → List (Slot K) → Result ℕ Take → Option (Slot K)
slot_by slots (Err refused) = None
slot_by slots (Ok place) = slice_get slots place

-- an open slot
abbrev pub slot_at : {K : Type 0} → Window K → ℕ → Option (Slot K)
slot_at window slot = slot_by window.slots (place_in window slot)

abbrev pub proposal_at : {K : Type 0} → Window K → ℕ → Option Proposal
proposal_at window slot = option_and_then (λ s. s.proposal) (slot_at window slot)

-- the counted prepare, or commit, of a sender for a slot
abbrev pub prepare_at : {K : Type 0} → Window K → ℕ → ℕ → Option (Counted K)
prepare_at window slot sender = option_and_then (λ s. value_of s.prepares sender) (slot_at window slot)

abbrev pub commit_at : {K : Type 0} → Window K → ℕ → ℕ → Option (Counted K)
commit_at window slot sender = option_and_then (λ s. value_of s.commits sender) (slot_at window slot)

abbrev pub batch_at : {K : Type 0} → Window K → ℕ → Option (List Request)
batch_at window slot = option_map (λ proposal. proposal.batch) (proposal_at window slot)

-- the answer in an open slot, or that it isn't open
abbrev pub answer_by : Result ℕ Take → Take → Take
answer_by (Err refused) answer = refused
answer_by (Ok place) answer = answer

abbrev pub pre_prepare_answer : {K : Type 0} → Window K → ℕ → Hash32 → Take
pre_prepare_answer window slot digest = answer_by (place_in window slot) (proposal_answer (proposal_at window slot) digest)

abbrev pub prepare_answer : {K : Type 0} → Window K → ℕ → ℕ → Hash32 → Take
prepare_answer window sender slot digest = answer_by (place_in window slot) (vote_answer (prepare_at window slot sender) digest)

abbrev pub commit_answer : {K : Type 0} → Window K → ℕ → ℕ → Hash32 → Take
commit_answer window sender slot digest = answer_by (place_in window slot) (vote_answer (commit_at window slot sender) digest)

-- the slots after a change of one of them
abbrev pub change_slot : {K : Type 0} → (Slot K → Slot K) → List (Slot K) → ℕ → Option (Slot K) → List (Slot K)
change_slot change slots place None = slots
change_slot change slots place (Some slot) = slice_set slots place (change slot)

abbrev pub change_by : {K : Type 0} → (Slot K → Slot K) → List (Slot K) → Result ℕ Take → List (Slot K)
change_by change slots (Err refused) = slots
change_by change slots (Ok place) = change_slot change slots place (slice_get slots place)

abbrev pub change_at : {K : Type 0} → (Slot K → Slot K) → Window K → ℕ → Window K
change_at change window slot = record window { slots = change_by change window.slots (place_in window slot) }

abbrev pub after_pre_prepare : {K : Type 0} → Window K → ℕ → Proposal → Window K
after_pre_prepare window slot proposal = change_at (λ s. with_proposal s proposal) window slot

abbrev pub after_prepare : {K : Type 0} → Window K → ℕ → ℕ → Counted K → Window K
after_prepare window sender slot vote = change_at (λ s. with_prepare s sender vote) window slot

abbrev pub after_commit : {K : Type 0} → Window K → ℕ → ℕ → Counted K → Window K
after_commit window sender slot vote = change_at (λ s. with_commit s sender vote) window slot

-- the low mark moves up: the slots above it stay, and as many empty ones are opened as were left
abbrev pub moved_to : {K : Type 0} → Window K → ℕ → Window K
moved_to window low = record window {
  low = low;
  slots = drop (low - window.low) window.slots ++ replicate (min (low - window.low) (length window.slots)) (empty_slot window.members);
}

-- the digest of a slot's batch, where a quorum of prepares, or commits, of it is kept
abbrev pub prepared_at : {K : Type 0} → Window K → ℕ → Option Hash32
prepared_at window slot = option_and_then (λ s. agreed_digest window.members s.proposal s.prepares) (slot_at window slot)

abbrev pub committed_at : {K : Type 0} → Window K → ℕ → Option Hash32
committed_at window slot = option_and_then (λ s. agreed_digest window.members s.proposal s.commits) (slot_at window slot)

-- PBFT's "prepared" and "committed": the slot holds a batch of this digest, and a quorum voted for it
abbrev pub IsPrepared : {K : Type 0} → Window K → ℕ → Hash32 → Type 0
IsPrepared {K} window slot digest = (s : Slot K) × (slot_at window slot ≡ Some s) × IsAgreed window.members s.proposal s.prepares digest

abbrev pub IsCommitted : {K : Type 0} → Window K → ℕ → Hash32 → Type 0
IsCommitted {K} window slot digest = (s : Slot K) × (slot_at window slot ≡ Some s) × IsAgreed window.members s.proposal s.commits digest

-- why a slot isn't open, if it isn't
abbrev pub refusal_by : Result ℕ Take → Option Take
refusal_by (Err refused) = Some refused
refusal_by (Ok place) = None

-- the votes of one kind for a slot, none where it isn't open
abbrev pub votes_in : {K : Type 0} → (Slot K → List (Option (Counted K))) → Option (Slot K) → List (Option (Counted K))
votes_in kind None = []
votes_in kind (Some slot) = kind slot
