-- Counting votes (PBFT counts equal statements of distinct replicas). A list of votes has a place for
-- each sender, by index, with the first value that this sender gave.
use Rattle.std.specs.Prelude.{ℕ, List, length, filter, slice_index_or, slice_set, Option, Some, None, Bool, false}
use Rattle.std.specs.List.{range_with_len}

-- the counted value of a sender, if it has one
abbrev pub value_of : {V : Type 0} → List (Option V) → ℕ → Option V
value_of votes sender = slice_index_or votes sender None

-- the votes after this value of a sender: only its first one counts
abbrev pub first_kept : {V : Type 0} → List (Option V) → ℕ → V → Option V → List (Option V)
first_kept votes sender value None = slice_set votes sender (Some value)
first_kept votes sender value (Some counted) = votes

abbrev pub with_value : {V : Type 0} → List (Option V) → ℕ → V → List (Option V)
with_value votes sender value = first_kept votes sender value (value_of votes sender)

-- the counted value is there and is this one, by the equality of the values
abbrev pub is_this : {V : Type 0} → (V → V → Bool) → V → Option V → Bool
is_this eq value None = false
is_this eq value (Some counted) = eq counted value

-- the senders below a number whose counted value is this one, rising
unfoldable pub senders_below : {V : Type 0} → (V → V → Bool) → List (Option V) → V → ℕ → List ℕ
senders_below eq votes value n = filter (λ sender. is_this eq value (value_of votes sender)) (range_with_len 0 n)

-- all senders whose counted value is this one, rising
abbrev pub senders_of : {V : Type 0} → (V → V → Bool) → List (Option V) → V → List ℕ
senders_of eq votes value = senders_below eq votes value (length votes)
