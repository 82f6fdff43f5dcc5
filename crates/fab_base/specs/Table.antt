-- The sequential table (ours): what a list of requests means when they are applied one after another.
use Rattle.std.proofs.Common.{zero, suc}
use Rattle.std.specs.Prelude.{ℕ, ◌+◌, Bool, false, List, [], ◌∷◌, Option, Some, None, nat_eq, nat_le, slice_index, replicate, if◌then◌else◌}
use Rattle.std.specs.declared.cmp.Ordering.{Ordering}
use Rattle.std.specs.Ordering.{nat_cmp}
use Rattle.std.specs.Cmp.Lexicographic.{pointwise, slice_cmp}
use Rattle.std.specs.BTreeMap.{insert_entry, is_at}
use Rattle.std.specs.Map.{lookup, remove_entry}
use Rattle.fab_base.specs.declared.requests.Op.{Op}
use Rattle.fab_base.specs.declared.requests.Op.TheVariants.{Put, Get, Cut, Swap}
use Rattle.fab_base.specs.declared.requests.Reply.{Reply}
use Rattle.fab_base.specs.declared.requests.Reply.TheVariants.{Wrote, Found, Absent}
use Rattle.fab_base.specs.declared.requests.Outcome.{Outcome}
use Rattle.fab_base.specs.declared.requests.Outcome.TheVariants.{Done, Again, Early}
use Rattle.fab_base.specs.declared.requests.Request.{Request}

-- what is held: a finite map in the one form that it has, so that equal states are the same
pub record State : Type 0 where
  -- each key that has a value, with the value, in byte order of keys
  pub entries : List (List ℕ × List ℕ)
  -- for each client the last stamp that took effect, or 0
  pub stamps : List ℕ

-- nothing is held, and no request of these many clients took effect
abbrev pub empty_state : ℕ → State
empty_state clients = record { entries = []; stamps = replicate clients 0 }

-- the order of keys: by their first byte that differs, a shorter key before a longer one that it begins
abbrev pub byte_order : List ℕ → List ℕ → Ordering
byte_order key other = slice_cmp nat_cmp key other

-- the value that a key has
abbrev pub value_in : List (List ℕ × List ℕ) → List ℕ → Option (List ℕ)
value_in entries key = lookup (is_at (byte_order key)) entries

abbrev pub value_of : State → List ℕ → Option (List ℕ)
value_of state key = value_in state.entries key

-- the last stamp of a client that took effect
abbrev pub last_of : State → ℕ → ℕ
last_of state client = slice_index state.stamps client

-- the stamps, with the client's set to this one
abbrev pub with_stamp : List ℕ → ℕ → ℕ → List ℕ
with_stamp [] zero stamp = stamp ∷ []
with_stamp [] (suc client) stamp = 0 ∷ with_stamp [] client stamp
with_stamp (s ∷ rest) zero stamp = stamp ∷ rest
with_stamp (s ∷ rest) (suc client) stamp = s ∷ with_stamp rest client stamp

-- the key that an operation speaks of
abbrev pub key_of : Op → List ℕ
key_of (Put key value) = key
key_of (Get key) = key
key_of (Cut key) = key
key_of (Swap key expected fresh) = key

abbrev pub found : Option (List ℕ) → Reply
found None = Absent
found (Some value) = Found value

-- whether this is the value
abbrev pub is_value : Option (List ℕ) → List ℕ → Bool
is_value None value = false
is_value (Some held) value = pointwise nat_eq held value

-- what an operation answers at a key with this value
abbrev pub reply_at : Option (List ℕ) → Op → Reply
reply_at held (Put key value) = Wrote
reply_at held (Get key) = found held
reply_at held (Cut key) = found held
reply_at held (Swap key expected fresh) = if is_value held expected then Wrote else found held

-- what an operation leaves at a key with this value
abbrev pub value_after : Option (List ℕ) → Op → Option (List ℕ)
value_after held (Put key value) = Some value
value_after held (Get key) = held
value_after held (Cut key) = None
value_after held (Swap key expected fresh) = if is_value held expected then Some fresh else held

-- the entries, with this value at the key or none
abbrev pub with_value : List (List ℕ × List ℕ) → List ℕ → Option (List ℕ) → List (List ℕ × List ℕ)
with_value entries key None = remove_entry (is_at (byte_order key)) entries
with_value entries key (Some value) = insert_entry byte_order entries key value

-- the state after an operation took effect: no other key changes
abbrev pub entries_after : List (List ℕ × List ℕ) → Op → List (List ℕ × List ℕ)
entries_after entries op = with_value entries (key_of op) (value_after (value_in entries (key_of op)) op)

-- the rule of stamps: a stamp at most the last one comes again, the next one takes effect, and a later one comes early
abbrev pub by_stamp : {X : Type 0} → ℕ → ℕ → X → X → X → X
by_stamp stamp last again effect early = if nat_le stamp last then again else if nat_eq stamp (last + 1) then effect else early

-- the step: what a request comes to
abbrev pub outcome_of : State → Request → Outcome
outcome_of state request = by_stamp request.stamp (last_of state request.client.number)
    Again
    (Done (reply_at (value_of state (key_of request.op)) request.op))
    Early

-- the step: what a request leaves. Only one that takes effect changes anything
abbrev pub state_after : State → Request → State
state_after state request = by_stamp request.stamp (last_of state request.client.number)
    state
    (record { entries = entries_after state.entries request.op; stamps = with_stamp state.stamps request.client.number request.stamp })
    state

-- a run: what the requests of a list come to, one after another
abbrev pub outcomes_of : State → List Request → List Outcome
outcomes_of state [] = []
outcomes_of state (request ∷ rest) = outcome_of state request ∷ outcomes_of (state_after state request) rest

-- a run: what the requests of a list leave
abbrev pub state_after_all : State → List Request → State
state_after_all state [] = state
state_after_all state (request ∷ rest) = state_after_all (state_after state request) rest
