-- What a table holds, as lists, and what that means as a state of the sequential table (ours).
use Rattle.std.specs.Prelude.{◌≡◌, ℕ, ◌≤◌, Bool, List, [], ◌∷◌, ◌++◌, Option, Some, length, if◌then◌else◌}
use Rattle.std.specs.List.{list_any}
use Rattle.std.specs.BTreeMap.{is_at}
use Rattle.fab_base.specs.declared.limits.TheConstants.{LONGEST_VALUE}
use Rattle.fab_base.specs.Table.{State, byte_order, value_in, with_value}
use Rattle.fab_base.specs.declared.requests.Op.{Op}
use Rattle.fab_base.specs.declared.requests.Op.TheVariants.{Put, Get, Cut, Swap}
use Rattle.fab_base.specs.declared.requests.Reply.TheVariants.{Wrote}
use Rattle.fab_base.specs.declared.requests.Outcome.{Outcome}
use Rattle.fab_base.specs.declared.requests.Outcome.TheVariants.{Done}

-- keys with a value or none. A key is held from the time on at which it came, and one with none counts as absent
abbrev pub Held : Type 0
Held = List (List ℕ × Option (List ℕ))

pub record Holding : Type 0 where
  -- the keys in the order in which they came
  pub held : Held
  -- for each client the last stamp that took effect, or 0
  pub stamps : List ℕ

-- the entries that held keys stand for: those that have a value, in byte order
abbrev pub entries_of : Held → List (List ℕ × List ℕ)
entries_of [] = []
entries_of (e ∷ rest) = with_value (entries_of rest) e.0 e.1

-- the state that a table stands for
abbrev pub state_of : Holding → State
state_of table = record { entries = entries_of table.held; stamps = table.stamps }

abbrev pub is_held : List (List ℕ) → List ℕ → Bool
is_held keys key = list_any (is_at (byte_order key)) keys

-- the keys, with this one at the end unless it is held
abbrev pub with_key : List (List ℕ) → List ℕ → List (List ℕ)
with_key keys key = if is_held keys key then keys else keys ++ key ∷ []

-- the held keys after a request for this key: what is written is held from then on
abbrev pub keys_after : List (List ℕ) → Outcome → List ℕ → List (List ℕ)
keys_after keys (Done Wrote) key = with_key keys key
keys_after keys outcome key = keys

-- what the operation may write is not longer than a value may be
abbrev pub WritesShort : Op → Type 0
WritesShort (Put key value) = length value ≤ LONGEST_VALUE
WritesShort (Get key) = Unit {0}
WritesShort (Cut key) = Unit {0}
WritesShort (Swap key expected fresh) = length fresh ≤ LONGEST_VALUE

-- no value is longer than a value may be
abbrev pub HoldsShort : Held → Type 0
HoldsShort held = (key value : List ℕ) → value_in (entries_of held) key ≡ Some value → length value ≤ LONGEST_VALUE
