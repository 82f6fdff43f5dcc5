-- What a batch may write: the room that is made for it, and the keys that are held for it (ours).
use Rattle.std.specs.Prelude.{◌≡◌, ℕ, true, List, [], ◌∷◌, ◌++◌, Option, Some, None, map, if◌then◌else◌}
use Rattle.std.specs.Map.{keys_of}
use Rattle.fab_base.specs.declared.requests.Op.{Op}
use Rattle.fab_base.specs.declared.requests.Op.TheVariants.{Put, Get, Cut, Swap}
use Rattle.fab_base.specs.declared.requests.Request.{Request}
use Rattle.seq_table.specs.Holding.{Held, is_held}

-- the value that an operation may write
abbrev pub value_written : Op → Option (List ℕ)
value_written (Put key value) = Some value
value_written (Get key) = None
value_written (Cut key) = None
value_written (Swap key expected fresh) = Some fresh

-- the values that the requests may write, in their order
abbrev pub values_written : List Request → List (Option (List ℕ))
values_written batch = map (λ r. value_written r.op) batch

-- the key that an operation may write is among these
abbrev pub HoldsFor : List (List ℕ) → Op → Type 0
HoldsFor keys (Put key value) = is_held keys key ≡ true
HoldsFor keys (Get key) = Unit {0}
HoldsFor keys (Cut key) = Unit {0}
HoldsFor keys (Swap key expected fresh) = is_held keys key ≡ true

-- the pairs, with this key at the end, with no value, unless it is held
abbrev pub with_room : Held → List ℕ → Held
with_room held key = if is_held (keys_of held) key then held else held ++ (key, None) ∷ []

-- the pairs, with the key that an operation may write
abbrev pub held_for : Held → Op → Held
held_for held (Put key value) = with_room held key
held_for held (Get key) = held
held_for held (Cut key) = held
held_for held (Swap key expected fresh) = with_room held key

-- the pairs, with the keys that the requests may write
abbrev pub held_for_all : Held → List Request → Held
held_for_all held [] = held
held_for_all held (request ∷ rest) = held_for_all (held_for held request.op) rest
