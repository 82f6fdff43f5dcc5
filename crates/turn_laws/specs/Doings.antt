-- What was heard and what was put under some seat numbers.
use Rattle.std.specs.Prelude.{ℕ, Bool, true, false, cond, ◌++◌, List, [], ◌∷◌}
use Rattle.turn_lock.specs.Numbers.{has}
use Rattle.run_words.specs.Journal.{Maker, walk, added}
use Rattle.run_words.specs.declared.logs.Entry.{Entry}
use Rattle.run_words.specs.declared.logs.Parcel.{Parcel}
use Rattle.run_words.specs.declared.party.Told.{Told}
use Rattle.turn_laws.specs.Workers.{Kind, kind}

-- ---- what was heard

abbrev pub hearings_by : Kind → Entry → List Entry → List Entry
hearings_by Kind.Hearing e rest = e ∷ rest
hearings_by Kind.Sending e rest = rest
hearings_by Kind.Doing e rest = rest

-- the hearings of a history, in order
abbrev pub hearings : List (ℕ × Entry) → List Entry
hearings [] = []
hearings (x ∷ rest) = hearings_by (kind x.1) x.1 (hearings rest)

-- what is handed on is heard, unless memory is refused
abbrev pub heard_by : Told → Entry → List Entry
heard_by Told.NoMemory e = []
heard_by told e = e ∷ []

-- memory was refused
abbrev pub is_refused : Told → Bool
is_refused Told.NoMemory = true
is_refused told = false

-- ---- what was put under these numbers, where each entry puts what it does after all that stands before it, whoever made that

abbrev pub put_from : Maker → List Bool → List Entry → List (ℕ × Entry) → List Parcel
put_from m ns earlier [] = []
put_from m ns earlier (x ∷ rest) = cond (has ns x.0) (added m (walk m earlier) x.1) [] ++ put_from m ns (earlier ++ x.1 ∷ []) rest

abbrev pub put_of : Maker → List Bool → List (ℕ × Entry) → List Parcel
put_of m ns log = put_from m ns [] log
