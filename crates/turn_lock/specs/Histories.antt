-- Histories: the entries of a machine, each with the seat number that it was made under, and what is a beginning of one.
use Rattle.std.specs.Prelude.{◌≡◌, ℕ, ◌≤◌, ◌<◌, nat_lt, cond, Bool, List, [], ◌∷◌, ◌++◌, length, map, Option, Some, None}
use Rattle.std.specs.List.{filter}
use Rattle.turn_lock.specs.Numbers.{has}

-- the one list begins with the other
abbrev pub IsStartOf : {A : Type 0} → List A → List A → Type 0
IsStartOf {A} xs ys = (rest : List A) × (xs ++ rest ≡ ys)

-- a journal with a new entry, or as it was
abbrev pub with_entry : {E : Type 0} → List E → Option E → List E
with_entry log None = log
with_entry log (Some e) = log ++ e ∷ []

-- a history with a new entry of this seat number, or as it was
abbrev pub with_mine : {E : Type 0} → List (ℕ × E) → ℕ → Option E → List (ℕ × E)
with_mine log n None = log
with_mine log n (Some e) = log ++ (n, e) ∷ []

-- a history without the seats: the machine's journal
abbrev pub entries : {E : Type 0} → List (ℕ × E) → List E
entries log = map (λ x. x.1) log

-- the entries of these seat numbers, in order
abbrev pub of_numbers : {E : Type 0} → List Bool → List (ℕ × E) → List (ℕ × E)
of_numbers ns log = filter (λ x. has ns x.0) log

-- Each entry is one that the machine, made with d, may make after those before it, by some call and with some answer, and has a seat's number
module _ {E D C A : Type 0} (plays : D → List E → C → A → Option E → Type 0) (d : D) (seats : ℕ) where
  abbrev pub MayFollow : List E → ℕ × E → Type 0
  MayFollow before x = ((call : C) × (answer : A) × plays d before call answer (Some x.1)) × (0 < x.0) × (x.0 ≤ seats)

  abbrev pub LegalFrom : List E → List (ℕ × E) → Type 0
  LegalFrom before [] = Unit {0}
  LegalFrom before (x ∷ xs) = MayFollow before x × LegalFrom (before ++ x.1 ∷ []) xs

  abbrev pub Legal : List (ℕ × E) → Type 0
  Legal log = LegalFrom [] log

module _ {E : Type 0} where
  -- the longer of two
  abbrev pub longer : List (ℕ × E) → List (ℕ × E) → List (ℕ × E)
  longer xs ys = cond (nat_lt (length xs) (length ys)) ys xs

  -- what was seen is a beginning of the history, in which all entries of these numbers stand
  abbrev pub Follows : List Bool → List (ℕ × E) → List (ℕ × E) → Type 0
  Follows ns seen log = IsStartOf seen log × (of_numbers ns seen ≡ of_numbers ns log)
