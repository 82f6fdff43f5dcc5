-- Sets of seat numbers, as rows of marks: a number is in the set where the place of that number is true.
use Rattle.std.specs.Prelude.{◌≡◌, ◌≢◌, ℕ, ◌+◌, ◌≤◌, ◌<◌, Bool, true, false, cond, ◌||◌, List, [], ◌∷◌, slice_index_or, slice_set, replicate}
use Rattle.std.specs.List.{position_or_len}

-- the number is one of these
abbrev pub has : List Bool → ℕ → Bool
has ns n = slice_index_or ns n false

-- the least number
abbrev pub least : List Bool → ℕ
least ns = position_or_len (λ b. b) ns

-- the last place with a mark, or what was found before
abbrev pub last_from : ℕ → ℕ → List Bool → ℕ
last_from top i [] = top
last_from top i (b ∷ bs) = last_from (cond b i top) (i + 1) bs

-- the greatest number
abbrev pub greatest : List Bool → ℕ
greatest ns = last_from 0 0 ns

-- all but this number
abbrev pub without : ℕ → List Bool → List Bool
without n ns = slice_set ns n false

-- this number alone
abbrev pub only : ℕ → List Bool
only n = slice_set (replicate 256 false) n true

-- the numbers of both
abbrev pub united : List Bool → List Bool → List Bool
united [] ys = []
united (a ∷ xs) [] = a ∷ xs
united (a ∷ xs) (b ∷ ys) = (a || b) ∷ united xs ys

-- every number from 1 to seats
abbrev pub HasAll : ℕ → List Bool → Type 0
HasAll seats ns = (n : ℕ) → 0 < n → n ≤ seats → has ns n ≡ true

-- no number but those from 1 to seats
abbrev pub HasNoOther : ℕ → List Bool → Type 0
HasNoOther seats ns = (n : ℕ) → has ns n ≡ true → (0 < n) × (n ≤ seats)

-- the numbers from 1 to n
abbrev pub AreFirst : ℕ → List Bool → Type 0
AreFirst n ns = HasAll n ns × HasNoOther n ns

-- two numbers, or more
abbrev pub HasTwo : List Bool → Type 0
HasTwo ns = (a : ℕ) × (b : ℕ) × (a ≢ b) × (has ns a ≡ true) × (has ns b ≡ true)

-- each of these numbers is one of those
abbrev pub AreAmong : List Bool → List Bool → Type 0
AreAmong ms ns = (n : ℕ) → has ms n ≡ true → has ns n ≡ true
