-- Words on lists that the definitions share.
use Rattle.std.specs.Prelude.{◌≡◌, ◌⊎◌, ◌++◌, ℕ, max, Bool, true, ◌&&◌, List, [], ◌∷◌, Option, Some, None}

-- x stands in the list
abbrev pub In : {X : Type 0} → X → List X → Type 0
In x [] = ⊥
In x (y ∷ ys) = (y ≡ x) ⊎ In x ys

-- the first list begins the second
abbrev pub IsPrefixOf : {X : Type 0} → List X → List X → Type 0
IsPrefixOf {X} xs ys = (rest : List X) × (xs ++ rest ≡ ys)

abbrev pub first_of : {X : Type 0} → List X → Option X
first_of [] = None
first_of (x ∷ xs) = Some x

-- the greatest of some numbers, or 0 where there is none
abbrev pub greatest : List ℕ → ℕ
greatest [] = 0
greatest (x ∷ xs) = max x (greatest xs)

-- whether x may stand in front of the list
abbrev pub leads_by : {X : Type 0} → (X → X → Bool) → X → List X → Bool
leads_by before x [] = true
leads_by before x (y ∷ ys) = before x y

-- whether each item comes before the next
abbrev pub rises_by : {X : Type 0} → (X → X → Bool) → List X → Bool
rises_by before [] = true
rises_by before (x ∷ xs) = leads_by before x xs && rises_by before xs
