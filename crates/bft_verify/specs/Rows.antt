-- A list cut into rows.
use Rattle.std.specs.Prelude.{ℕ, List, [], ◌∷◌, take, drop}

-- rows of these lengths, one behind the other
abbrev pub rows : {X : Type 0} → List ℕ → List X → List (List X)
rows [] xs = []
rows (n ∷ lengths) xs = take n xs ∷ rows lengths (drop n xs)
