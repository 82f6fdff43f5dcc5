-- The end of a list that rises.
use Rattle.std.proofs.Common.{◌≡◌, ℕ, zero, suc, ◌+◌, ◌≤◌, Bool, true, List, [], ◌∷◌, length, map, drop, refl, arith}
use Rattle.fab_rules.specs.Lists.{rises_by}

-- one item rises, and so does none
pub last_rises : {X R : Type 0} (before : R → R → Bool) (rank : X → R) (xs : List X) (i : ℕ) → length xs ≤ i + 1
    → rises_by before (map rank (drop i xs)) ≡ true
last_rises before rank [] zero l = refl
last_rises before rank [] (suc i) l = refl
last_rises before rank (x ∷ []) zero l = refl
last_rises before rank (x ∷ y ∷ xs) zero l = absurd (omega arith)
last_rises before rank (x ∷ xs) (suc i) l = last_rises before rank xs i (omega arith)
