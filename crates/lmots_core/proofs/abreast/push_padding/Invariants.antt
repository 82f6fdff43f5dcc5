use Rattle.std.proofs.Common.{◌≡◌, ℕ, List, ◌++◌, ◌*◌, ◌-◌, ◌≤◌, replicate}
use Rattle.lmots_core.specs.Abreast.{AreTaken}
use Rattle.lmots_core.proofs.abreast.push_padding.Given as goal

abbrev pub invariant-zeros : goal.invariant-zeros
invariant-zeros l =
    (l.at ≡ l.counter) × (l.counter ≤ 15)
    × ((m : ℕ → List ℕ) → AreTaken l.initial.state l.initial.block l.from m → AreTaken l.state l.block l.at (λ k. m k ++ replicate (4 * (l.counter - l.from)) 0))
