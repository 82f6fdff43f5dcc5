use Rattle.std.proofs.Common.{◌≡◌, ◌<◌, ℕ, length, slice_index}
use Rattle.lmots_core.specs.Parameters.{width}
use Rattle.lmots_core.specs.Digits.{coef}
use Rattle.lmots_core.proofs.signatures.set_goals.Given as goal

abbrev pub invariant-goals : goal.invariant-goals
invariant-goals l =
    (length l.goals ≡ length l.fn.goals) × ((k : ℕ) → k < l.i → slice_index l.goals k ≡ coef l.digits k (width l.kind))
