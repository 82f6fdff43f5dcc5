use Rattle.std.proofs.Common.{◌≡◌, ◌<◌, ℕ, length, slice_index}
use Rattle.lmots_core.specs.Parameters.{width}
use Rattle.lmots_core.specs.Digits.{coef}
use Rattle.lmots_core.specs.OneTime.{value_of}
use Rattle.lmots_core.specs.Running.{value_in}
use Rattle.lmots_core.proofs.candidates.load.Given as goal

abbrev pub invariant-load : goal.invariant-load
invariant-load l =
    (length l.values ≡ length l.fn.values) × (length l.places ≡ length l.fn.places)
    × ((k : ℕ) → k < l.i → (value_in l.values k ≡ value_of l.signature k) × (slice_index l.places k ≡ coef l.digits k (width l.kind)))
