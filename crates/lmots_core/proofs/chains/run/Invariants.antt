use Rattle.std.proofs.Common.{◌≡◌, ◌<◌, ◌≤◌, ℕ, length}
use Rattle.lmots_core.specs.Running.{IsOn, IsThere}
use Rattle.lmots_core.proofs.chains.run.Given as goal

abbrev pub invariant-rest : goal.invariant-rest
invariant-rest l =
    (length l.values ≡ length l.fn.values) × (length l.places ≡ length l.fn.values)
    × ((k : ℕ) → k < l.i → IsThere l.id l.q l.fn.places l.fn.values l.goals l.values k)
    × ((k : ℕ) → l.i ≤ k → k < length l.fn.values → IsOn l.id l.q l.fn.places l.fn.values l.goals l.places l.values k)
