use Rattle.std.proofs.Common.{◌≡◌, ◌<◌, ◌≤◌, ℕ, List, length}
use Rattle.lmots_core.specs.Running.{AreOn}
use Rattle.lmots_core.proofs.chains.run_lanes.Given as goal

abbrev pub invariant-turns : goal.invariant-turns
invariant-turns l =
    (l.a < length l.values) × (l.b < length l.values) × (l.c < length l.values) × (l.d < length l.values)
    × (l.next ≤ length l.values) × (length l.values ≡ length l.fn.values) × (length l.places ≡ length l.values)
    × ((from : List ℕ) (start : List (List ℕ)) → AreOn l.id l.q from start l.goals l.fn.places l.fn.values (length l.fn.values)
    → AreOn l.id l.q from start l.goals l.places l.values (length l.values))
