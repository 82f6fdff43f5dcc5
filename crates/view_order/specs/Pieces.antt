-- What the pieces of a change of view leave as it is.
use Rattle.std.specs.Prelude.{◌≡◌}
use Rattle.local_order.specs.Ordering.{Ordering}

-- the same replica of the same members, whatever became of its state
abbrev pub IsSame : Ordering → Ordering → Type 0
IsSame old new = (new.roster ≡ old.roster) × (new.me ≡ old.me)
