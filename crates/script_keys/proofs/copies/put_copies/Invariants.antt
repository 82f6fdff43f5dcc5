use Rattle.std.proofs.Common.{◌≡◌, ◌++◌, take}
use Rattle.script_keys.specs.Requests.{copies_to}
use Rattle.script_keys.proofs.copies.put_copies.Given as goal

abbrev pub invariant-loop-to : goal.invariant-loop-to
invariant-loop-to l = l.copies ≡ l.fn.copies ++ copies_to (record { origin = l.origin; number = l.number; load = l.load }) (take l.to-index l.receivers)
