use Rattle.std.proofs.Common.{◌≡◌, ◌≤◌, take}
use Rattle.std.specs.List.{count_by}
use Rattle.fabric_audit.specs.Counts.{is_heard}
use Rattle.fabric_audit.proofs.counting.heard.Given as goal

abbrev pub invariant-loop-entry : goal.invariant-loop-entry
invariant-loop-entry l = (l.count ≡ count_by is_heard (take l.entry-index l.journal)) × (l.count ≤ l.entry-index)
