use Rattle.std.proofs.Common.{◌≡◌, ◌≤◌, take}
use Rattle.std.specs.List.{count_by}
use Rattle.run_words.specs.Lawful.{is_timed_out}
use Rattle.fabric_audit.proofs.counting.timed_out.Given as goal

abbrev pub invariant-loop-entry : goal.invariant-loop-entry
invariant-loop-entry l = (l.count ≡ count_by is_timed_out (take l.entry-index l.journal)) × (l.count ≤ l.entry-index)
