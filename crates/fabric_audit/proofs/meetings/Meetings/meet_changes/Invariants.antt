use Rattle.std.proofs.Common.{drop}
use Rattle.std.specs.List.{flat_map}
use Rattle.fab_rules.specs.Statements.{batches_of_change}
use Rattle.run_worlds.specs.Sights.{after_batches}
use Rattle.fabric_audit.proofs.Following.{IsLeft}
use Rattle.fabric_audit.proofs.meetings.Meetings.meet_changes.Given as goal

-- the changes that are left tell what all do
abbrev pub invariant-loop-change : goal.invariant-loop-change
invariant-loop-change l =
    IsLeft l.fn.self l.self (λ met. after_batches met (flat_map batches_of_change l.changes))
    (λ met. after_batches met (flat_map batches_of_change (drop l.change-index l.changes)))
