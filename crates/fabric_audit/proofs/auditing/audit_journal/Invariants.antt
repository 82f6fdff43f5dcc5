use Rattle.std.proofs.Common.{drop}
use Rattle.run_worlds.specs.Sights.{after_entries}
use Rattle.fabric_audit.proofs.Following.{IsLeft}
use Rattle.fabric_audit.proofs.auditing.audit_journal.Given as goal

-- the entries that are left tell what all do
abbrev pub invariant-loop-place : goal.invariant-loop-place
invariant-loop-place l =
    IsLeft l.fn.meetings l.meetings (λ met. after_entries l.makers l.replica 0 met l.journal)
    (λ met. after_entries l.makers l.replica l.place met (drop l.place l.journal))
