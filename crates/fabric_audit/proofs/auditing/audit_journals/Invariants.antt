use Rattle.run_worlds.specs.Worlds.{correct_of}
use Rattle.run_worlds.specs.Sights.{after_traces}
use Rattle.fabric_audit.proofs.Following.{IsLeft, rest_of}
use Rattle.fabric_audit.proofs.auditing.audit_journals.Given as goal

-- the traces that are left tell what all do
abbrev pub invariant-loop-trace : goal.invariant-loop-trace
invariant-loop-trace l =
    IsLeft l.fn.meetings l.meetings (λ met. after_traces l.makers met (correct_of l.traces)) (rest_of l.makers l.traces l.trace-index)
