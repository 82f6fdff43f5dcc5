use Rattle.std.proofs.Common.{map, drop}
use Rattle.run_worlds.specs.Sights.{after_batches}
use Rattle.fabric_audit.proofs.Following.{IsLeft}
use Rattle.fabric_audit.proofs.meetings.Meetings.meet_certificates.Given as goal

-- the certificates that are left tell what all do
abbrev pub invariant-loop-certificate : goal.invariant-loop-certificate
invariant-loop-certificate l =
    IsLeft l.fn.self l.self (λ met. after_batches met (map (λ k. k.batch) l.certificates))
    (λ met. after_batches met (map (λ k. k.batch) (drop l.certificate-index l.certificates)))
