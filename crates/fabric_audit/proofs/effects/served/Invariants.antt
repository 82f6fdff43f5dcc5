use Rattle.std.proofs.Common.{◌≡◌, ◌+◌, drop}
use Rattle.std.specs.List.{prefix_len}
use Rattle.fabric_audit.specs.Stamps.{is_served}
use Rattle.fabric_audit.proofs.effects.served.Given as goal

abbrev pub invariant-loop-place : goal.invariant-loop-place
invariant-loop-place l = l.place + prefix_len (is_served l.stamps) (drop l.place l.requests) ≡ prefix_len (is_served l.stamps) l.requests
