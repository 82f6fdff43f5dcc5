use Rattle.std.proofs.Common.{◌≡◌, map}
use Rattle.std.specs.List.{range_with_len}
use Rattle.geo_share.specs.Receiving.{receiver}
use Rattle.geo_share.proofs.receiving.recipients.Given as goal

abbrev pub invariant-loop-place : goal.invariant-loop-place
invariant-loop-place l =
    l.targets.items ≡ map (λ place. record { cluster = l.cluster; index = receiver l.size l.round place }) (range_with_len 0 l.place)
