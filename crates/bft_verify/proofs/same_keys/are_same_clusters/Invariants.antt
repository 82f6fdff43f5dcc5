use Rattle.std.proofs.Common.{◌≡◌, take}
use Rattle.bft_verify.proofs.same_keys.are_same_clusters.Given as goal

-- so far they are the same
abbrev pub invariant-clusters : goal.invariant-clusters
invariant-clusters l = take l.place l.rows ≡ take l.place l.others
