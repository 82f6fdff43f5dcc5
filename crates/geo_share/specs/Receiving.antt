-- Who receives a share in a cluster: f + 1 of its members (GeoBFT, global sharing). That they change with the round is ours.
use Rattle.std.specs.Prelude.{ℕ, ◌+◌, ◌%◌, List, map}
use Rattle.std.specs.List.{range_with_len}
use Rattle.fab_base.specs.Limits.{Roster}
use Rattle.fab_base.specs.Roster.{size_of}
use Rattle.fab_base.specs.Quorums.{greatest_faulty}
use Rattle.fab_base.specs.declared.ids.ReplicaId.{ReplicaId}

-- the index of a receiver in a cluster of n members, by its place in the order of sending, from 0
abbrev pub receiver : ℕ → ℕ → ℕ → ℕ
receiver n round place = (round + place) % n

-- the places: as many as may be faulty, and one more
abbrev pub places : ℕ → List ℕ
places n = range_with_len 0 (greatest_faulty n + 1)

-- the indexes of the receivers, in the order of sending
abbrev pub receivers : ℕ → ℕ → List ℕ
receivers n round = map (receiver n round) (places n)

-- the receivers in a cluster
abbrev pub recipients_of : Roster → ℕ → ℕ → List ReplicaId
recipients_of r cluster round =
    map (λ place. record { cluster = cluster; index = receiver (size_of r cluster) round place }) (places (size_of r cluster))
