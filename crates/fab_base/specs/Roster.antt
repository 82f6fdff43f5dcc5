-- Questions about who takes part in a fabric (ours).
use Rattle.std.specs.Prelude.{ℕ, ◌-◌, ◌&&◌, nat_le, nat_lt, Bool, List, length, map, slice_index}
use Rattle.std.specs.List.{range_with_len}
use Rattle.fab_base.specs.Limits.{Roster}
use Rattle.fab_base.specs.declared.ids.ReplicaId.{ReplicaId}
use Rattle.fab_base.specs.declared.ids.ClientId.{ClientId}
use Rattle.fab_base.specs.declared.ids.Who.{Who}
use Rattle.fab_base.specs.declared.ids.Who.TheVariants.{Replica, Client}

-- the clusters are numbered from 1 on
abbrev pub is_cluster : Roster → ℕ → Bool
is_cluster r c = nat_le 1 c && nat_le c (length r.sizes)

abbrev pub size_of : Roster → ℕ → ℕ
size_of r c = slice_index r.sizes (c - 1)

abbrev pub is_client : Roster → ClientId → Bool
is_client r client = nat_lt client.number (length r.homes)

abbrev pub home_of : Roster → ClientId → ℕ
home_of r client = slice_index r.homes client.number

abbrev pub is_replica : Roster → ReplicaId → Bool
is_replica r i = is_cluster r i.cluster && nat_lt i.index (size_of r i.cluster)

-- whether the replica or client takes part
abbrev pub takes_part : Roster → Who → Bool
takes_part r (Replica i) = is_replica r i
takes_part r (Client client) = is_client r client

-- the members of a cluster of this size, by index
abbrev pub members_of : ℕ → ℕ → List ReplicaId
members_of cluster size = map (λ index. record { cluster = cluster; index = index }) (range_with_len 0 size)
