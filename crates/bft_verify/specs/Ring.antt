-- The public keys of all who sign (ours).
use Rattle.std.specs.Prelude.{ℕ, ◌-◌, Bool, true, false, ◌&&◌, List, Option, Some, None, nat_le, slice_get, if◌then◌else◌}
use Rattle.std.specs.List.{list_all}
use Rattle.fab_base.specs.declared.ids.Who.{Who}
use Rattle.fab_base.specs.declared.ids.Who.TheVariants.{Replica, Client}
use Rattle.lmots_core.specs.declared.kind.OtsKind.{OtsKind}
use Rattle.lmots_core.specs.declared.kind.OtsKind.TheVariants.{W4}
use Rattle.lms_tree.specs.declared.heights.Height.{Height}
use Rattle.lms_tree.specs.declared.heights.Height.TheVariants.{H5, H10}
use Rattle.lms_tree.specs.declared.public.Public.{Public}

pub record Ring : Type 0 where
  -- those of the members of each cluster, by index; clusters are counted from 1
  pub replicas : List (List Public)
  -- those of the clients, by number
  pub clients : List Public

-- ---- whose key it is

-- the keys of a cluster
abbrev pub keys_of_cluster : Ring → ℕ → Option (List Public)
keys_of_cluster ring cluster = if nat_le 1 cluster then slice_get ring.replicas (cluster - 1) else None

abbrev pub key_among : Option (List Public) → ℕ → Option Public
key_among (Some keys) index = slice_get keys index
key_among None index = None

-- the key of a replica or a client, where the ring has one
abbrev pub key_of : Ring → Who → Option Public
key_of ring (Replica i) = key_among (keys_of_cluster ring i.cluster) i.index
key_of ring (Client c) = slice_get ring.clients c.number

-- ---- which keys there may be

abbrev pub is_w4 : OtsKind → Bool
is_w4 W4 = true
is_w4 k = false

abbrev pub is_low : Height → Bool
is_low H5 = true
is_low H10 = true
is_low h = false

-- kind W4 and height 5 or 10
abbrev pub is_fabric_key : Public → Bool
is_fabric_key key = is_w4 key.ots && is_low key.height

abbrev pub are_fabric_keys : Ring → Bool
are_fabric_keys ring = list_all (list_all is_fabric_key) ring.replicas && list_all is_fabric_key ring.clients
