-- The ring of a script's public keys (ours).
use Rattle.std.specs.Prelude.{ℕ, ◌+◌, List, [], ◌∷◌, map, length}
use Rattle.std.specs.List.{range_with_len}
use Rattle.fab_base.specs.declared.ids.Who.TheVariants.{Replica}
use Rattle.fault_script.specs.declared.scripts.Script.{Script}
use Rattle.lms_tree.specs.declared.public.Public.{Public}
use Rattle.bft_verify.specs.Ring.{Ring}
use Rattle.script_keys.specs.Keys.{public_of, members_of, client}

-- the keys of the members of clusters of these sizes, of which the first has this number
abbrev pub rows_from : Script → ℕ → List ℕ → List (List Public)
rows_from script cluster [] = []
rows_from script cluster (size ∷ sizes) =
    map (λ i. public_of script (Replica i)) (members_of cluster size) ∷ rows_from script (cluster + 1) sizes

abbrev pub ring_of : Script → Ring
ring_of script = record {
  replicas = rows_from script 1 script.sizes;
  clients = map (λ number. public_of script (client number)) (range_with_len 0 (length script.homes));
}
