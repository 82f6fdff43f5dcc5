-- The keys of a script (ours): all of kind W4, those of replicas of the script's height, those of clients of height 5.
use Rattle.std.specs.Prelude.{ℕ, ◌==◌, ◌+◌, List, [], ◌∷◌, ◌++◌, map, length, if◌then◌else◌}
use Rattle.std.specs.List.{range_with_len}
pub use Rattle.fab_base.specs.Roster.{members_of}
use Rattle.fab_base.specs.declared.ids.ReplicaId.{ReplicaId}
use Rattle.fab_base.specs.declared.ids.Who.{Who}
use Rattle.fab_base.specs.declared.ids.Who.TheVariants.{Replica, Client}
use Rattle.fault_script.specs.declared.scripts.Script.{Script}
use Rattle.lmots_core.specs.declared.kind.OtsKind.TheVariants.{W4}
use Rattle.lms_tree.specs.declared.heights.Height.{Height}
use Rattle.lms_tree.specs.declared.heights.Height.TheVariants.{H5, H10}
use Rattle.lms_tree.specs.declared.public.Public.{Public}
use Rattle.lms_tree.specs.Heights.{leaf_count}
use Rattle.lms_tree.specs.Keys.{TreeKey, public_of_key}
use Rattle.lms_tree.specs.Signatures.{leaf_signature}
use Rattle.lms_leaf.specs.Leaves.{Leaves}
use Rattle.script_keys.specs.Names.{seed_of}

-- ---- one key

-- the height of so many levels. A script has 5 or 10
abbrev pub height_of : ℕ → Height
height_of levels = if levels == 5 then H5 else H10

abbrev pub key_height : Script → Who → Height
key_height script (Replica i) = height_of script.height
key_height script (Client c) = H5

-- the key of a replica or a client
abbrev pub key_of : Script → Who → TreeKey
key_of script who = record { ots = W4; height = key_height script who; seed = seed_of script.seed who }

abbrev pub public_of : Script → Who → Public
public_of script who = public_of_key (key_of script who)

-- how many signatures the key gives
abbrev pub leaves_of : Script → Who → ℕ
leaves_of script who = leaf_count (key_height script who)

-- the signature that the key gives of a content as number k, from 0: the one by leaf k
abbrev pub signature_of : Script → Who → ℕ → List ℕ → List ℕ
signature_of script who k content = leaf_signature (key_of script who) k content

-- a signer with the key, that has used no leaf
abbrev pub signer_of : Script → Who → Leaves
signer_of script who = record { key = key_of script who; used = 0 }

-- ---- the keys of all

-- the replicas of clusters of these sizes, of which the first has this number
abbrev pub replicas_from : ℕ → List ℕ → List ReplicaId
replicas_from cluster [] = []
replicas_from cluster (size ∷ sizes) = members_of cluster size ++ replicas_from (cluster + 1) sizes

-- the replicas of a script, by id
abbrev pub replicas_of : Script → List ReplicaId
replicas_of script = replicas_from 1 script.sizes

-- the signers of the replicas, by id
abbrev pub signers_of : Script → List Leaves
signers_of script = map (λ i. signer_of script (Replica i)) (replicas_of script)

-- the client of this number
abbrev pub client : ℕ → Who
client number = Client (record { number = number })

-- the keys of the clients, by number
abbrev pub client_keys_of : Script → List TreeKey
client_keys_of script = map (λ number. key_of script (client number)) (range_with_len 0 (length script.homes))
