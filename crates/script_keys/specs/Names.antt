-- What the key of a replica or a client is made from (ours): the script's seed, and the name of whose it is.
use Rattle.std.specs.Prelude.{ℕ, List, [], ◌∷◌, ◌++◌, take}
use Rattle.std.specs.Int.{w64, to_be_bytes}
use Rattle.sha2.specs.Sha256.{sha256}
use Rattle.fab_base.specs.declared.ids.Who.{Who}
use Rattle.fab_base.specs.declared.ids.Who.TheVariants.{Replica, Client}
use Rattle.lmots_core.specs.declared.seed.OtsSeed.{OtsSeed}

-- 1, the cluster and the index of a replica; 2 and the number of a client
abbrev pub name_of : Who → List ℕ
name_of (Replica i) = 1 ∷ i.cluster ∷ i.index ∷ []
name_of (Client c) = 2 ∷ c.number ∷ []

-- "gbft-id"
abbrev pub id_mark : List ℕ
id_mark = 0x67 ∷ 0x62 ∷ 0x66 ∷ 0x74 ∷ 0x2d ∷ 0x69 ∷ 0x64 ∷ []

-- "gbft-key"
abbrev pub secret_mark : List ℕ
secret_mark = 0x67 ∷ 0x62 ∷ 0x66 ∷ 0x74 ∷ 0x2d ∷ 0x6b ∷ 0x65 ∷ 0x79 ∷ []

-- H(mark ‖ u64(seed) ‖ name)
unfoldable pub digest_of : List ℕ → ℕ → Who → List ℕ
digest_of mark seed who = sha256 (mark ++ to_be_bytes w64 seed ++ name_of who)

-- I, the first 16 bytes of H("gbft-id" ‖ u64(seed) ‖ name), and SEED, which is H("gbft-key" ‖ u64(seed) ‖ name)
abbrev pub seed_of : ℕ → Who → OtsSeed
seed_of seed who = record { id = take 16 (digest_of id_mark seed who); seed = digest_of secret_mark seed who }
