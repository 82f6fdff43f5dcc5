-- How the parcels of a replica are numbered, receiver by receiver, and put.
use Rattle.std.specs.Prelude.{◌≡◌, ℕ, ◌+◌, ◌-◌, ◌<◌, cond, List, [], ◌∷◌, ◌++◌, length, map, take, IsTrue, Option, Some, None, slice_index_or, slice_set, ◌≤◌}
use Rattle.std.specs.List.{count_by}
use Rattle.fab_base.specs.declared.ids.ReplicaId.{ReplicaId}
use Rattle.fab_rules.specs.Lists.{In}
use Rattle.fab_rules.specs.Format.{fits}
use Rattle.run_words.specs.Keyed.{is_same}
use Rattle.run_words.specs.Journal.{Maker}
use Rattle.run_words.specs.declared.logs.Entry.{Entry}
use Rattle.run_words.specs.declared.logs.Parcel.{Parcel}

-- ---- numbers

-- how many parcels were put to each receiver
abbrev pub Counts : Type 0
Counts = List (ReplicaId × ℕ)

-- to this one: none where it isn't listed
abbrev pub number_in : Counts → ReplicaId → ℕ
number_in [] i = 0
number_in (c ∷ rest) i = cond (is_same i c.0) c.1 (number_in rest i)

-- one more to this receiver
abbrev pub raised : Counts → ReplicaId → Counts
raised [] i = (i, 1) ∷ []
raised (c ∷ rest) i = cond (is_same i c.0) ((c.0, c.1 + 1) ∷ rest) (c ∷ raised rest i)

-- one more to each of these
abbrev pub raised_by : Counts → List ReplicaId → Counts
raised_by counts [] = counts
raised_by counts (to ∷ rest) = raised_by (raised counts to) rest

-- these are the numbers of what was put
abbrev pub AreNumbers : Counts → List Parcel → Type 0
AreNumbers counts parcels = (i : ReplicaId) → number_in counts i ≡ count_by (λ q. is_same i q.to) parcels

-- where a receiver stands in the list: its number is there, and it is there that it is raised
abbrev pub IsPlace : Counts → ReplicaId → Option ℕ → Type 0
IsPlace counts i None = (number_in counts i ≡ 0) × (raised counts i ≡ counts ++ (i, 1) ∷ [])
IsPlace counts i (Some k) = (k < length counts) × ((c : ReplicaId × ℕ) → slice_index_or counts k c ≡ c
    → (number_in counts i ≡ c.1) × (raised counts i ≡ slice_set counts k (c.0, c.1 + 1)))

-- ---- parcels

-- a copy for each receiver, in order, of the number that is next for it
abbrev pub numbered : Counts → ℕ → List ℕ → List ReplicaId → List Parcel
numbered counts time bytes [] = []
numbered counts time bytes (to ∷ rest) =
    record { to = to; number = number_in counts to; time = time; bytes = bytes; passes = 1 } ∷ numbered (raised counts to) time bytes rest

-- bytes that end with these in place of the last ones
abbrev pub ended : List ℕ → List ℕ → List ℕ
ended back bytes = take (length bytes - length back) bytes ++ back

abbrev pub ended_parcel : List ℕ → Parcel → Parcel
ended_parcel back q = record q { bytes = ended back q.bytes }

-- the bytes of each parcel are so many, or more
abbrev pub HaveRoom : ℕ → List Parcel → Type 0
HaveRoom room parcels = (q : Parcel) → In q parcels → room ≤ length q.bytes

-- parcels that wait for so many last bytes, and the numbers after they are put
pub record Draft : Type 0 where
  pub parcels : List Parcel
  pub counts : Counts
  pub room : ℕ

-- what is sent of them with these last bytes
abbrev pub sent_with : List ℕ → Draft → List Parcel
sent_with back draft = map (ended_parcel back) draft.parcels

-- ---- journals

-- what a replica sends is neither lost nor repeated, and it sends as a correct one does
pub record SendsPlainly (m : Maker) : Type 0 where
  pub lossless : m.losses ≡ []
  pub correct : m.fault ≡ None

-- what was sent has a spelling
abbrev pub IsSpelled : Entry → Type 0
IsSpelled (Entry.Sent item) = IsTrue (fits item.message)
IsSpelled e = Unit {0}

abbrev pub AreSpelled : List Entry → Type 0
AreSpelled [] = Unit {0}
AreSpelled (e ∷ rest) = IsSpelled e × AreSpelled rest
