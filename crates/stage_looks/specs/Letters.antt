-- Letters: parcels on a link, and the copies that they are.
use Rattle.std.specs.Prelude.{◌≡◌, cond, List, [], ◌∷◌, ◌++◌, map, replicate}
use Rattle.std.specs.List.{flat_map}
use Rattle.fab_base.specs.declared.ids.ReplicaId.{ReplicaId}
use Rattle.run_words.specs.Keyed.{is_same, of}
use Rattle.run_words.specs.Runs.{copies_of}
use Rattle.run_words.specs.declared.logs.Origin.{Origin}
use Rattle.run_words.specs.declared.logs.Parcel.{Parcel}
use Rattle.run_words.specs.declared.logs.Pending.{Pending}
use Rattle.stage_looks.specs.declared.letters.Letter.{Letter}

abbrev pub letter_of : Parcel → Letter
letter_of p = record { parcel = p.number; time = p.time; bytes = p.bytes }

-- as many as it passes
abbrev pub letters_of : Parcel → List Letter
letters_of p = replicate p.passes (letter_of p)

-- those to a receiver, in order
abbrev pub letters_to : ReplicaId → List Parcel → List Letter
letters_to to [] = []
letters_to to (p ∷ rest) = cond (is_same to p.to) (letters_of p) [] ++ letters_to to rest

-- on the link of this sender
abbrev pub copy_from : ReplicaId → Letter → Pending
copy_from from l = record { origin = Origin.Replica from l.time; number = l.parcel; load = l.bytes }

-- ---- the law

-- the letters of a sender to a receiver are the copies to it of what the sender put, in order
abbrev pub CopiesLaw : Type 0
CopiesLaw = (from to : ReplicaId) (parcels : List Parcel) → map (copy_from from) (letters_to to parcels) ≡ of to (flat_map (copies_of from) parcels)
