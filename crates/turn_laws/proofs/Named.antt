-- Each parcel of a journal stands at its number.
use Rattle.std.proofs.Common.{◌≡◌, List, [], ◌∷◌, ◌++◌, Some, inl, inr}
use Rattle.std.specs.List.{fold}
use Rattle.fab_rules.specs.Lists.{In}
use Rattle.fab_rules.proofs.Lists.{in_append_cases}
use Rattle.run_words.specs.Journal.{Maker, Walk, walk, added, after_entry, parcels_of}
use Rattle.run_words.specs.Lawful.{parcel_at}
use Rattle.run_words.specs.declared.logs.Entry.{Entry}
use Rattle.run_words.specs.declared.logs.Parcel.{Parcel}
use Rattle.run_words.proofs.Twisting.{at_append, added_named}

abbrev AreNamed : List Parcel → Type 0
AreNamed ps = (q : Parcel) → In q ps → parcel_at q.to q.number ps ≡ Some q

named_on : (m : Maker) (w : Walk) (rest : List Entry) → AreNamed w.parcels → AreNamed (fold (after_entry m) w rest).parcels
named_on m w [] h = h
named_on m w (e ∷ rest) h = named_on m (after_entry m w e) rest grown
  where
    grown : AreNamed (w.parcels ++ added m w e)
    grown q i =
        elim (in_append_cases q w.parcels (added m w e) i) [
          | inl k ↦ at_append q.to q.number w.parcels (added m w e) q (h q k)
          | inr k ↦ added_named m w e q k
        ]

pub named : (m : Maker) (journal : List Entry) → AreNamed (parcels_of m journal)
unfolding walk
named m journal = named_on m (record { clock = 0; parcels = []; shares = []; signed = [] }) journal (λ q h. absurd h)
