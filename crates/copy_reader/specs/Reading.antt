-- What a receiver makes of bytes, by what it was made with.
use Rattle.std.specs.Prelude.{◌≡◌, ℕ, List, Result, Ok, Err}
use Rattle.fab_base.specs.Limits.{Roster}
use Rattle.bft_verify.specs.Admitted.{Admitted}
use Rattle.bft_verify.specs.Ring.{Ring}
use Rattle.bft_verify.specs.declared.refusals.Refusal.{Refusal}
use Rattle.run_words.specs.Journal.{Maker, reads}

-- made with these members and keys
abbrev pub IsMadeWith : Roster → Ring → Maker → Type 0
IsMadeWith members ring m = (m.roster ≡ members) × (m.ring ≡ ring)

-- each replica that was made with these members and keys makes this of the bytes
abbrev pub IsRead : Roster → Ring → List ℕ → Result Admitted Refusal → Type 0
IsRead members ring load (Ok v) =
    (v.members ≡ members) × (v.ring ≡ ring) × ((m : Maker) → IsMadeWith members ring m → reads m load ≡ Ok v.message)
IsRead members ring load (Err refusal) = (m : Maker) → IsMadeWith members ring m → reads m load ≡ Err refusal
