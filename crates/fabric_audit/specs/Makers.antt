-- Who made what, as it is looked up.
use Rattle.std.specs.Prelude.{◌≡◌, ℕ, Bool, true, List, map, Option, Some, None}
use Rattle.std.specs.List.{list_any}
use Rattle.std.specs.Str.{bytes_eq}
use Rattle.std.specs.Map.{lookup}
use Rattle.fab_base.specs.declared.ids.ReplicaId.{ReplicaId}
use Rattle.fab_base.specs.declared.ids.Who.{Who}
use Rattle.bft_msg.specs.Judging.{IsSignedPart}
use Rattle.run_words.specs.Keyed.{is_same}
use Rattle.run_words.specs.declared.logs.Transcript.{Transcript}
use Rattle.run_worlds.specs.Worlds.{correct_of}
use Rattle.run_worlds.specs.Sights.{is_signed_by}
use Rattle.script_keys.specs.Requests.{asked_content}

-- of one that takes no part or is faulty nothing is asked
abbrev pub is_within : Option (List (List ℕ)) → List ℕ → Bool
is_within None x = true
is_within (Some contents) x = list_any (bytes_eq x) contents

-- whether the replica's set has the content
abbrev pub has_signed : List (ReplicaId × List (List ℕ)) → ReplicaId → List ℕ → Bool
has_signed signers i x = is_within (lookup (is_same i) signers) x

-- the sets are those of a run: what each correct replica signed, and what the script has the clients ask for
pub record AreMakers (t : Transcript) (signers : List (ReplicaId × List (List ℕ))) (asked : List (List ℕ)) : Type 0 where
  pub signed : (i : ReplicaId) (x : List ℕ) → has_signed signers i x ≡ is_signed_by (correct_of t.traces) i x
  pub requests : (x : List ℕ) → list_any (bytes_eq x) asked ≡ list_any (bytes_eq x) (map asked_content t.script.requests)

-- it is the content of a part that he signs
abbrev pub IsOfPart : Who → List ℕ → Type 0
IsOfPart who content = (signature : List ℕ) × IsSignedPart who content signature
