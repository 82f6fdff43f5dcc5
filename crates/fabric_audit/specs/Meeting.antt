-- The batches that are met: what is kept of them, and what comes of the next.
use Rattle.std.specs.Prelude.{◌≡◌, ℕ, true, cond, List, Option, Some, None, Result, Ok, Err, if◌then◌else◌}
use Rattle.std.specs.List.{find}
use Rattle.std.specs.Map.{lookup}
use Rattle.std.specs.Str.{bytes_eq}
use Rattle.fab_base.specs.Digests.{same_digest}
use Rattle.fab_base.specs.declared.ids.Hash32.{Hash32}
use Rattle.fab_base.specs.declared.requests.Request.{Request}
use Rattle.fab_rules.specs.Digests.{batch_digest}
use Rattle.fab_rules.specs.Lists.{In}
use Rattle.run_words.specs.declared.ends.Evidence.{Evidence}
use Rattle.run_worlds.specs.Sights.{Sight, same_batch}
use Rattle.fabric_audit.specs.declared.stops.Stop.{Stop}

-- ---- what is kept

-- digests, each with the batch that was met first with it
abbrev pub Firsts : Type 0
Firsts = List (List ℕ × List Request)

abbrev pub first_with : List ℕ → List (List Request) → Option (List Request)
first_with digest met = find (λ a. bytes_eq (batch_digest a).bytes digest) met

-- those that share a digest are one
abbrev pub AreApart : List (List Request) → Type 0
AreApart met = (a b : List Request) → In a met → In b met → same_digest (batch_digest a) (batch_digest b) ≡ true → a ≡ b

-- these were met, without a clash
pub record AreFirsts (firsts : Firsts) (met : List (List Request)) : Type 0 where
  pub first : (digest : List ℕ) → lookup (bytes_eq digest) firsts ≡ first_with digest met
  pub apart : AreApart met

-- one digest more
abbrev pub Gains : Firsts → Firsts → List ℕ → List Request → Type 0
Gains old new key batch = (digest : List ℕ) → lookup (bytes_eq digest) new ≡ cond (bytes_eq key digest) (Some batch) (lookup (bytes_eq digest) old)

-- ---- what comes of a batch

abbrev pub clash_of : Hash32 → List Request → List Request → Option Evidence
clash_of digest first batch = if same_batch first batch then None else Some (Evidence.Clash digest first batch)

-- the evidence is found, if there is any
abbrev pub Finds : Result (Unit {0}) Stop → Option Evidence → Type 0
Finds (Ok x) evidence = evidence ≡ None
Finds (Err (Stop.Found found)) evidence = evidence ≡ Some found
Finds (Err Stop.NoMemory) evidence = Unit {0}

-- the same of what is met, which is kept
abbrev pub Tells : Result (Unit {0}) Stop → Firsts → Sight → Type 0
Tells (Ok x) now (Ok met) = AreFirsts now met
Tells (Ok x) now (Err evidence) = ⊥
Tells (Err (Stop.Found found)) now sight = sight ≡ Err found
Tells (Err Stop.NoMemory) now sight = Unit {0}

-- whatever was met so far
abbrev pub Meets : Firsts → Result (Unit {0}) Stop → Firsts → (List (List Request) → Sight) → Type 0
Meets old result now sight = (met : List (List Request)) → AreFirsts old met → Tells result now (sight met)
