-- What runs ask of keys and requests, said of those of a script.
use Rattle.std.specs.Prelude.{◌≡◌, ℕ, true, List}
use Rattle.fab_base.specs.declared.ids.Who.TheVariants.{Replica}
use Rattle.fab_rules.specs.Lists.{In}
use Rattle.fault_script.specs.declared.scripts.Script.{Script}
use Rattle.fault_script.specs.Scripts.{keeps_limits}
use Rattle.run_words.specs.Keyed.{of}
use Rattle.run_words.specs.Journal.{Maker}
use Rattle.run_words.specs.Lawful.{IsKeyed, IsRequest}
use Rattle.run_words.specs.declared.logs.Pending.{Pending}
use Rattle.script_keys.specs.Keys.{leaves_of, signature_of, replicas_of}
use Rattle.script_keys.specs.Rings.{ring_of}
use Rattle.script_keys.specs.Requests.{copies_of}

-- what is made with the script's members and keys
pub record IsOfScript (script : Script) (m : Maker) : Type 0 where
  pub sizes : m.roster.sizes ≡ script.sizes
  pub homes : m.roster.homes ≡ script.homes
  pub ring : m.ring ≡ ring_of script
  -- a replica of the script
  pub replica : In m.id (replicas_of script)
  -- it signs with its own key, number k by leaf k
  pub leaves : m.leaves ≡ leaves_of script (Replica m.id)
  pub signature : (k : ℕ) (content : List ℕ) → m.signature k content ≡ signature_of script (Replica m.id) k content

-- each replica's key is in the ring, and gives valid signatures that have a place in a message
abbrev pub KeyedLaw : Type 0
KeyedLaw = (script : Script) (m : Maker) → IsOfScript script m → IsKeyed m

-- each copy is sound for its receiver: what the client asked, as it signed it, is read
abbrev pub RequestsLaw : Type 0
RequestsLaw = (script : Script) (m : Maker) → keeps_limits script ≡ true → IsOfScript script m
    → (c : Pending) → In c (of m.id (copies_of script)) → IsRequest m c
