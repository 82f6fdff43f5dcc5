-- What a primary proposed, in order (ours).
use Rattle.std.specs.Prelude.{◌≡◌, ℕ, ◌+◌, ◌<◌, true, List, [], ◌∷◌, ◌++◌, length}
use Rattle.std.specs.List.{flat_map}
use Rattle.fab_base.specs.Limits.{Roster}
use Rattle.fab_base.specs.Roster.{home_of, size_of}
use Rattle.fab_base.specs.declared.ids.ClientId.{ClientId}
use Rattle.fab_base.specs.declared.messages.Message.{Message}
use Rattle.fab_base.specs.declared.requests.Request.{Request}
use Rattle.fab_rules.specs.Diary.{Entry, Heard, Said, Did}
use Rattle.fab_machine.specs.State.{Local}
use Rattle.fab_machine.specs.Proposing.{stamps_of, expected}
use Rattle.fault_script.specs.declared.scripts.Script.{Script}
use Rattle.fault_script.specs.Scripts.{keeps_limits}
use Rattle.world_laws.specs.World.{NoClash}
use Rattle.heed_laws.specs.Fronts.{GoOn}
use Rattle.run_words.specs.Runs.{after, transcript}
use Rattle.run_words.specs.declared.logs.Transcript.{Transcript}
use Rattle.run_worlds.specs.Scripts.{roster_of, script_rules}
use Rattle.run_worlds.specs.Worlds.{world_of}
use Rattle.plain_laws.specs.Plain.{HasTimedOut}
use Rattle.budget_laws.specs.Opened.{state_at, full_at}

abbrev pub batch_in : Message → List (List Request)
batch_in (Message.PrePrepare p) = p.batch ∷ []
batch_in m = []

-- the batches of the PrePrepares that are said in a diary, the first one first
abbrev pub proposals_said : List Entry → List (List Request)
proposals_said [] = []
proposals_said (Said m ∷ past) = proposals_said past ++ batch_in m
proposals_said (Heard m ∷ past) = proposals_said past
proposals_said (Did block ∷ past) = proposals_said past

-- all their requests
abbrev pub requests_said : List Entry → List Request
requests_said full = flat_map (λ b. b) (proposals_said full)

-- the stamps of a client among them
abbrev pub stamps_said : ℕ → List Entry → List ℕ
stamps_said client full = stamps_of client (requests_said full)

-- a primary wastes nothing: it proposed once for each slot below its next one; of each client of the one cluster it proposed the stamps
-- from 1 on, each once, and the next one is the one that it expects
pub record IsThrifty (r : Roster) (l : Local) (full : List Entry) : Type 0 where
  pub next_is : length (proposals_said full) + 1 ≡ l.next
  pub stamps : (client : ClientId) → home_of r client ≡ 1 → GoOn 1 (stamps_said client.number full)
  pub expected_is : (client : ClientId) → home_of r client ≡ 1 → expected l client.number ≡ length (stamps_said client.number full) + 1

-- the one run of a script, after so many steps
abbrev pub run_after : Script → ℕ → Transcript
run_after script n = transcript (script_rules script) (after (script_rules script) n)

-- so it is of the first member, which is the primary, after each number of steps of the one run of a script of one cluster, as long as nobody
-- timed out and no two batches share a digest
abbrev pub ThriftyLaw : Type 0
ThriftyLaw = (script : Script) (n : ℕ) → keeps_limits script ≡ true → length script.sizes ≡ 1 → 0 < size_of (roster_of script) 1
    → ¬ HasTimedOut (run_after script n) → NoClash (world_of (run_after script n))
    → IsThrifty (roster_of script) (state_at (run_after script n) 0).local (full_at (run_after script n) 0)
