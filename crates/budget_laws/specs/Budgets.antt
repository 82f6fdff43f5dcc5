-- Which keys and which limit of entries are enough for a script (ours).
use Rattle.std.specs.Prelude.{◌≡◌, ℕ, ◌+◌, ◌*◌, ◌/◌, ◌^◌, ◌≤◌, ◌⊎◌, true, Bool, [], length, sum, nat_eq, slice_index}
use Rattle.std.specs.List.{sum_by, count_by, range_with_len}
use Rattle.fault_script.specs.declared.scripts.Script.{Script}
use Rattle.fault_script.specs.Scripts.{keeps_limits}
use Rattle.run_words.specs.Runs.{IsSchedule}
use Rattle.run_words.specs.declared.ends.End.{End}
use Rattle.run_words.specs.declared.logs.Transcript.{Transcript}
use Rattle.run_worlds.specs.Scripts.{script_rules}
use Rattle.run_worlds.specs.Endings.{IsEnd}
use Rattle.plain_laws.specs.Plain.{IsClash}

-- how many requests the clients of a cluster have
abbrev pub requests_at : Script → ℕ → ℕ
requests_at script cluster = count_by (λ wish. nat_eq (slice_index script.homes wish.client.number) cluster) script.requests

-- so many rounds are enough: full batches, and one that isn't
abbrev pub rounds_of : Script → ℕ
rounds_of script = 1 + sum_by (λ c. requests_at script c / script.batch) (range_with_len 1 (length script.sizes))

abbrev pub replicas_in : Script → ℕ
replicas_in script = sum script.sizes

-- keys and turns are enough for that many rounds
pub record FitsScript (script : Script) : Type 0 where
  pub leaves : 5 * rounds_of script + 8 ≤ 2 ^ script.height
  pub turns : 32 * rounds_of script * replicas_in script * replicas_in script + replicas_in script * length script.requests ≤ script.turns

-- the one run of a script of one cluster without timeout lines that fits ends done, or two batches have one digest, however much patience the
-- script has
abbrev pub BudgetLaw : Type 0
BudgetLaw = (script : Script) (t : Transcript) (spent : Bool) (end : End) → length script.sizes ≤ 1 → keeps_limits script ≡ true → script.timeouts ≡ []
    → FitsScript script → IsSchedule (script_rules script) t spent → IsEnd t end → (end ≡ End.Done) ⊎ IsClash end
