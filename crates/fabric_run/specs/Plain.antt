-- What `plain` writes (ours): the meaning of a script when its requests are applied in its order, one after another.
use Rattle.std.specs.Prelude.{◌≡◌, ℕ, List, [], ◌++◌, length, map, codes}
use Rattle.fab_base.specs.declared.requests.Outcome.{Outcome}
use Rattle.fab_base.specs.declared.requests.Request.{Request}
use Rattle.fab_base.specs.Table.{State, empty_state, outcomes_of, state_after_all}
use Rattle.fault_script.specs.Asking.{asked}
use Rattle.fault_script.specs.declared.scripts.Script.{Script}
use Rattle.fault_script.specs.declared.scripts.Wish.{Wish}
use Rattle.fabric_run.specs.declared.exits.Exit.{Exit}
use Rattle.fabric_run.specs.declared.exits.Exit.TheVariants.{Done}
use Rattle.ledger_report.specs.Text.{reply_lines, table_text}

-- a request, which `plain` leaves unsigned
abbrev pub request_of : Wish → Request
request_of wish = asked wish []

abbrev pub requests_of : Script → List Request
requests_of script = map request_of script.requests

-- before the first request
abbrev pub start_of : Script → State
start_of script = empty_state (length script.homes)

-- what the requests come to
abbrev pub plain_outcomes : Script → List Outcome
plain_outcomes script = outcomes_of (start_of script) (requests_of script)

-- what they leave
abbrev pub plain_state : Script → State
plain_state script = state_after_all (start_of script) (requests_of script)

-- a line for each request, the table, and the end
abbrev pub plain_text : Script → List ℕ
plain_text script =
    reply_lines (requests_of script) (plain_outcomes script) ++ table_text (plain_state script).entries ++ codes "end done\n"

-- what `plain` makes of a script: it is done, with the script's text
abbrev pub PlainMakes : Script → Exit → List ℕ → Type 0
PlainMakes script exit text = (exit ≡ Done) × (text ≡ plain_text script)
