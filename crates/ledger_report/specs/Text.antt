-- The text of a report (ours). Each line ends with a line feed; numbers are decimal, keys and values stand as they are.
use Rattle.std.specs.Prelude.{ℕ, List, ◌++◌, length, codes, decimal, flat_map}
use Rattle.std.specs.List.{zip}
use Rattle.fab_base.specs.declared.requests.Outcome.{Outcome}
use Rattle.fab_base.specs.declared.requests.Outcome.TheVariants.{Done, Again, Early}
use Rattle.fab_base.specs.declared.requests.Reply.TheVariants.{Wrote, Found, Absent}
use Rattle.fab_base.specs.declared.requests.Request.{Request}

-- what a request came to
abbrev pub outcome_text : Outcome → List ℕ
outcome_text (Done Wrote) = codes "wrote"
outcome_text (Done (Found value)) = codes "found " ++ value
outcome_text (Done Absent) = codes "absent"
outcome_text Again = codes "again"
outcome_text Early = codes "early"

-- `reply CLIENT STAMP OUTCOME`
abbrev pub reply_line : Request → Outcome → List ℕ
reply_line request outcome =
    codes "reply " ++ decimal request.client.number ++ codes " " ++ decimal request.stamp ++ codes " " ++ outcome_text outcome ++ codes "\n"

-- a line for each request, with what it came to
abbrev pub reply_lines : List Request → List Outcome → List ℕ
reply_lines requests outcomes = flat_map (λ pair. reply_line pair.0 pair.1) (zip requests outcomes)

-- `entry KEY VALUE`
abbrev pub entry_line : List ℕ × List ℕ → List ℕ
entry_line entry = codes "entry " ++ entry.0 ++ codes " " ++ entry.1 ++ codes "\n"

-- a line for each key
abbrev pub entry_lines : List (List ℕ × List ℕ) → List ℕ
entry_lines entries = flat_map entry_line entries

-- `table COUNT`, and a line for each key
abbrev pub table_text : List (List ℕ × List ℕ) → List ℕ
table_text entries = codes "table " ++ decimal (length entries) ++ codes "\n" ++ entry_lines entries
