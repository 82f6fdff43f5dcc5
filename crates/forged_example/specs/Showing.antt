-- What is shown of a transcript.
use Rattle.std.specs.Prelude.{◌≡◌, Option, Some, None}
use Rattle.run_words.specs.declared.ends.End.{End}
use Rattle.run_words.specs.declared.ends.Evidence.{Evidence}
use Rattle.run_words.specs.declared.logs.Transcript.{Transcript}
use Rattle.ledger_report.specs.Report.{report_text}
use Rattle.forged_example.specs.declared.endings.Ending.{Ending}

-- where there is evidence, the report of a run that it broke, and the status of that; else nothing
abbrev pub IsShown : Transcript → Option Evidence → Option Ending → Type 0
IsShown t None None = Unit {0}
IsShown t (Some evidence) (Some ending) = (ending.text ≡ report_text t (End.Broken evidence)) × (ending.status ≡ 9)
IsShown t found ending = ⊥
