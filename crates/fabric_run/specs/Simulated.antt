-- What `sim` does (ours): it runs a script's replicas, sees how the run ended, and writes the report of the run.
use Rattle.std.specs.Prelude.{◌≡◌, ◌⊎◌, ℕ, List, []}
use Rattle.fab_io.specs.Devices.{Supply}
use Rattle.fault_script.specs.declared.scripts.Script.{Script}
use Rattle.world_laws.specs.Safety.{IsSafe}
use Rattle.run_words.specs.declared.ends.End.{End}
use Rattle.run_words.specs.declared.ends.Evidence.{Evidence}
use Rattle.run_words.specs.declared.logs.Transcript.{Transcript}
use Rattle.run_worlds.specs.Worlds.{world_of}
use Rattle.run_worlds.specs.Endings.{IsRunOf, IsEnd}
use Rattle.script_sim.specs.Schedules.{IsScheduleOf}
use Rattle.audit_laws.specs.Witnesses.{IsClash}
use Rattle.plain_laws.specs.Plain.{HasSpent, HasTimedOut}
use Rattle.budget_laws.specs.Budgets.{FitsScript}
use Rattle.ledger_report.specs.Report.{report_text}
use Rattle.ledger_report.specs.Printed.{world_text}
use Rattle.fabric_run.specs.declared.exits.Exit.{Exit}
use Rattle.fabric_run.specs.declared.exits.Exit.TheVariants.{Done, Usage, ReadFault, TooLong, BadScript, Stalled, Spent, Broken, NoMemory}
use Rattle.fabric_run.specs.Exits.{Seen, GaveScript, IsRun}

-- the exit of a run that ended so
abbrev pub exit_of : End → Exit
exit_of End.Done = Done
exit_of (End.Stalled client stamp) = Stalled client stamp
exit_of (End.Spent entries) = Spent entries
exit_of (End.Broken evidence) = Broken evidence

-- what `sim` makes of a script, where the transcript is kept: the transcript is that of the script's one run, the exit is how this run
-- ended, and the text is the report of the run and its end
abbrev pub SimMakes : Transcript → Script → Exit → List ℕ → Type 0
SimMakes kept script exit text =
    IsScheduleOf script kept × ((end : End) × IsEnd kept end × (exit ≡ exit_of end) × (text ≡ report_text kept end))

-- the transcript of the script's one run, how it ended, and the report of it
pub record IsSimulation (script : Script) (t : Transcript) (end : End) (text : List ℕ) : Type 0 where
  pub schedule : IsScheduleOf script t
  pub run : IsRunOf script t
  pub ended : IsEnd t end
  pub reported : text ≡ report_text t end

-- the transcript is that of the one run of the script that was read, and this run is lawful
abbrev pub HasRun : Supply → Supply → Transcript → Type 0
HasRun old new kept =
    (script : Script) × GaveScript old new script × (kept.script ≡ script) × IsScheduleOf script kept × IsRunOf script kept

-- what is kept by each exit: the transcript of the run, or the one before where nothing ran to its end
abbrev pub KeepsRun : Supply → Supply → Transcript → Transcript → Exit → Type 0
KeepsRun old new before after Usage = after ≡ before
KeepsRun old new before after ReadFault = after ≡ before
KeepsRun old new before after TooLong = after ≡ before
KeepsRun old new before after (BadScript bad) = after ≡ before
KeepsRun old new before after NoMemory = after ≡ before
KeepsRun old new before after exit = HasRun old new after

-- where the report says that the run ended done, stalled or cut off, what the headline promises of a world holds of the run's: the
-- ledgers of the replicas are prefixes of one, and so on
abbrev pub IsSafeAt : Transcript → Exit → Type 0
IsSafeAt kept Done = IsSafe (world_of kept)
IsSafeAt kept (Stalled client stamp) = IsSafe (world_of kept)
IsSafeAt kept (Spent entries) = IsSafe (world_of kept)
IsSafeAt kept exit = Unit {0}

-- where a run was made, its report is that of its world, whatever its end: what is printed is the ledgers that the headline speaks of
abbrev pub IsPrintedAt : Transcript → Exit → Type 0
IsPrintedAt kept Usage = Unit {0}
IsPrintedAt kept ReadFault = Unit {0}
IsPrintedAt kept TooLong = Unit {0}
IsPrintedAt kept (BadScript bad) = Unit {0}
IsPrintedAt kept NoMemory = Unit {0}
IsPrintedAt kept exit = (end : End) → report_text kept end ≡ world_text kept end

-- why a run didn't end done: some replica used up its key, or one was timed out; the run has just as many entries as its script allows; two
-- different batches have one digest. Where the script has no timeout lines, a stalled run has a used-up key, and neither it nor one that was cut
-- off comes where keys and entries are enough for the script. Nothing in a run is forged
abbrev pub HasCauseAt : Transcript → Exit → Type 0
HasCauseAt kept (Stalled client stamp) = (HasSpent kept ⊎ HasTimedOut kept) × (kept.script.timeouts ≡ [] → HasSpent kept × ¬ FitsScript kept.script)
HasCauseAt kept (Spent entries) = (entries ≡ kept.script.turns) × (kept.script.timeouts ≡ [] → ¬ FitsScript kept.script)
HasCauseAt kept (Broken (Evidence.Clash digest first second)) = IsClash kept digest first second
HasCauseAt kept (Broken (Evidence.Forged i place signer)) = ⊥
HasCauseAt kept exit = Unit {0}

-- a run of `sim` from one moment to the other, with the transcripts that were and are kept, and how it ended
pub record IsSimulated (before after : Transcript) (old new : Seen) (exit : Exit) : Type 0 where
  pub run : IsRun (SimMakes after) old new exit
  pub kept : KeepsRun old.source new.source before after exit
  pub safe : IsSafeAt after exit
  pub printed : IsPrintedAt after exit
  pub cause : HasCauseAt after exit
