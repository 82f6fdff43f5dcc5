-- The run of a script, and the logs that it starts with.
use Rattle.std.specs.Prelude.{Bool, List, map}
use Rattle.fab_base.specs.declared.ids.ReplicaId.{ReplicaId}
use Rattle.fab_base.specs.declared.ids.Who.TheVariants.{Replica}
use Rattle.fault_script.specs.declared.scripts.Script.{Script}
use Rattle.lms_leaf.specs.Leaves.{Leaves}
use Rattle.replica_log.specs.Logs.{Log, fresh_log}
use Rattle.run_words.specs.Runs.{IsSchedule}
use Rattle.run_words.specs.declared.logs.Transcript.{Transcript}
use Rattle.script_keys.specs.Keys.{replicas_of, signer_of}
use Rattle.script_keys.specs.Rings.{ring_of}
use Rattle.run_worlds.specs.Scripts.{roster_of, script_rules}

-- the log of a replica of a script before the run
abbrev pub log_of : Script → ReplicaId → Log Leaves
log_of script i = fresh_log (roster_of script) (ring_of script) i (signer_of script (Replica i))

-- by id
abbrev pub logs_of : Script → List (Log Leaves)
logs_of script = map (log_of script) (replicas_of script)

-- the transcript of the one run that a script's rules fix
abbrev pub IsScheduleOf : Script → Transcript → Type 0
IsScheduleOf script t = (spent : Bool) × IsSchedule (script_rules script) t spent
