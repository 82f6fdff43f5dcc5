-- Replicas at which no event would make an entry.
use Rattle.std.specs.Prelude.{ℕ, nat_le, Bool, not, ◌&&◌, ◌||◌, length}
use Rattle.fab_base.specs.declared.ids.ReplicaId.{ReplicaId}
use Rattle.fab_base.specs.declared.ids.Who.TheVariants.{Replica}
use Rattle.fab_machine.specs.Step.{first}
use Rattle.fault_script.specs.declared.scripts.Script.{Script}
use Rattle.replica_core.specs.Cores.{Machine, moves_by}
use Rattle.replica_core.specs.declared.events.Mover.{Mover}
use Rattle.run_words.specs.Journal.{needs_leaf}
use Rattle.run_words.specs.declared.logs.Trace.{Trace}
use Rattle.replica_log.specs.Replayed.{core_after}
use Rattle.script_keys.specs.Keys.{leaves_of}
use Rattle.run_worlds.specs.Scripts.{roster_of}

-- the replica has so many leaves, of which it used so many: Emit is still behind a used-up key. Timeout must be still where it is asked about
abbrev pub is_still_at : ReplicaId → Machine → ℕ → ℕ → Bool → Bool
is_still_at me core leaves used timeouts =
    not (moves_by core Mover.Batch)
    && (not (moves_by core Mover.Nudge)
    && (not (moves_by core Mover.Execute)
    && (not (moves_by core Mover.Checkpoint)
    && ((not (moves_by core Mover.Emit) || (needs_leaf me (first core.state) && nat_le leaves used))
    && not (timeouts && moves_by core Mover.Timeout)))))

-- the replica that left the trace
abbrev pub is_still : Script → Bool → Trace → Bool
is_still script timeouts t =
    is_still_at t.id (core_after (roster_of script) t) (leaves_of script (Replica t.id)) (length t.signed) timeouts
