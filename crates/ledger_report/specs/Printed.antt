-- The report of a run in terms of its world (ours): what is printed is the ledgers that the headline speaks of.
use Rattle.std.specs.Prelude.{◌≡◌, ℕ, List, ◌++◌, length, flat_map}
use Rattle.fab_rules.specs.Diary.{ledger}
use Rattle.fab_rules.specs.Ledger.{run, start_of, state_after_blocks}
use Rattle.world_laws.specs.World.{replicas_of, common_ledger}
use Rattle.run_words.specs.declared.ends.End.{End}
use Rattle.run_words.specs.declared.logs.Transcript.{Transcript}
use Rattle.run_worlds.specs.Troubles.{fault_of}
use Rattle.run_worlds.specs.Worlds.{world_of}
use Rattle.run_worlds.specs.Endings.{IsOfLogs}
use Rattle.ledger_report.specs.Text.{table_text}
use Rattle.ledger_report.specs.Report.{head_line, replica_line, block_lines, end_line, report_text}

-- a line for each replica of the world, by id: for its ledger in the world, or how the script has it faulty
abbrev pub world_lines : Transcript → List ℕ
world_lines t =
    let w = world_of t in
    flat_map (λ i. replica_line (length w.roster.sizes) (fault_of t.script i) i (ledger (w.diary i))) (replicas_of w.roster)

-- these lines; the blocks and replies of the common ledger, and the table that it leaves; the end. How many correct replicas told of a block
-- is counted in the journals
abbrev pub world_text : Transcript → End → List ℕ
world_text t end =
    let w = world_of t in
    head_line w.roster.sizes
    ++ world_lines t
    ++ flat_map (block_lines t.traces) (run w.roster (common_ledger w))
    ++ table_text (state_after_blocks (start_of w.roster) (common_ledger w)).entries
    ++ end_line end

-- the report of a run is that of its world
abbrev pub PrintedLaw : Type 0
PrintedLaw = (t : Transcript) (end : End) → IsOfLogs t → report_text t end ≡ world_text t end
