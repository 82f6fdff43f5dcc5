-- The ledgers that traces come to when they are replayed.
use Rattle.std.specs.Prelude.{◌≡◌, ℕ, cond, List, [], length, map, Option, Some, None}
use Rattle.fab_base.specs.Limits.{Roster}
use Rattle.fab_rules.specs.declared.blocks.Block.{Block}
use Rattle.replica_core.specs.Cores.{book_of}
use Rattle.run_words.specs.declared.logs.Trace.{Trace}
use Rattle.replica_log.specs.Replayed.{IsReplayable, state_after, core_after}
use Rattle.world_laws.specs.World.{longest}
use Rattle.run_worlds.specs.Worlds.{is_correct_one}
use Rattle.ledger_report.specs.Report.{ledger_line, replica_line}
use Rattle.ledger_report.specs.Walking.{IsWhole}

-- ---- one trace

abbrev pub ledger_after : Roster → Trace → List Block
ledger_after r t = (state_after r t).rounds.blocks

-- the trace can be replayed, and its rounds are whole
pub record HasLedger (r : Roster) (t : Trace) : Type 0 where
  pub replayable : IsReplayable r t
  pub whole : IsWhole (book_of (core_after r t))

-- the line of its ledger
abbrev pub ledger_text : Roster → Trace → List ℕ
ledger_text r t = ledger_line (length r.sizes) t.id (ledger_after r t)

-- the line of its replica
abbrev pub replica_text : Roster → Trace → List ℕ
replica_text r t = replica_line (length r.sizes) t.fault t.id (ledger_after r t)

-- ---- the longest ledger

-- what counts of a trace: its ledger, but for that of a faulty replica
abbrev pub ledger_counted : Roster → Trace → List Block
ledger_counted r t = cond (is_correct_one t) (ledger_after r t) []

-- it is the ledger of a trace that can be replayed; of none, the empty one
abbrev pub IsLedgerOf : Roster → List Block → Option Trace → Type 0
IsLedgerOf r blocks None = blocks ≡ []
IsLedgerOf r blocks (Some t) = HasLedger r t × (ledger_after r t ≡ blocks)

abbrev pub longest_after : Roster → List Trace → List Block
longest_after r traces = longest (map (ledger_counted r) traces)
