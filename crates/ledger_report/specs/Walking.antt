-- The lines of a ledger's blocks, as they are made in one walk.
use Rattle.std.specs.Prelude.{◌≡◌, ℕ, ◌*◌, List, ◌++◌, length, codes, decimal, flat_map}
use Rattle.fab_rules.specs.declared.blocks.Block.{Block}
use Rattle.fab_base.specs.Table.{State}
use Rattle.fab_rules.specs.Ledger.{RunBlock, run_from, state_after_blocks}
use Rattle.round_exec.specs.Book.{Book}
use Rattle.run_words.specs.declared.logs.Trace.{Trace}
use Rattle.ledger_report.specs.Text.{reply_lines, table_text}
use Rattle.ledger_report.specs.Report.{block_lines}
use Rattle.ledger_report.specs.Telling.{Telling, told_by}

-- the line of a block of which so many notes tell
abbrev pub block_line : Block → ℕ → List ℕ
block_line block notes =
    codes "block " ++ decimal block.round ++ codes " " ++ decimal block.cluster ++ codes " "
    ++ decimal (length block.batch) ++ codes " " ++ decimal notes ++ codes "\n"

-- the lines of a block, where this was told
abbrev pub lines_told : List Telling → RunBlock → List ℕ
lines_told tellings ran = block_line ran.block (told_by tellings ran) ++ reply_lines ran.block.batch ran.outcomes

-- each executed round has a block of each cluster
abbrev pub IsWhole : Book → Type 0
IsWhole b = length b.rounds.blocks ≡ b.rounds.executed * b.clusters

-- the lines of blocks that are applied from a state on, and the table that they leave
abbrev pub run_text : List Trace → State → List Block → List ℕ
run_text traces state blocks =
    flat_map (block_lines traces) (run_from state blocks) ++ table_text (state_after_blocks state blocks).entries
