-- What executing answers.
use Rattle.std.specs.Prelude.{ℕ, List, Result, Ok, Err}
use Rattle.fab_rules.specs.declared.blocks.Block.{Block}
use Rattle.round_exec.specs.declared.ran.Ran.{Ran}
use Rattle.round_exec.specs.declared.ran.Ran.TheVariants.{Executed, NotYet}

-- by the blocks of the next round, or the first cluster whose certificate is missing
abbrev pub ran_of : ℕ → Result (List Block) ℕ → Ran
ran_of round (Ok blocks) = Executed round
ran_of round (Err cluster) = NotYet cluster
