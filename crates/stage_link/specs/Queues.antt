-- What a clause says of a stage queue and its passes.
use Rattle.std.specs.Prelude.{ℕ}
use Rattle.crossbeam_queue.specs.Passes.{Pass, view, IsPassOf, ruled_capacity}
use Rattle.stage_link.specs.declared.known.Known.{Known}
use Rattle.stage_link.specs.declared.queue.StageQueue.{StageQueue}

module _ {T : Type 0} where
  -- what the pass knows
  abbrev pub known : Pass T (Known T) → Known T
  known p = view p

  -- it is a pass of this queue, at rest
  abbrev pub IsQueuePass : StageQueue T → Pass T (Known T) → Type 0
  IsQueuePass q p = IsPassOf q.inner p

  -- how many items it holds at most
  abbrev pub room : StageQueue T → ℕ
  room q = ruled_capacity q.inner
