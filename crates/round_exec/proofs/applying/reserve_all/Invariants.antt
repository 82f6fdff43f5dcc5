-- the blocks so far have their rooms, and their keys are held
use Rattle.std.proofs.Common.{◌≡◌, take}
use Rattle.std.specs.Map.{keys_of}
use Rattle.seq_table.specs.Holding.{state_of}
use Rattle.round_exec.specs.Done.{AreHeld, rooms_for}
use Rattle.round_exec.proofs.applying.reserve_all.Given as goal

abbrev pub invariant-loop-block : goal.invariant-loop-block
invariant-loop-block l = record {
  rooms : l.rooms.items ≡ rooms_for (take l.block-index l.blocks);
  held : AreHeld (keys_of l.table.held) (take l.block-index l.blocks);
  state : state_of l.table ≡ state_of l.fn.table;
}
