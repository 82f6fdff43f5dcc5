use Rattle.std.proofs.Common.{◌≡◌, take}
use Rattle.seq_table.specs.Batches.{values_written}
use Rattle.seq_table.proofs.room.Room.new.Given as goal

abbrev pub invariant-loop-request : goal.invariant-loop-request
invariant-loop-request l = l.places.items ≡ values_written (take l.request-index l.request-items)
