use Rattle.std.proofs.Common.{take}
use Rattle.std.specs.List.{flat_map}
use Rattle.msg_spell.specs.Pieces.{Gains}
use Rattle.msg_spell.proofs.spelled.put_all.Given as goal

abbrev pub invariant-loop-item : goal.invariant-loop-item
invariant-loop-item g l = Gains g.W.Writer.holds l.fn.out l.out (flat_map g.T.Spelled.spelling (take l.item-index l.items))
