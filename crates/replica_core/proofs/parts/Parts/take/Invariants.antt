-- what was handed over so far has been taken over
use Rattle.replica_core.proofs.Outs.{TakenOver}
use Rattle.replica_core.proofs.parts.Parts.take.Given as goal

abbrev pub invariant-loop-out : goal.invariant-loop-out
invariant-loop-out l = TakenOver l.fn.self l.self l.fn.outs l.out-iterator.rest.items
