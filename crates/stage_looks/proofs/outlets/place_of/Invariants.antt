use Rattle.stage_looks.proofs.Outgoing.{IsPassed}
use Rattle.stage_looks.proofs.outlets.place_of.Given as goal

abbrev pub invariant-loop-place : goal.invariant-loop-place
invariant-loop-place l = IsPassed l.fn.outlets l.fn.to l.place
