-- none of the clusters so far has one, but perhaps the own
use Rattle.round_exec.proofs.Knowing.{NoneUpto}
use Rattle.round_exec.proofs.gathering.knows_others.Given as goal

abbrev pub invariant-loop-before : goal.invariant-loop-before
invariant-loop-before l = NoneUpto l.own l.certificates l.round l.before
