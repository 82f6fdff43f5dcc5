use Rattle.std.proofs.Common.{◌≡◌, take}
use Rattle.vote_certs.specs.Counting.{senders_below}
use Rattle.vote_certs.proofs.counting.first_senders.Given as goal

abbrev pub invariant-loop-place : goal.invariant-loop-place
invariant-loop-place g l = l.senders ≡ take l.most (senders_below g.V.PartialEq.eq l.votes l.value l.place)
