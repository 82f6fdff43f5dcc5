use Rattle.std.proofs.Common.{◌≡◌, take}
use Rattle.replica_log.proofs.Following.{replayed}
use Rattle.replica_log.proofs.replaying.redo_all.Given as goal

abbrev pub invariant-loop-entry : goal.invariant-loop-entry
invariant-loop-entry l = l.replica ≡ replayed l.members l.fn.replica.me (take l.entry-index l.journal)
