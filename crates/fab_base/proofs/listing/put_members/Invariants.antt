use Rattle.std.proofs.Common.{◌≡◌, ◌++◌}
use Rattle.fab_base.specs.Roster.{members_of}
use Rattle.fab_base.proofs.listing.put_members.Given as goal

abbrev pub invariant-loop-index : goal.invariant-loop-index
invariant-loop-index l = l.replicas ≡ l.fn.replicas ++ members_of l.cluster l.index
