-- the shares so far and those to come are the whole
use Rattle.std.proofs.Common.{◌≡◌, ◌++◌}
use Rattle.cluster_talk.specs.Talking.{shares_to}
use Rattle.cluster_talk.proofs.entering.add_shares.Given as goal

abbrev pub invariant-loop-cert : goal.invariant-loop-cert
invariant-loop-cert l = l.items ++ shares_to l.members l.cluster l.cert-iterator.rest.items ≡ l.fn.items ++ shares_to l.members l.cluster l.fn.certs.items
