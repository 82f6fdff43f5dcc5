use Rattle.std.proofs.Common.{◌+◌}
use Rattle.std.proofs.lemmas.List.FromFn.{length-map-range_with_len}
use Rattle.fab_base.specs.Quorums.{greatest_faulty}
use Rattle.geo_share.specs.Receiving.{receiver}
use Rattle.geo_share.proofs.Correct.{one_is_correct, are_in_cluster}
use Rattle.geo_share.proofs.law.receivers_law.Goals as goal

pub returns-clause-number : goal.returns-clause-number
returns-clause-number c = λ n round. length-map-range_with_len (receiver n round) 0 (greatest_faulty n + 1)

pub returns-clause-members : goal.returns-clause-members
returns-clause-members c = are_in_cluster

pub returns-clause-correct : goal.returns-clause-correct
returns-clause-correct c = one_is_correct
