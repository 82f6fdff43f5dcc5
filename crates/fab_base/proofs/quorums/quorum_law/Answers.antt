use Rattle.fab_base.proofs.Counting.{quorums_meet}
use Rattle.fab_base.proofs.quorums.quorum_law.Goals as goal

pub returns : goal.returns
returns c = quorums_meet
