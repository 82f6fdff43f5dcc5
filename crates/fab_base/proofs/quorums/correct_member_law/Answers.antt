use Rattle.fab_base.proofs.Correct.{correct_member, quorum_is_enough}
use Rattle.fab_base.proofs.quorums.correct_member_law.Goals as goal

pub returns : goal.returns
returns c = record { enough = correct_member; quorum = quorum_is_enough }
