use Rattle.sha_lanes.proofs.HashLemmas.{initial_lane}
use Rattle.sha_lanes.proofs.states.initial4.Goals as goal

pub returns : goal.returns
returns c = λ i lt. initial_lane i lt
