use Rattle.sha_lanes.proofs.DigestLemmas.{lane_of}
use Rattle.sha_lanes.proofs.states.row.Goals as goal

pub returns : goal.returns
returns c = lane_of c.args.v.now c.args.k c.told-v
