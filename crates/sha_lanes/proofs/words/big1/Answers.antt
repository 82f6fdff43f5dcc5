use Rattle.std.proofs.Common.{arith}
use Rattle.sha_lanes.proofs.QuadLemmas.{nested_three}
use Rattle.sha_lanes.proofs.words.big1.Goals as goal

pub returns : goal.returns
returns c = nested_three c.args.x c.right.result c.right-2.result c.right-3.result 6 5 14 (omega arith) c.fits-x.0 c.fits-x.1 c.right.ensures c.right-2.ensures c.right-3.ensures
