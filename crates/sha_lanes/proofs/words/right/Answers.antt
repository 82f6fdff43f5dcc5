use Rattle.sha_lanes.proofs.QuadLemmas.{right_quad}
use Rattle.sha_lanes.proofs.words.right.Goals as goal

pub returns : goal.returns
returns c = right_quad c.args.x c.args.n c.fits-x.0 c.requires.low c.requires.high
