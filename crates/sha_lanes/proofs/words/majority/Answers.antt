use Rattle.sha_lanes.proofs.QuadLemmas.{quad_of, majority_quad}
use Rattle.sha_lanes.proofs.words.majority.Goals as goal

pub returns : goal.returns
returns c =
    let same = majority_quad c.args.x c.args.y c.args.z in
    rw (quad_of c.args.x c.fits-x.0, quad_of c.args.y c.fits-y.0, quad_of c.args.z c.fits-z.0) same
