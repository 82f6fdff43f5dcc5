use Rattle.sha_lanes.proofs.QuadLemmas.{quad_of, choose_quad}
use Rattle.sha_lanes.proofs.words.choose.Goals as goal

pub returns : goal.returns
returns c =
    let same = choose_quad c.args.x c.args.y c.args.z c.fits-x.0 c.fits-y.0 c.fits-z.0 c.fits-x.1 c.fits-y.1 c.fits-z.1 in
    rw (quad_of c.args.x c.fits-x.0, quad_of c.args.y c.fits-y.0, quad_of c.args.z c.fits-z.0) same
