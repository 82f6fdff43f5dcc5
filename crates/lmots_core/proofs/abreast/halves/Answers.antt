use Rattle.sha_lanes.proofs.QuadLemmas.{quad_of}
use Rattle.lmots_core.proofs.AbreastLemmas.{halves_quad}
use Rattle.lmots_core.proofs.abreast.halves.Goals as goal

pub returns : goal.returns
returns c =
    let same = halves_quad c.args.x c.args.y c.fits-x.1 c.fits-y.1 in
    rw (quad_of c.args.x c.fits-x.0, quad_of c.args.y c.fits-y.0) same
