use Rattle.std.proofs.Common.{refl, arith}
use Rattle.sha_lanes.proofs.QuadLemmas.{quad_of, nested_two}
use Rattle.sha_lanes.proofs.words.small0.Goals as goal

pub returns : goal.returns
returns c =
    let both = nested_two c.args.x c.right.result c.right-2.result 7 11 (omega arith) c.fits-x.0 c.fits-x.1 c.right.ensures c.right-2.ensures in
    rw (both, quad_of c.args.x c.fits-x.0) refl
