use Rattle.std.proofs.Common.{◌≡◌, ◌/◌, ◌^◌, [], ◌∷◌, slice_index}
use Rattle.sha2.specs.Sha256.{add32}
use Rattle.sha_lanes.specs.Lanes.{quad}
use Rattle.sha_lanes.proofs.QuadLemmas.{quad_of, lane_below}
use Rattle.lmots_core.specs.Running.{head_word}
use Rattle.lmots_core.proofs.steps.heads.Goals as goal

pub returns : goal.returns
returns c =
    let x = c.args.first in
    let same : add32 c.number.result (slice_index x 0 / 2 ^ 24) ∷ add32 c.number-2.result (slice_index x 1 / 2 ^ 24)
    ∷ add32 c.number-3.result (slice_index x 2 / 2 ^ 24) ∷ add32 c.number-4.result (slice_index x 3 / 2 ^ 24) ∷ []
    ≡ quad (λ k. head_word (slice_index c.args.chains k) (slice_index c.args.places k) (slice_index x k)) =
    λ i. c.number.ensures (slice_index x 0) (lane_below x c.fits-first.1 0) i ∷ c.number-2.ensures (slice_index x 1) (lane_below x c.fits-first.1 1) i
    ∷ c.number-3.ensures (slice_index x 2) (lane_below x c.fits-first.1 2) i ∷ c.number-4.ensures (slice_index x 3) (lane_below x c.fits-first.1 3) i ∷ [] in
    rw (quad_of c.args.first c.fits-first.0) same
