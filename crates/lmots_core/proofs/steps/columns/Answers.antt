use Rattle.std.proofs.Common.{◌≡◌, ℕ, List, [], ◌∷◌, slice_index}
use Rattle.sha_lanes.specs.Lanes.{lane, vector}
use Rattle.sha_lanes.proofs.RoundLemmas.{at_lane}
use Rattle.sha_lanes.proofs.DigestLemmas.{each8}
use Rattle.lmots_core.proofs.StepLemmas.{digest_same}
use Rattle.lmots_core.proofs.steps.columns.Goals as goal

pub returns : goal.returns
returns c = λ k lt.
    let values : List (List ℕ) = c.args.values.now in
    let row : List ℕ = vector values k in
    let words : List (List ℕ) =
    c.column.result ∷ c.column-2.result ∷ c.column-3.result ∷ c.column-4.result ∷ c.column-5.result ∷ c.column-6.result ∷ c.column-7.result ∷ c.column-8.result ∷ [] in
    digest_same (lane words k) row 8 (each8 (λ t. slice_index (lane words k) t ≡ slice_index row t)
    (at_lane c.column.result (λ j. slice_index (vector values j) 0) k lt c.column.ensures)
    (at_lane c.column-2.result (λ j. slice_index (vector values j) 1) k lt c.column-2.ensures)
    (at_lane c.column-3.result (λ j. slice_index (vector values j) 2) k lt c.column-3.ensures)
    (at_lane c.column-4.result (λ j. slice_index (vector values j) 3) k lt c.column-4.ensures)
    (at_lane c.column-5.result (λ j. slice_index (vector values j) 4) k lt c.column-5.ensures)
    (at_lane c.column-6.result (λ j. slice_index (vector values j) 5) k lt c.column-6.ensures)
    (at_lane c.column-7.result (λ j. slice_index (vector values j) 6) k lt c.column-7.ensures)
    (at_lane c.column-8.result (λ j. slice_index (vector values j) 7) k lt c.column-8.ensures))
