use Rattle.std.proofs.Common.{◌≡◌, ℕ, List, [], ◌∷◌, slice_index, ◌∙◌}
use Rattle.sha_lanes.specs.Lanes.{quad, lane}
use Rattle.sha_lanes.proofs.QuadLemmas.{slice_quad}
use Rattle.sha_lanes.proofs.DigestLemmas.{each8}
use Rattle.lmots_core.proofs.StepLemmas.{digest_same}
use Rattle.lmots_core.proofs.abreast.secrets.Goals as goal

pub returns : goal.returns
returns c = λ k lt.
    let w : List ℕ = c.words_of.result in
    let each = λ (t : ℕ). slice_quad (λ _. slice_index w t) k lt in
    let words : List (List ℕ) =
    quad (λ _. slice_index w 0) ∷ quad (λ _. slice_index w 1) ∷ quad (λ _. slice_index w 2) ∷ quad (λ _. slice_index w 3)
    ∷ quad (λ _. slice_index w 4) ∷ quad (λ _. slice_index w 5) ∷ quad (λ _. slice_index w 6) ∷ quad (λ _. slice_index w 7) ∷ [] in
    digest_same (lane words k) w 8 (each8 (λ t. slice_index (lane words k) t ≡ slice_index w t)
    (each 0) (each 1) (each 2) (each 3) (each 4) (each 5) (each 6) (each 7)) ∙ c.words_of.ensures
