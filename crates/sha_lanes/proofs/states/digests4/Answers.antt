use Rattle.std.proofs.Common.{◌≡◌, ℕ, List, [], ◌∷◌, ap, ◌∙◌}
use Rattle.sha2.specs.Sha256.{digest_bytes}
use Rattle.sha_lanes.specs.Lanes.{vector, lane}
use Rattle.sha_lanes.proofs.HashLemmas.{each4}
use Rattle.sha_lanes.proofs.states.digests4.Goals as goal

pub returns : goal.returns
returns c =
    let v : List (List ℕ) = c.args.state.now in
    let rows : List (List ℕ) = c.digest_of.result ∷ c.digest_of-2.result ∷ c.digest_of-3.result ∷ c.digest_of-4.result ∷ [] in
    each4 (λ i. vector rows i ≡ digest_bytes (lane v i) 8)
    (c.digest_of.ensures ∙ ap (λ (h : List ℕ). digest_bytes h 8) c.row.ensures)
    (c.digest_of-2.ensures ∙ ap (λ (h : List ℕ). digest_bytes h 8) c.row-2.ensures)
    (c.digest_of-3.ensures ∙ ap (λ (h : List ℕ). digest_bytes h 8) c.row-3.ensures)
    (c.digest_of-4.ensures ∙ ap (λ (h : List ℕ). digest_bytes h 8) c.row-4.ensures)
