use Rattle.std.proofs.Common.{ℕ, List, slice_index, refl, ap, ◌∙◌}
use Rattle.sha2.specs.Sha256.{digest_bytes, padded_message, sha256}
use Rattle.sha_lanes.specs.Lanes.{quad, lane}
use Rattle.sha_lanes.proofs.QuadLemmas.{slice_quad}
use Rattle.lmots_core.specs.Chains.{chain_step}
use Rattle.lmots_core.specs.Running.{step_message}
use Rattle.lmots_core.proofs.StepLemmas.{length-step}
use Rattle.lmots_core.proofs.steps.step4.Goals as goal

pub returns : goal.returns
unfolding chain_step
returns c = λ k lt.
    let id : List ℕ = c.args.id.now in
    let leaves : List ℕ = quad (λ _. c.args.q) in
    let at = λ (q j : ℕ) (value : List ℕ). step_message id q (slice_index c.args.chains j) (slice_index c.args.places j) value in
    let own = λ (j : ℕ). digest_bytes (lane c.columns.result j) 8 in
    let message = λ (j : ℕ). at (slice_index leaves j) j (own j) in
    c.hash4.ensures.messages (λ (j : ℕ). padded_message (message j)) message c.step_words.ensures k lt
    (length-step id (slice_index leaves k) (slice_index c.args.chains k) (slice_index c.args.places k) (lane c.columns.result k) c.told-id) refl
    ∙ ap (λ (q : ℕ). sha256 (at q k (own k))) (slice_quad (λ _. c.args.q) k lt)
    ∙ ap (λ (value : List ℕ). sha256 (at c.args.q k value)) (c.columns.ensures k lt)
