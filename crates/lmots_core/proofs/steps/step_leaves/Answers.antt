use Rattle.std.proofs.Common.{ℕ, List, slice_index, refl, ap, ◌∙◌}
use Rattle.sha2.specs.Sha256.{digest_bytes, padded_message, sha256}
use Rattle.sha_lanes.specs.Lanes.{quad, lane}
use Rattle.sha_lanes.proofs.QuadLemmas.{slice_quad}
use Rattle.lmots_core.specs.Chains.{chain_step}
use Rattle.lmots_core.specs.Running.{step_message}
use Rattle.lmots_core.proofs.StepLemmas.{length-step}
use Rattle.lmots_core.proofs.steps.step_leaves.Goals as goal

pub returns : goal.returns
unfolding chain_step
returns c = λ k lt.
    let id : List ℕ = c.args.id.now in
    let leaves : List ℕ = c.args.leaves in
    let own = λ (n : ℕ). digest_bytes (lane c.args.values.now n) 8 in
    let message = λ (n : ℕ). step_message id (slice_index leaves n) (slice_index (quad (λ _. c.args.i)) n) (slice_index (quad (λ _. c.args.j)) n) (own n) in
    c.hash_lanes.ensures.messages (λ (n : ℕ). padded_message (message n)) message c.step_words.ensures k lt
    (length-step id (slice_index leaves k) (slice_index (quad (λ _. c.args.i)) k) (slice_index (quad (λ _. c.args.j)) k) (lane c.args.values.now k) c.told-id) refl
    ∙ ap (λ (i : ℕ). sha256 (step_message id (slice_index leaves k) i (slice_index (quad (λ _. c.args.j)) k) (own k))) (slice_quad (λ _. c.args.i) k lt)
    ∙ ap (λ (j : ℕ). sha256 (step_message id (slice_index leaves k) c.args.i j (own k))) (slice_quad (λ _. c.args.j) k lt)
