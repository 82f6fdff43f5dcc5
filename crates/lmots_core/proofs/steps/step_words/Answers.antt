use Rattle.std.proofs.Common.{◌≡◌, ℕ, ◌*◌, ◌<◌, List, [], ◌∷◌, slice_index, sym, refl, ◌∙◌, arith}
use Rattle.sha2.specs.Sha256.{word_at, digest_bytes, padded_message}
use Rattle.sha_lanes.specs.Lanes.{quad, lane, vector}
use Rattle.sha_lanes.proofs.QuadLemmas.{lane_at, lane_below, slice_quad}
use Rattle.sha_lanes.proofs.RoundLemmas.{at_lane}
use Rattle.lmots_core.specs.Running.{step_message}
use Rattle.lmots_core.proofs.StepLemmas.{each16, block_list, block_words, straddled_lane, heads_lane}
use Rattle.lmots_core.proofs.steps.step_words.Goals as goal

pub returns : goal.returns
returns c = λ i lt.
    let id : List ℕ = c.args.id.now in
    let leaves : List ℕ = c.args.leaves in
    let chains : List ℕ = c.args.chains in
    let places : List ℕ = c.args.places in
    let values : List (List ℕ) = c.args.values.now in
    let own : List ℕ = lane values i in
    let q : ℕ = slice_index leaves i in
    let at : (j : ℕ) → slice_index (vector values j) i ≡ slice_index own j = λ j. sym (lane_at values i j) in
    let block : List ℕ = padded_message (step_message id q (slice_index chains i) (slice_index places i) (digest_bytes own 8)) in
    let word : (t : ℕ) → t < 16 → slice_index (block_list id q (slice_index chains i) (slice_index places i) own) t ≡ word_at block (4 * t) =
    block_words id q (slice_index chains i) (slice_index places i) own c.told-id (lane_below leaves c.fits-leaves.1 i) in
    let words : List (List ℕ) =
    c.id_words.result ∷ c.id_words-2.result ∷ c.id_words-3.result ∷ c.id_words-4.result ∷ leaves ∷ c.heads.result
    ∷ c.straddled.result ∷ c.straddled-2.result ∷ c.straddled-3.result ∷ c.straddled-4.result ∷ c.straddled-5.result
    ∷ c.straddled-6.result ∷ c.straddled-7.result ∷ c.straddled-8.result ∷ quad (λ _. 0) ∷ quad (λ _. 440) ∷ [] in
    each16 (λ t. slice_index (vector words t) i ≡ word_at block (4 * t))
    (at_lane c.id_words.result (λ _. word_at id 0) i lt c.id_words.ensures ∙ word 0 (omega arith))
    (at_lane c.id_words-2.result (λ _. word_at id 4) i lt c.id_words-2.ensures ∙ word 1 (omega arith))
    (at_lane c.id_words-3.result (λ _. word_at id 8) i lt c.id_words-3.ensures ∙ word 2 (omega arith))
    (at_lane c.id_words-4.result (λ _. word_at id 12) i lt c.id_words-4.ensures ∙ word 3 (omega arith))
    (word 4 (omega arith))
    (heads_lane c.heads.result (vector values 0) chains places (slice_index own 0) i lt c.heads.ensures (at 0) ∙ word 5 (omega arith))
    (straddled_lane c.straddled.result (vector values 0) (vector values 1) (slice_index own 0) (slice_index own 1) i lt c.straddled.ensures (at 0) (at 1) ∙ word 6 (omega arith))
    (straddled_lane c.straddled-2.result (vector values 1) (vector values 2) (slice_index own 1) (slice_index own 2) i lt c.straddled-2.ensures (at 1) (at 2) ∙ word 7 (omega arith))
    (straddled_lane c.straddled-3.result (vector values 2) (vector values 3) (slice_index own 2) (slice_index own 3) i lt c.straddled-3.ensures (at 2) (at 3) ∙ word 8 (omega arith))
    (straddled_lane c.straddled-4.result (vector values 3) (vector values 4) (slice_index own 3) (slice_index own 4) i lt c.straddled-4.ensures (at 3) (at 4) ∙ word 9 (omega arith))
    (straddled_lane c.straddled-5.result (vector values 4) (vector values 5) (slice_index own 4) (slice_index own 5) i lt c.straddled-5.ensures (at 4) (at 5) ∙ word 10 (omega arith))
    (straddled_lane c.straddled-6.result (vector values 5) (vector values 6) (slice_index own 5) (slice_index own 6) i lt c.straddled-6.ensures (at 5) (at 6) ∙ word 11 (omega arith))
    (straddled_lane c.straddled-7.result (vector values 6) (vector values 7) (slice_index own 6) (slice_index own 7) i lt c.straddled-7.ensures (at 6) (at 7) ∙ word 12 (omega arith))
    (straddled_lane c.straddled-8.result (vector values 7) (quad (λ _. 0x80000000)) (slice_index own 7) 0x80000000 i lt c.straddled-8.ensures (at 7) (slice_quad (λ _. 0x80000000) i lt) ∙ word 13 (omega arith))
    (at_lane (quad (λ _. 0)) (λ _. 0) i lt refl ∙ word 14 (omega arith))
    (at_lane (quad (λ _. 440)) (λ _. 440) i lt refl ∙ word 15 (omega arith))
