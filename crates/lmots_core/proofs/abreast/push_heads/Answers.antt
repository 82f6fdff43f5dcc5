use Rattle.std.proofs.Common.{◌≡◌, ◌<◌, ℕ, List, [], ◌∷◌, ◌++◌, slice_index, refl, arith}
use Rattle.std.specs.Int.{w32, to_be_bytes}
use Rattle.sha2.specs.Sha256.{word_at, digest_bytes, initial_hash_256}
use Rattle.sha_lanes.specs.Lanes.{quad, lane}
use Rattle.sha_lanes.proofs.QuadLemmas.{slice_quad}
use Rattle.sha_lanes.proofs.RoundLemmas.{at_lane}
use Rattle.lmots_core.proofs.AbreastLemmas.{absorbed_none, head_whole, id_bytes}
use Rattle.lmots_core.proofs.abreast.push_heads.Goals as goal

pub returns : goal.returns
returns c =
    let id : List ℕ = c.args.id.now in
    let add = λ (w : List ℕ) (m : ℕ → List ℕ) (k : ℕ). m k ++ to_be_bytes w32 (slice_index w k) in
    let at = λ (w : List ℕ) (b k : ℕ) (lt : k < 4) (e : w ≡ quad (λ _. word_at id b)). at_lane w (λ _. word_at id b) k lt e in
    let none : ℕ → List ℕ = λ _. [] in
    let m1 : ℕ → List ℕ = add c.id_words.result none in
    let m2 : ℕ → List ℕ = add c.id_words-2.result m1 in
    let m3 : ℕ → List ℕ = add c.id_words-3.result m2 in
    let m4 : ℕ → List ℕ = add c.id_words-4.result m3 in
    record {
      sized = c.told-id;
      room = omega (arith, c.push.ensures.filled);
      held = record {
        words = add c.args.leaves m4;
        taken = c.push.ensures.taken m4 (c.push-filled-4.ensures.taken m3 (c.push-filled-3.ensures.taken m2 (c.push-filled-2.ensures.taken m1 (c.push-filled.ensures.taken none
            (λ k lt. (absorbed_none initial_hash_256 (lane c.args.state.now k) (digest_bytes (lane c.args.block.now k) 0) (c.requires k lt), refl, λ t low. absurd (omega arith)))))));
        whole = λ k lt.
            head_whole id (slice_index c.id_words.result k) (slice_index c.id_words-2.result k) (slice_index c.id_words-3.result k) (slice_index c.id_words-4.result k) (slice_index c.args.leaves k) _
            (id_bytes id (slice_index c.id_words.result k ∷ slice_index c.id_words-2.result k ∷ slice_index c.id_words-3.result k ∷ slice_index c.id_words-4.result k ∷ []) c.told-id c.fits-id
            (at c.id_words.result 0 k lt c.id_words.ensures) (at c.id_words-2.result 4 k lt c.id_words-2.ensures)
            (at c.id_words-3.result 8 k lt c.id_words-3.ensures) (at c.id_words-4.result 12 k lt c.id_words-4.ensures))
            (slice_quad (λ _. 0x8080) k lt);
      };
    }
