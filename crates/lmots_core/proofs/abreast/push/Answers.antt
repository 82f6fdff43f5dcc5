use Rattle.std.proofs.Common.{◌≡◌, ◌+◌, ◌++◌, ◌<◌, ◌^◌, ℕ, List, length, slice_index, slice_set, sym, subst, arith}
use Rattle.std.specs.Int.{w32, to_be_bytes}
use Rattle.sha2.specs.Sha256.{IsAbsorbed, digest_bytes, initial_hash_256}
use Rattle.sha_lanes.specs.Lanes.{lane}
use Rattle.sha_lanes.proofs.QuadLemmas.{lane_below}
use Rattle.lmots_core.proofs.AbreastLemmas.{bytes_blocks, fits_after, length_after, pushed_full, pushed_short}
use Rattle.lmots_core.proofs.abreast.push.Goals as goal

pub returns-then-filled-lt15-clause-taken : goal.returns-then-filled-lt15-clause-taken
returns-then-filled-lt15-clause-taken c = λ m held k lt.
    let block : List (List ℕ) = c.args.block.now in
    let word : List ℕ = c.args.word in
    let f : ℕ = c.args.filled in
    let h = held k lt in
    let room : f < length block = omega (arith, c.told-block) in (
      pushed_short initial_hash_256 (lane c.args.state.now k) (m k) block word f k room (omega arith) h.0 h.1,
      length_after (m k) (slice_index word k) f (f + 1) h.1 (omega arith) c.requires,
      fits_after block word f k room (lane_below word c.fits-word.1 k) h.2,
    )

pub returns-else-filled-lt15-clause-taken : goal.returns-else-filled-lt15-clause-taken
returns-else-filled-lt15-clause-taken c = λ m held k lt.
    let block : List (List ℕ) = c.args.block.now in
    let word : List ℕ = c.args.word in
    let f : ℕ = c.args.filled in
    let filled : List (List ℕ) = slice_set block f word in
    let h = held k lt in
    let room : f < length block = omega (arith, c.told-block) in
    let full : f + 1 ≡ 16 = omega arith in
    let fits : (j : ℕ) → j < 4 → (t : ℕ) → t < 16 → slice_index (lane filled j) t < 2 ^ 32 =
    λ j low t under. fits_after block word f j room (lane_below word c.fits-word.1 j) (held j low).2 t (omega arith) in
    let state = c.absorb4.ensures (λ (j : ℕ). digest_bytes (lane filled j) 16) (bytes_blocks filled fits) k lt in (
      subst (λ (v : List ℕ). IsAbsorbed initial_hash_256 v (digest_bytes (lane filled k) 0) (m k ++ to_be_bytes w32 (slice_index word k))) (sym state)
          (pushed_full initial_hash_256 (lane c.args.state.now k) (digest_bytes (lane filled k) 0) (m k) block word f k room full h.0 h.1),
      length_after (m k) (slice_index word k) f 0 h.1 (omega arith) c.requires,
      λ t low. absurd (omega arith),
    )
