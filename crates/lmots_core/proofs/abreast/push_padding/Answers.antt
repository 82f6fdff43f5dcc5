use Rattle.std.proofs.Common.{◌≡◌, ℕ, ◌+◌, ◌*◌, ◌-◌, ◌++◌, ◌/◌, List, length, replicate, slice_index, refl, ap, ◌∙◌, arith}
use Rattle.std.specs.Int.{w32, to_be_bytes}
use Rattle.sha2.specs.Sha256.{digest_bytes, hash_after, initial_hash_256, padded_message, sha256}
use Rattle.sha_lanes.specs.Lanes.{quad}
use Rattle.sha_lanes.proofs.QuadLemmas.{slice_quad}
use Rattle.lmots_core.proofs.AbreastLemmas.{halves_end, no_zeros, padded_end, taken_same, zeros_more}
use Rattle.lmots_core.proofs.abreast.push_padding.Goals as goal

pub zeros-init : goal.zeros-init
zeros-init c = (
  refl,
  omega (arith, c.push-from.ensures.filled),
  λ m held. taken_same c.push-from.new.state c.push-from.new.block c.push-from.result m (λ k. m k ++ replicate (4 * (c.push-from.result - c.push-from.result)) 0) held
      (λ k lt. no_zeros (m k) c.push-from.result),
)

pub zeros-preserved : goal.zeros-preserved
zeros-preserved c =
    let from = c.push-from.result in
    let n = c.zeros.counter in
    let zero : List ℕ = quad (λ _. 0) in
    let before = λ (m : ℕ → List ℕ) (k : ℕ). m k ++ replicate (4 * (n - from)) 0 in (
      omega (arith, c.push-at.ensures.filled, c.zeros.invariant.0),
      omega arith,
      λ m held. taken_same c.push-at.new.state c.push-at.new.block c.push-at.result (λ k. before m k ++ to_be_bytes w32 (slice_index zero k)) (λ k. m k ++ replicate (4 * (n + 1 - from)) 0)
          (c.push-at.ensures.taken (before m) (c.zeros.invariant.2 m held))
          (λ k lt. zeros_more (m k) from n (slice_index zero k) c.zeros.auto.counter (slice_quad (λ _. 0) k lt)),
    )

pub returns : goal.returns
unfolding sha256
returns c = λ m held k lt short long.
    let from = c.push-from.result in
    let bits : List ℕ = quad (λ _. c.args.bits) in
    let done : c.zeros.counter ≡ 15 = omega (arith, c.zeros.invariant.1) in
    let marked = λ (j : ℕ). held.words j ++ to_be_bytes w32 (slice_index c.halves.result j) in
    let zeros = λ (j : ℕ). marked j ++ replicate (4 * (c.zeros.counter - from)) 0 in
    let whole = λ (j : ℕ). zeros j ++ to_be_bytes w32 (slice_index bits j) in
    let first = c.push-from.ensures.taken held.words held.taken in
    let taken = c.push.ensures.taken zeros (c.zeros.invariant.2 marked first) k lt in
    let padded : whole k ≡ padded_message (m k) =
    ap (λ (n : ℕ). marked k ++ replicate (4 * (n - from)) 0 ++ to_be_bytes w32 (slice_index bits k)) done
    ∙ ap (λ (n : ℕ). marked k ++ replicate (4 * (15 - from)) 0 ++ to_be_bytes w32 n) (slice_quad (λ _. c.args.bits) k lt)
    ∙ padded_end (m k) (held.words k) (slice_index c.args.last k) (slice_index c.halves.result k) from c.args.bits (held.whole k lt)
    (halves_end c.halves.result c.args.last k lt c.halves.ensures) short (first k lt).1 (omega (arith, c.push-from.ensures.filled)) long c.ranges.bits.fits in
    ap (λ (h : List ℕ). digest_bytes h 8) taken.0.0
    ∙ ap (λ (p : List ℕ). digest_bytes (hash_after initial_hash_256 p (length p / 64)) 8) padded
