use Rattle.std.proofs.Common.{◌≡◌, ◌<◌, ℕ, slice_index}
use Rattle.sha2.specs.Sha256.{digest_bytes}
use Rattle.sha_lanes.specs.Lanes.{lane}
use Rattle.lmots_core.specs.Chains.{chain, chain_start}
use Rattle.lmots_core.proofs.abreast.ends.Given as goal

abbrev pub invariant-steps : goal.invariant-steps
invariant-steps l =
    (k : ℕ) → k < 4 → digest_bytes (lane l.values k) 8 ≡ chain l.seed.id (slice_index l.leaves k) l.i 0 l.j (chain_start l.seed (slice_index l.leaves k) l.i)
