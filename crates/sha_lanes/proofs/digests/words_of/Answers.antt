use Rattle.std.proofs.Common.{◌≡◌, ◌*◌, ℕ, List, [], ◌∷◌, slice_index, ◌∙◌, arith}
use Rattle.std.specs.Int.{w32, to_be_bytes}
use Rattle.std.proofs.lemmas.List.{take_all}
use Rattle.sha_lanes.proofs.DigestLemmas.{each8, four, bytes_at, digest_from}
use Rattle.sha_lanes.proofs.digests.words_of.Goals as goal

pub returns : goal.returns
returns c =
    let d : List ℕ = c.args.digest.now in
    let w : List ℕ = c.load.result ∷ c.load-2.result ∷ c.load-3.result ∷ c.load-4.result ∷ c.load-5.result ∷ c.load-6.result ∷ c.load-7.result ∷ c.load-8.result ∷ [] in
    digest_from d w 8 (omega (arith, c.told-digest)) (each8 (λ k. to_be_bytes w32 (slice_index w k) ≡ four d (4 * k))
    (bytes_at d 0 _ c.fits-digest c.load.ensures) (bytes_at d 4 _ c.fits-digest c.load-2.ensures)
    (bytes_at d 8 _ c.fits-digest c.load-3.ensures) (bytes_at d 12 _ c.fits-digest c.load-4.ensures)
    (bytes_at d 16 _ c.fits-digest c.load-5.ensures) (bytes_at d 20 _ c.fits-digest c.load-6.ensures)
    (bytes_at d 24 _ c.fits-digest c.load-7.ensures) (bytes_at d 28 _ c.fits-digest c.load-8.ensures))
    ∙ take_all 32 d (omega (arith, c.told-digest))
