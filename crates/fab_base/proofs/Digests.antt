-- The test on digests tells whether they are one.
use Rattle.std.proofs.Common.{◌≡◌, true, ap}
use Rattle.std.proofs.lemmas.Slice.Eq.{bytes_eq-Decides}
use Rattle.fab_base.specs.declared.ids.Hash32.{Hash32}
use Rattle.fab_base.specs.Digests.{same_digest}

pub is_same_digest : (d e : Hash32) → same_digest d e ≡ true → d ≡ e
is_same_digest d e h = ap (λ x. record { bytes = x }) ((bytes_eq-Decides d.bytes e.bytes).0 h)

pub same_digest_of : (d e : Hash32) → d ≡ e → same_digest d e ≡ true
same_digest_of d e h = (bytes_eq-Decides d.bytes e.bytes).1 (ap (λ x. x.bytes) h)
