-- The first evidence of the broken run, by computing.
use Rattle.std.proofs.Common.{◌≡◌, List, ℕ, Some, refl}
use Rattle.run_words.specs.Keyed.{is_same}
use Rattle.run_worlds.specs.Sights.{first_evidence}
use Rattle.broken_example.specs.Broken.{broken_run, forgery}

pub found : (sig : List ℕ) → first_evidence (broken_run sig) ≡ Some forgery
unfolding is_same
found sig = refl
