-- The digest of a batch (ours, by SHA-256 of FIPS 180-4). No law looks into it: that two batches don't share one is a premise.
use Rattle.std.specs.Prelude.{List}
use Rattle.sha2.specs.Sha256.{sha256}
use Rattle.fab_base.specs.declared.ids.Hash32.{Hash32}
use Rattle.fab_base.specs.declared.requests.Request.{Request}
use Rattle.fab_rules.specs.Spelling.{spelling_of_batch}

unfoldable pub batch_digest : List Request → Hash32
batch_digest batch = record { bytes = sha256 (spelling_of_batch batch) }
