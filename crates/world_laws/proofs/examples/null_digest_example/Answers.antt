use Rattle.std.proofs.Common.{refl}
use Rattle.sha2.specs.Sha256.{first_words, schedule, rounds, compress, hash_after, digest_bytes, sha256}
use Rattle.fab_rules.specs.Digests.{batch_digest}
use Rattle.world_laws.proofs.examples.null_digest_example.Goals as goal

pub returns : goal.returns
unfolding batch_digest first_words schedule rounds compress hash_after digest_bytes sha256
returns c = refl
