use Rattle.lms_laws.proofs.HashLemmas.{ends_hash}
use Rattle.lms_laws.proofs.DisclosedLemmas.{signed_shows, goes_on, collision_follows}
use Rattle.lms_laws.proofs.disclosed.disclosed_law.Goals as goal

pub returns-clause-signed : goal.returns-clause-signed
returns-clause-signed c = signed_shows

pub returns-clause-unsigned : goal.returns-clause-unsigned
returns-clause-unsigned c = λ key q. ends_hash key.seed.id q _

pub returns-clause-onward : goal.returns-clause-onward
returns-clause-onward c = goes_on

pub returns-clause-collision : goal.returns-clause-collision
returns-clause-collision c = collision_follows
