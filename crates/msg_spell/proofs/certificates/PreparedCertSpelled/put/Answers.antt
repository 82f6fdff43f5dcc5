use Rattle.msg_spell.proofs.Joining.{joined}
use Rattle.msg_spell.proofs.certificates.PreparedCertSpelled.put.Goals as goal

pub returns : goal.returns
returns g c = joined (joined (joined c.in_ok-put_u64.ensures c.in_ok-put_u64-2.ensures) c.in_ok-put_batch.ensures) c.in_ok-put_votes.ensures
