use Rattle.msg_spell.proofs.Joining.{joined}
use Rattle.msg_spell.proofs.fields.put_replica.Goals as goal

pub returns : goal.returns
returns g c = joined c.in_ok-put_u8.ensures c.in_ok-put_u8-2.ensures
