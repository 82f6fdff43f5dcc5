use Rattle.msg_spell.proofs.Joining.{joined}
use Rattle.msg_spell.proofs.requests.put_request_body.Goals as goal

pub returns : goal.returns
returns g c = joined (joined (joined c.in_ok-put_u8.ensures c.in_ok-put_u8-2.ensures) c.in_ok-put_u32.ensures) c.in_ok-put_op.ensures
