use Rattle.msg_spell.proofs.Joining.{sealed}
use Rattle.msg_spell.proofs.requests.RequestSpelled.put.Goals as goal

pub returns : goal.returns
returns g c = sealed c.args.self.now.sig c.in_ok-put_request_body.ensures c.in_ok-put_signature.ensures
