use Rattle.msg_spell.proofs.Joining.{sealed}
use Rattle.msg_spell.proofs.votes.put_vote.Goals as goal

pub returns : goal.returns
returns g c = sealed c.args.vote.now.sig c.in_ok-put_vote_body.ensures c.in_ok-put_signature.ensures
