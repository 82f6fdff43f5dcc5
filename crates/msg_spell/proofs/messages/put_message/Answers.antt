use Rattle.fab_rules.specs.Spelling.{spelling_of}
use Rattle.msg_spell.proofs.Joining.{joined}
use Rattle.msg_spell.proofs.messages.put_message.Goals as goal

pub returns : goal.returns
unfolding spelling_of
returns g c = joined (joined c.in_ok-put_u8.ensures c.in_ok-put_body.ensures) c.in_ok-put_seal.ensures
