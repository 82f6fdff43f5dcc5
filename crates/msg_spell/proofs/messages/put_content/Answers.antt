use Rattle.fab_rules.specs.Spelling.{content_of}
use Rattle.msg_spell.proofs.Joining.{joined}
use Rattle.msg_spell.proofs.messages.put_content.Goals as goal

pub returns : goal.returns
unfolding content_of
returns g c = joined c.in_ok-put_u8.ensures c.in_ok-put_body.ensures
