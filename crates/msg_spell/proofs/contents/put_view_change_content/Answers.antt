use Rattle.std.proofs.Common.{refl}
use Rattle.fab_rules.specs.Spelling.{content_of}
use Rattle.msg_spell.proofs.Joining.{joined}
use Rattle.msg_spell.proofs.contents.put_view_change_content.Goals as goal

pub returns : goal.returns
unfolding content_of
returns c = (joined c.in_ok-put_u8.ensures c.in_ok-put_view_change_body.ensures).behind c.args.out.now.items refl
