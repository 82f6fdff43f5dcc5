use Rattle.std.proofs.Common.{[], refl}
use Rattle.msg_spell.proofs.messages.spelled_length.Goals as goal

pub returns : goal.returns
returns c = c.in-Ok.ensures.behind [] refl
