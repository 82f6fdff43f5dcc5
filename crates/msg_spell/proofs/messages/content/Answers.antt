use Rattle.std.proofs.Common.{[], ◌∙◌}
use Rattle.msg_spell.proofs.messages.content.Goals as goal

pub returns : goal.returns
returns c = c.from_vec.ensures ∙ c.in_ok-put_content.ensures.behind [] c.in_ok-out.ensures.items
