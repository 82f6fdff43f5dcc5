use Rattle.std.proofs.Common.{◌-◌, sym, ◌∙◌, arith}
use Rattle.msg_spell.proofs.Rising.{last_rises}
use Rattle.msg_spell.proofs.spelled.all_rise.Goals as goal

pub returns : goal.returns
returns g c =
    sym (c.loop-i.invariant ∙ last_rises g.T.Ordered.before g.T.Ordered.rank c.args.items.now (c.loop-i.i - 1) (omega arith))
