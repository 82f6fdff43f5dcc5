use Rattle.std.proofs.Common.{◌≡◌, ◌-◌, drop, map}
use Rattle.fab_rules.specs.Lists.{rises_by}
use Rattle.msg_spell.proofs.spelled.all_rise.Given as goal

abbrev pub invariant-loop-i : goal.invariant-loop-i
invariant-loop-i g l =
    rises_by g.T.Ordered.before (map g.T.Ordered.rank l.items) ≡ rises_by g.T.Ordered.before (map g.T.Ordered.rank (drop (l.i - 1) l.items))
