use Rattle.std.proofs.Common.{map, length, ◌-◌}
use Rattle.sim_sched.specs.Seats.{seen}
use Rattle.sim_sched.proofs.Walking.{WalksSo}
use Rattle.sim_sched.proofs.lines.walk_lines.Given as goal

abbrev pub invariant-loop-place : goal.invariant-loop-place
invariant-loop-place g l =
    WalksSo l.reader.members.now l.reader.ring.now l.ids (map (seen g.P.Party.made g.P.Party.journal g.P.Party.shut) l.initial.seats)
    (map (seen g.P.Party.made g.P.Party.journal g.P.Party.shut) l.seats) l.initial.lines.items l.lines.items l.before l.turns l.entries l.place

abbrev pub decreases-loop-place : goal.decreases-loop-place
decreases-loop-place g l = length l.lines.items - l.place
