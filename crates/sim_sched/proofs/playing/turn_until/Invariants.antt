use Rattle.std.proofs.Common.{map, ◌+◌, cond, nat_eq}
use Rattle.sim_sched.specs.Seats.{seen, copies}
use Rattle.sim_sched.proofs.Turns.{TurnsSo}
use Rattle.sim_sched.proofs.playing.turn_until.Given as goal

abbrev pub invariant-loop-entries : goal.invariant-loop-entries
invariant-loop-entries g l =
    TurnsSo l.reader.members.now l.reader.ring.now l.ids l.turns (map (seen g.P.Party.made g.P.Party.journal g.P.Party.shut) l.initial.seats)
    l.initial.generator l.before l.initial.lines.items (map (seen g.P.Party.made g.P.Party.journal g.P.Party.shut) l.seats) l.generator l.entries l.lines.items

-- each refused copy leaves the way
abbrev pub decreases-loop-entries : goal.decreases-loop-entries
decreases-loop-entries g l = cond (nat_eq l.entries l.before) (copies (map (seen g.P.Party.made g.P.Party.journal g.P.Party.shut) l.seats) + 1) 0
