use Rattle.std.proofs.Common.{map, ◌+◌, ◌-◌}
use Rattle.sim_sched.specs.Seats.{seen}
use Rattle.sim_sched.proofs.Turns.{PlaysSo}
use Rattle.sim_sched.proofs.playing.play.Given as goal

abbrev pub invariant-loop-entries : goal.invariant-loop-entries
invariant-loop-entries g l =
    PlaysSo l.reader.members.now l.reader.ring.now l.ids l.turns
    (map (seen g.P.Party.made g.P.Party.journal g.P.Party.shut) l.initial.seats) l.initial.generator l.initial.lines.items l.initial.patience l.initial.moments
    (map (seen g.P.Party.made g.P.Party.journal g.P.Party.shut) l.seats) l.generator l.entries l.lines.items l.patience l.moments

-- each turn makes an entry, or uses a unit of patience, or the run ends
abbrev pub decreases-loop-entries : goal.decreases-loop-entries
decreases-loop-entries g l = l.turns - l.entries + l.patience
