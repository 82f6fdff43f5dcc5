use Rattle.std.proofs.Common.{map}
use Rattle.sim_sched.specs.Seats.{seen}
use Rattle.sim_sched.proofs.EachInTurn.{RoundSo}
use Rattle.sim_sched.proofs.playing.give_all.Given as goal

abbrev pub invariant-loop-place : goal.invariant-loop-place
invariant-loop-place g l =
    RoundSo l.reader.members.now l.reader.ring.now l.ids l.mover (map (seen g.P.Party.made g.P.Party.journal g.P.Party.shut) l.initial.seats)
    (map (seen g.P.Party.made g.P.Party.journal g.P.Party.shut) l.seats)
    l.before l.turns l.entries l.place l.moved
