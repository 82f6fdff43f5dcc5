use Rattle.std.proofs.Common.{◌≡◌, map}
use Rattle.sim_sched.specs.Seats.{seen, AllOpen}
use Rattle.sim_sched.specs.Whole.{seat_trace}
use Rattle.sim_sched.proofs.simulating.collect.Given as goal

abbrev pub invariant-loop-seat : goal.invariant-loop-seat
invariant-loop-seat g l =
    AllOpen (map (seen g.P.Party.made g.P.Party.journal g.P.Party.shut) l.yielded)
    → l.traces ≡ map seat_trace (map (seen g.P.Party.made g.P.Party.journal g.P.Party.shut) l.yielded)
