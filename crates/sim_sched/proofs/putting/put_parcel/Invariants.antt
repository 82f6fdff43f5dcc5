use Rattle.std.proofs.Common.{◌≡◌, map, replicate}
use Rattle.run_words.specs.Runs.{copy_of}
use Rattle.sim_sched.specs.Seats.{seen, receive}
use Rattle.sim_sched.proofs.putting.put_parcel.Given as goal

-- a copy for each time so far
abbrev pub invariant-loop : goal.invariant-loop
invariant-loop g l =
    map (seen g.P.Party.made g.P.Party.journal g.P.Party.shut) l.seats
    ≡ map (receive (replicate l.counter (copy_of l.fn.from l.parcel))) (map (seen g.P.Party.made g.P.Party.journal g.P.Party.shut) l.initial.seats)
