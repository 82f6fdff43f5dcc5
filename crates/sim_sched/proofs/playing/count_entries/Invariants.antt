use Rattle.std.proofs.Common.{◌≡◌, map, take}
use Rattle.sim_sched.specs.Seats.{seen, numbers_of}
use Rattle.sim_sched.proofs.playing.count_entries.Given as goal

abbrev pub invariant-loop-seat : goal.invariant-loop-seat
invariant-loop-seat g l =
    l.counts ≡ numbers_of (map (seen g.P.Party.made g.P.Party.journal g.P.Party.shut) (take l.seat-index l.seats))
