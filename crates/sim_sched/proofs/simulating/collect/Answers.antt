use Rattle.sim_sched.specs.Seats.{seen}
use Rattle.sim_sched.proofs.Opening.{collected}
use Rattle.sim_sched.proofs.simulating.collect.Goals as goal

pub loop-seat-preserved : goal.loop-seat-preserved
loop-seat-preserved g c =
    collected (seen g.P.Party.made g.P.Party.journal g.P.Party.shut) c.loop-seat.yielded c.in-Some.seat c.loop-seat.traces c.push.new.self
    c.in_ok-trace.trace
    c.loop-seat.invariant c.in_ok-trace.ensures c.in_ok-push.ensures.ok
