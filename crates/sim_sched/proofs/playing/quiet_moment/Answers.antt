use Rattle.std.proofs.Common.{◌≡◌, ◌-◌, suc, true, false, map, arith}
use Rattle.sim_sched.specs.Seats.{seen}
use Rattle.sim_sched.proofs.QuietMoments.{noted_at, quiet_cut, quiet_moved, quiet_still, quiet_timed_cut, quiet_timed}
use Rattle.sim_sched.proofs.playing.quiet_moment.Goals as goal
use Rattle.sim_sched.proofs.playing.quiet_moment.Goals.{then-nudged-via-then-nudged, then-nudged-via-else-nudged+then-nudged-2, then-nudged-via-else-nudged+else-nudged-2+then-patience-eq0}

pub returns-then-nudged-3-clause-quieted : goal.returns-then-nudged-3-clause-quieted
returns-then-nudged-3-clause-quieted g c =
    let f = seen g.P.Party.made g.P.Party.journal g.P.Party.shut in
    quiet_cut c.args.turns (map f c.args.seats.now) (map f c.give_all.new.seats) c.args.before c.args.patience.now c.args.moments.now c.push.new.self
    c.in_ok-nudged.nudged c.in_ok-nudged.ensures.rounded c.if-nudged-3.true
    (noted_at (map f c.args.seats.now) false c.in_ok-entries.entries c.args.moments.now c.push.new.self c.in_ok-entries.ensures c.in_ok-push.ensures.ok)

pub returns-then-nudged-4-clause-quieted : goal.returns-then-nudged-4-clause-quieted
returns-then-nudged-4-clause-quieted g c =
    let f = seen g.P.Party.made g.P.Party.journal g.P.Party.shut in
    quiet_moved c.args.turns (map f c.args.seats.now) (map f c.give_all.new.seats) c.args.before c.args.patience.now c.args.moments.now c.push.new.self
    c.in_ok-nudged.nudged c.in_ok-nudged.ensures.rounded c.if-nudged-3.false c.if-nudged-4.true
    (noted_at (map f c.args.seats.now) false c.in_ok-entries.entries c.args.moments.now c.push.new.self c.in_ok-entries.ensures c.in_ok-push.ensures.ok)

pub returns-else-nudged-4-clause-quieted : goal.returns-else-nudged-4-clause-quieted
returns-else-nudged-4-clause-quieted g c =
    let f = seen g.P.Party.made g.P.Party.journal g.P.Party.shut in
    let none : c.args.patience.now ≡ 0 = elim c.then-nudged.branch [
      | then-nudged-via-then-nudged w ↦ let a = w.if-nudged.true in let b = c.if-nudged-3.false in absurd cc
      | then-nudged-via-else-nudged+then-nudged-2 w ↦ let a = w.if-nudged-2.true in let b = c.if-nudged-4.false in absurd cc
      | then-nudged-via-else-nudged+else-nudged-2+then-patience-eq0 w ↦ w.if-patience-eq0.true
    ] in
    quiet_still c.args.turns (map f c.args.seats.now) (map f c.give_all.new.seats) c.args.before c.args.patience.now c.args.moments.now c.push.new.self
    c.in_ok-nudged.nudged c.in_ok-nudged.ensures.rounded c.if-nudged-3.false c.if-nudged-4.false none
    (noted_at (map f c.args.seats.now) false c.in_ok-entries.entries c.args.moments.now c.push.new.self c.in_ok-entries.ensures c.in_ok-push.ensures.ok)

pub returns-then-timed-clause-quieted : goal.returns-then-timed-clause-quieted
returns-then-timed-clause-quieted g c =
    let f = seen g.P.Party.made g.P.Party.journal g.P.Party.shut in
    let some : c.args.patience.now ≡ suc (c.args.patience.now - 1) = let a = c.if-patience-eq0.false in omega arith in
    quiet_timed_cut c.args.turns (map f c.args.seats.now) (map f c.give_all.new.seats) c.args.before c.args.patience.now c.args.moments.now c.push-2.new.self
    c.in_ok-nudged.nudged c.in_ok-nudged.ensures.rounded (map f c.give_all-2.new.seats) (c.args.patience.now - 1) some c.if-nudged.false c.if-nudged-2.false
    c.in_ok-timed.timed c.in_ok-timed.ensures.rounded
    (noted_at (map f c.args.seats.now) true c.in_ok-entries.entries c.args.moments.now c.push-2.new.self c.in_ok-entries.ensures c.in_ok-push-2.ensures.ok)
    c.if-timed.true

pub returns-else-timed-clause-quieted : goal.returns-else-timed-clause-quieted
returns-else-timed-clause-quieted g c =
    let f = seen g.P.Party.made g.P.Party.journal g.P.Party.shut in
    let some : c.args.patience.now ≡ suc (c.args.patience.now - 1) = let a = c.if-patience-eq0.false in omega arith in
    quiet_timed c.args.turns (map f c.args.seats.now) (map f c.give_all.new.seats) c.args.before c.args.patience.now c.args.moments.now c.push-2.new.self
    c.in_ok-nudged.nudged c.in_ok-nudged.ensures.rounded (map f c.give_all-2.new.seats) (c.args.patience.now - 1) some c.if-nudged.false c.if-nudged-2.false
    c.in_ok-timed.timed c.in_ok-timed.ensures.rounded
    (noted_at (map f c.args.seats.now) true c.in_ok-entries.entries c.args.moments.now c.push-2.new.self c.in_ok-entries.ensures c.in_ok-push-2.ensures.ok)
    c.if-timed.false
