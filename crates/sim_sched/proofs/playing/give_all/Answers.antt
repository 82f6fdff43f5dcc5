use Rattle.std.proofs.Common.{◌≡◌, ◌<◌, map, length, arith}
use Rattle.sim_sched.specs.Seats.{seen}
use Rattle.sim_sched.proofs.Picking.{long_map}
use Rattle.sim_sched.proofs.EachInTurn.{round_spent, round_whole, round_so_moved, round_so_still}
use Rattle.sim_sched.proofs.playing.give_all.Goals as goal
use Rattle.sim_sched.proofs.playing.give_all.Goals.{then-branch, else-branch}

pub returns-then-entries-turns-clause-rounded : goal.returns-then-entries-turns-clause-rounded
returns-then-entries-turns-clause-rounded g c =
    λ timed phase r key at timeouts gen patience moments round u i.
    let f = seen g.P.Party.made g.P.Party.journal g.P.Party.shut in
    let n : length (map f c.loop-place.seats) ≡ length c.loop-place.seats = long_map f c.loop-place.seats in
    let same = c.loop-place.auto.seats in
    round_spent c.args.mover timed phase round r key at timeouts gen patience moments (map f c.loop-place.seats) c.loop-place.entries c.args.turns c.loop-place.place c.loop-place.moved u
    (omega arith) (omega arith)
    (c.loop-place.invariant.goes timed phase r key at timeouts gen patience moments round u i)

pub loop-place-preserved : goal.loop-place-preserved
loop-place-preserved g c =
    let f = seen g.P.Party.made g.P.Party.journal g.P.Party.shut in
    let n : length (map f c.loop-place.seats) ≡ length c.loop-place.seats = long_map f c.loop-place.seats in
    let same = c.loop-place.auto.seats in
    let h : c.loop-place.place < length (map f c.loop-place.seats) = omega arith in
    let l : c.loop-place.entries < c.args.turns = omega arith in
    elim c.if-branch.branch [
      | then-branch w ↦ round_so_moved c.args.reader.now.members.now c.args.reader.now.ring.now c.args.ids.now c.args.mover (map f c.args.seats.now)
          (map f c.loop-place.seats) (map f c.give_at.new.seats) c.args.before c.args.turns c.loop-place.entries c.loop-place.place
          c.if-branch.entries
          c.loop-place.moved c.if-branch.moved c.in_ok-give_at.field-0 w.if-branch.true w.moved-is w.entries-is l h c.in_ok-give_at.ensures
          c.loop-place.invariant
      | else-branch w ↦ round_so_still c.args.reader.now.members.now c.args.reader.now.ring.now c.args.ids.now c.args.mover (map f c.args.seats.now)
          (map f c.loop-place.seats) (map f c.give_at.new.seats) c.args.before c.args.turns c.loop-place.entries c.loop-place.place
          c.if-branch.entries
          c.loop-place.moved c.if-branch.moved c.in_ok-give_at.field-0 w.if-branch.false w.moved-is w.entries-is l h c.in_ok-give_at.ensures
          c.loop-place.invariant
    ]

pub returns-clause-rounded : goal.returns-clause-rounded
returns-clause-rounded g c =
    λ timed phase r key at timeouts gen patience moments round u i.
    let f = seen g.P.Party.made g.P.Party.journal g.P.Party.shut in
    let n : length (map f c.loop-place.seats) ≡ length c.loop-place.seats = long_map f c.loop-place.seats in
    let same = c.loop-place.auto.seats in
    round_whole c.args.mover timed phase round r key at timeouts gen patience moments (map f c.loop-place.seats) c.loop-place.entries c.loop-place.place c.loop-place.moved (omega arith)
    (c.loop-place.invariant.goes timed phase r key at timeouts gen patience moments round u i)
