use Rattle.std.proofs.Common.{◌+◌, Bool, Option, false, cond, map, sym, ap, subst, ◌∙◌, arith, add-zero}
use Rattle.sim_sched.specs.Seats.{seen}
use Rattle.sim_sched.specs.Simulating.{Picked}
use Rattle.sim_sched.proofs.Turns.{turn_spent, turn_cut, turn_picked, turn_quiet}
use Rattle.sim_sched.proofs.playing.turn.Goals as goal
use Rattle.sim_sched.proofs.playing.turn.Goals.{then-walk-via-then-walk, then-walk-via-else-walk+then-walk-turns}

pub returns-then-walk-clause-turned : goal.returns-then-walk-clause-turned
returns-then-walk-clause-turned g c =
    let f = seen g.P.Party.made g.P.Party.journal g.P.Party.shut in
    let walked = c.in_ok-walk.ensures.walked in
    elim c.then-walk.branch [
      | then-walk-via-then-walk w ↦ turn_spent c.args.turns (map f c.args.seats.now) (map f c.walk_lines.new.seats) c.args.generator.now c.args.before c.args.lines.now.items
          c.walk_lines.new.lines.items c.in_ok-walk.walk walked w.if-walk.true
      | then-walk-via-else-walk+then-walk-turns w ↦ turn_cut c.args.turns (map f c.args.seats.now) (map f c.walk_lines.new.seats) c.args.generator.now c.args.before c.args.lines.now.items
          c.walk_lines.new.lines.items c.in_ok-walk.walk walked false w.if-walk.false w.if-walk-turns.true
    ]

pub returns-in-None-clause-turned : goal.returns-in-None-clause-turned
returns-in-None-clause-turned g c =
    let f = seen g.P.Party.made g.P.Party.journal g.P.Party.shut in
    let told : Option Bool → Type 0 = λ o. Picked (map f c.walk_lines.new.seats) c.args.generator.now o (map f c.pick.new.seats) c.pick.new.generator in
    turn_quiet c.args.turns (map f c.args.seats.now) (map f c.walk_lines.new.seats) c.args.generator.now c.args.before c.args.lines.now.items
    c.walk_lines.new.lines.items c.in_ok-walk.walk c.in_ok-walk.ensures.walked (map f c.pick.new.seats) c.pick.new.generator c.if-walk.false
    (omega (arith, c.if-walk-turns.false)) (subst told c.in-None.is c.in_ok-pick.ensures.picked)

pub returns-then-grew-clause-turned : goal.returns-then-grew-clause-turned
returns-then-grew-clause-turned g c =
    let f = seen g.P.Party.made g.P.Party.journal g.P.Party.shut in
    let told : Option Bool → Type 0 = λ o. Picked (map f c.walk_lines.new.seats) c.args.generator.now o (map f c.pick.new.seats) c.pick.new.generator in
    turn_picked c.args.turns (map f c.args.seats.now) (map f c.walk_lines.new.seats) c.args.generator.now c.args.before c.args.lines.now.items
    c.walk_lines.new.lines.items c.in_ok-walk.walk c.in_ok-walk.ensures.walked (map f c.pick.new.seats) c.pick.new.generator c.in-Some.grew
    (c.in_ok-walk.walk.entries + 1) c.if-walk.false (omega (arith, c.if-walk-turns.false)) (subst told c.in-Some.is c.in_ok-pick.ensures.picked)
    (ap (λ b. c.in_ok-walk.walk.entries + cond b 1 0) (sym c.if-grew.true))

pub returns-else-grew-clause-turned : goal.returns-else-grew-clause-turned
returns-else-grew-clause-turned g c =
    let f = seen g.P.Party.made g.P.Party.journal g.P.Party.shut in
    let told : Option Bool → Type 0 = λ o. Picked (map f c.walk_lines.new.seats) c.args.generator.now o (map f c.pick.new.seats) c.pick.new.generator in
    turn_picked c.args.turns (map f c.args.seats.now) (map f c.walk_lines.new.seats) c.args.generator.now c.args.before c.args.lines.now.items
    c.walk_lines.new.lines.items c.in_ok-walk.walk c.in_ok-walk.ensures.walked (map f c.pick.new.seats) c.pick.new.generator c.in-Some.grew
    c.in_ok-walk.walk.entries c.if-walk.false (omega (arith, c.if-walk-turns.false)) (subst told c.in-Some.is c.in_ok-pick.ensures.picked)
    (sym (ap (λ b. c.in_ok-walk.walk.entries + cond b 1 0) c.if-grew.false ∙ add-zero c.in_ok-walk.walk.entries))
