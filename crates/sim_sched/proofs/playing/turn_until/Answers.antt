use Rattle.std.proofs.Common.{◌≤◌, map, subst, arith}
use Rattle.sim_sched.specs.Seats.{seen}
use Rattle.sim_sched.specs.Playing.{Comes, Turned}
use Rattle.sim_sched.specs.declared.rounds.Progress.{Progress}
use Rattle.sim_sched.proofs.Turns.{turns_more}
use Rattle.sim_sched.proofs.playing.turn_until.Goals as goal

pub returns-in-Cut-clause-turned : goal.returns-in-Cut-clause-turned
returns-in-Cut-clause-turned g c =
    let f = seen g.P.Party.made g.P.Party.journal g.P.Party.shut in
    let told : Progress → Type 0 = λ o. Turned c.args.turns (map f c.loop-entries.seats) c.loop-entries.generator c.loop-entries.entries c.loop-entries.lines.items o
    (map f c.turn.new.seats) c.turn.new.generator c.turn.new.lines.items in
    turns_more _ _ _ c.args.turns (map f c.args.seats.now) c.args.generator.now c.args.before c.args.lines.now.items (map f c.loop-entries.seats) (map f c.turn.new.seats)
    c.loop-entries.generator c.turn.new.generator c.loop-entries.entries c.loop-entries.lines.items c.turn.new.lines.items Progress.Cut
    (subst told c.in-Cut.is c.in_ok-turn.ensures.turned) c.loop-entries.invariant

pub loop-entries-preserved : goal.loop-entries-preserved
loop-entries-preserved g c =
    let f = seen g.P.Party.made g.P.Party.journal g.P.Party.shut in
    let told : Progress → Type 0 = λ o. Turned c.args.turns (map f c.loop-entries.seats) c.loop-entries.generator c.loop-entries.entries c.loop-entries.lines.items o
    (map f c.turn.new.seats) c.turn.new.generator c.turn.new.lines.items in
    let between : Progress → Type 0 = λ o. Comes o (λ n. (c.loop-entries.entries ≤ n) × (n ≤ c.args.turns)) in
    let w = subst between c.in-On.is c.in_ok-turn.ensures.within in
    let same = c.loop-entries-test.true in
    record {
      ready = c.in_ok-turn.ensures.ready;
      within = w.1;
      since = let low = w.0 in omega arith;
      turned = turns_more _ _ _ c.args.turns (map f c.args.seats.now) c.args.generator.now c.args.before c.args.lines.now.items (map f c.loop-entries.seats) (map f c.turn.new.seats)
          c.loop-entries.generator c.turn.new.generator c.loop-entries.entries c.loop-entries.lines.items c.turn.new.lines.items (Progress.On c.in-On.more)
          (subst told c.in-On.is c.in_ok-turn.ensures.turned) c.loop-entries.invariant;
    }

pub returns-in-Rest-clause-turned : goal.returns-in-Rest-clause-turned
returns-in-Rest-clause-turned g c =
    let f = seen g.P.Party.made g.P.Party.journal g.P.Party.shut in
    let told : Progress → Type 0 = λ o. Turned c.args.turns (map f c.loop-entries.seats) c.loop-entries.generator c.loop-entries.entries c.loop-entries.lines.items o
    (map f c.turn.new.seats) c.turn.new.generator c.turn.new.lines.items in
    turns_more _ _ _ c.args.turns (map f c.args.seats.now) c.args.generator.now c.args.before c.args.lines.now.items (map f c.loop-entries.seats) (map f c.turn.new.seats)
    c.loop-entries.generator c.turn.new.generator c.loop-entries.entries c.loop-entries.lines.items c.turn.new.lines.items (Progress.Rest c.in-Rest.more)
    (subst told c.in-Rest.is c.in_ok-turn.ensures.turned) c.loop-entries.invariant
