use Rattle.std.proofs.Common.{◌≤◌, map, subst, arith}
use Rattle.sim_sched.specs.Seats.{seen}
use Rattle.sim_sched.specs.Playing.{Comes, GoesOn, Turned, Quieted}
use Rattle.sim_sched.specs.declared.rounds.Progress.{Progress}
use Rattle.sim_sched.proofs.Turns.{play_spent, play_cut, play_on, rest_cut, rest_over, rest_on}
use Rattle.sim_sched.proofs.playing.play.Goals as goal

pub returns-in-Cut-clause-played : goal.returns-in-Cut-clause-played
returns-in-Cut-clause-played g c =
    let f = seen g.P.Party.made g.P.Party.journal g.P.Party.shut in
    let l = c.loop-entries in
    let told : Progress → Type 0 = λ o. Turned c.args.turns (map f l.seats) l.generator l.entries l.lines.items o
    (map f c.turn_until.new.seats) c.turn_until.new.generator c.turn_until.new.lines.items in
    play_cut _ _ _ c.args.turns (map f c.args.seats.now) c.args.generator.now c.args.lines.now.items c.args.patience.now c.args.moments.now (map f l.seats) l.generator
    l.entries l.lines.items l.patience l.moments l.invariant (map f c.turn_until.new.seats) c.turn_until.new.generator c.turn_until.new.lines.items
    (subst told c.in-Cut.is c.in_ok-turn_until.ensures.turned)

pub loop-entries-preserved-in-On : goal.loop-entries-preserved-in-On
loop-entries-preserved-in-On g c =
    let f = seen g.P.Party.made g.P.Party.journal g.P.Party.shut in
    let l = c.loop-entries in
    let told : Progress → Type 0 = λ o. Turned c.args.turns (map f l.seats) l.generator l.entries l.lines.items o
    (map f c.turn_until.new.seats) c.turn_until.new.generator c.turn_until.new.lines.items in
    let between : Progress → Type 0 = λ o. Comes o (λ n. (l.entries ≤ n) × (n ≤ c.args.turns)) in
    let w = subst between c.in-On.is c.in_ok-turn_until.ensures.within in
    play_on _ _ _ c.args.turns (map f c.args.seats.now) c.args.generator.now c.args.lines.now.items c.args.patience.now c.args.moments.now (map f l.seats) l.generator
    l.entries l.lines.items l.patience l.moments l.invariant (map f c.turn_until.new.seats) c.turn_until.new.generator c.turn_until.new.lines.items c.in-On.more
    (subst told c.in-On.is c.in_ok-turn_until.ensures.turned) c.in_ok-turn_until.ensures.ready w.1

pub returns-in-Cut-2-clause-played : goal.returns-in-Cut-2-clause-played
returns-in-Cut-2-clause-played g c =
    let f = seen g.P.Party.made g.P.Party.journal g.P.Party.shut in
    let l = c.loop-entries in
    let told : Progress → Type 0 = λ o. Turned c.args.turns (map f l.seats) l.generator l.entries l.lines.items o
    (map f c.turn_until.new.seats) c.turn_until.new.generator c.turn_until.new.lines.items in
    let came : Progress → Type 0 = λ o. Quieted c.args.turns (map f c.turn_until.new.seats) c.in-Rest.more l.patience l.moments o
    (map f c.quiet_moment.new.seats) c.quiet_moment.new.patience c.quiet_moment.new.moments in
    rest_cut _ _ _ c.args.turns (map f c.args.seats.now) c.args.generator.now c.args.lines.now.items c.args.patience.now c.args.moments.now (map f l.seats) l.generator
    l.entries l.lines.items l.patience l.moments l.invariant (map f c.turn_until.new.seats) c.turn_until.new.generator c.turn_until.new.lines.items c.in-Rest.more
    (subst told c.in-Rest.is c.in_ok-turn_until.ensures.turned) (map f c.quiet_moment.new.seats) c.quiet_moment.new.patience c.quiet_moment.new.moments
    (subst came c.in-Cut-2.is c.in_ok-quiet_moment-in-Rest.ensures.quieted)

pub loop-entries-preserved : goal.loop-entries-preserved
loop-entries-preserved g c =
    let f = seen g.P.Party.made g.P.Party.journal g.P.Party.shut in
    let l = c.loop-entries in
    let told : Progress → Type 0 = λ o. Turned c.args.turns (map f l.seats) l.generator l.entries l.lines.items o
    (map f c.turn_until.new.seats) c.turn_until.new.generator c.turn_until.new.lines.items in
    let came : Progress → Type 0 = λ o. Quieted c.args.turns (map f c.turn_until.new.seats) c.in-Rest.more l.patience l.moments o
    (map f c.quiet_moment.new.seats) c.quiet_moment.new.patience c.quiet_moment.new.moments in
    let few : Progress → Type 0 = λ o. GoesOn o (λ n. n ≤ c.args.turns) in
    rest_on _ _ _ c.args.turns (map f c.args.seats.now) c.args.generator.now c.args.lines.now.items c.args.patience.now c.args.moments.now (map f l.seats) l.generator
    l.entries l.lines.items l.patience l.moments l.invariant (map f c.turn_until.new.seats) c.turn_until.new.generator c.turn_until.new.lines.items c.in-Rest.more
    (subst told c.in-Rest.is c.in_ok-turn_until.ensures.turned) (map f c.quiet_moment.new.seats) c.quiet_moment.new.patience c.quiet_moment.new.moments
    c.in-On-2.after (subst came c.in-On-2.is c.in_ok-quiet_moment-in-Rest.ensures.quieted) c.in_ok-quiet_moment-in-Rest.ensures.ready
    (subst few c.in-On-2.is c.in_ok-quiet_moment-in-Rest.ensures.within)

pub returns-in-Rest-2-clause-played : goal.returns-in-Rest-2-clause-played
returns-in-Rest-2-clause-played g c =
    let f = seen g.P.Party.made g.P.Party.journal g.P.Party.shut in
    let l = c.loop-entries in
    let told : Progress → Type 0 = λ o. Turned c.args.turns (map f l.seats) l.generator l.entries l.lines.items o
    (map f c.turn_until.new.seats) c.turn_until.new.generator c.turn_until.new.lines.items in
    let came : Progress → Type 0 = λ o. Quieted c.args.turns (map f c.turn_until.new.seats) c.in-Rest.more l.patience l.moments o
    (map f c.quiet_moment.new.seats) c.quiet_moment.new.patience c.quiet_moment.new.moments in
    rest_over _ _ _ c.args.turns (map f c.args.seats.now) c.args.generator.now c.args.lines.now.items c.args.patience.now c.args.moments.now (map f l.seats) l.generator
    l.entries l.lines.items l.patience l.moments l.invariant (map f c.turn_until.new.seats) c.turn_until.new.generator c.turn_until.new.lines.items c.in-Rest.more
    (subst told c.in-Rest.is c.in_ok-turn_until.ensures.turned) (map f c.quiet_moment.new.seats) c.quiet_moment.new.patience c.quiet_moment.new.moments
    c.in-Rest-2._after (subst came c.in-Rest-2.is c.in_ok-quiet_moment-in-Rest.ensures.quieted)

pub returns-clause-played : goal.returns-clause-played
returns-clause-played g c =
    let f = seen g.P.Party.made g.P.Party.journal g.P.Party.shut in
    let l = c.loop-entries in
    play_spent c.args.reader.now.members.now c.args.reader.now.ring.now c.args.ids.now c.args.turns (map f c.args.seats.now) c.args.generator.now c.args.lines.now.items
    c.args.patience.now c.args.moments.now (map f l.seats) l.generator l.entries l.lines.items l.patience l.moments l.invariant (omega arith)
