use Rattle.std.proofs.Common.{refl}
use Rattle.stage_looks.specs.declared.ordering.OrderHand.{OrderHand}
use Rattle.stage_looks.proofs.Holding.{some_held, none_held, takes_on, producers_stay}
use Rattle.stage_looks.proofs.ordering.OrderHand.next_item.Goals as goal

pub returns-clause-some : goal.returns-clause-some
returns-clause-some g c =
    let a = c.args.self.now in
    let b : OrderHand g.row.P.Denot = record { take = c.take.new.pass; act = a.act; held = a.held; lost = a.lost } in
    some_held g.P.Party.made c.args.turn.now c.args.queue.now b c.take.result
    (takes_on g.P.Party.made c.args.turn.now c.args.queue.now a b c.take.result refl c.take.ensures.pass c.take.ensures.took c.take.ensures.none c.requires.holds)

pub returns-clause-none : goal.returns-clause-none
returns-clause-none g c =
    let a = c.args.self.now in
    let b : OrderHand g.row.P.Denot = record { take = c.take.new.pass; act = a.act; held = a.held; lost = a.lost } in
    none_held g.P.Party.made c.args.turn.now c.args.queue.now b c.take.result
    (takes_on g.P.Party.made c.args.turn.now c.args.queue.now a b c.take.result refl c.take.ensures.pass c.take.ensures.took c.take.ensures.none c.requires.holds)

pub returns-clause-same : goal.returns-clause-same
returns-clause-same g c =
    let a = c.args.self.now in
    let b : OrderHand g.row.P.Denot = record { take = c.take.new.pass; act = a.act; held = a.held; lost = a.lost } in
    producers_stay g.P.Party.made c.args.turn.now c.args.queue.now a b c.take.result refl c.take.ensures.took c.take.ensures.none
