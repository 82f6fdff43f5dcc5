use Rattle.std.proofs.Common.{refl}
use Rattle.stage_looks.specs.declared.ordering.OrderHand.{OrderHand}
use Rattle.stage_looks.proofs.Holding.{fits_done}
use Rattle.stage_looks.proofs.ordering.OrderHand.act_on.Goals as goal

pub returns-in-Done-clause-fits : goal.returns-in-Done-clause-fits
returns-in-Done-clause-fits g c =
    let a = c.args.self.now in
    let b : OrderHand g.row.P.Denot = record { take = a.take; act = c.hear.new.pass; held = a.held; lost = a.lost } in
    fits_done g.P.Party.made c.args.turn.now c.args.queue.now a b c.args.item refl c.requires.free.0 c.hear.ensures.pass c.hear.ensures.kinds
    c.in-Done.ensures.hears c.requires.holds
