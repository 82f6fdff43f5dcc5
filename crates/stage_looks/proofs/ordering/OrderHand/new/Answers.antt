use Rattle.std.proofs.Common.{None, false, refl}
use Rattle.stage_looks.specs.declared.ordering.OrderHand.{OrderHand}
use Rattle.stage_looks.proofs.Fresh.{fresh_order}
use Rattle.stage_looks.proofs.ordering.OrderHand.new.Goals as goal

pub returns-clause-fits : goal.returns-clause-fits
returns-clause-fits g c = λ turn queue of_queue takes pass.
    let h : OrderHand g.row.P.Denot = record { take = c.args.take; act = c.args.act; held = None; lost = false } in
    fresh_order g.P.Party.made turn queue h c.requires.none c.requires.fresh refl of_queue takes pass
