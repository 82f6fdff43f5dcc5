use Rattle.std.proofs.lemmas.Result.{err_from_is_err_and}
use Rattle.bft_msg.proofs.Passes.{leads_first, leads_at, leads_room, leads_able, leads_on, leads_out, leads_end}
use Rattle.bft_msg.proofs.listings.walk_all.Goals as goal

pub loop-item-init : goal.loop-item-init
loop-item-init g c = leads_first c.args.items.now (g.met.L.Listing.lists c.args.items.now) c.requires.room c.requires.may

pub walk-requires-clause-room : goal.walk-requires-clause-room
walk-requires-clause-room g c = leads_room (leads_at c.args.items.now c.loop-item.item-index c.item-item.result c.loop-item.invariant c.loop-item-test.true c.item-item.is)

pub walk-requires-clause-may : goal.walk-requires-clause-may
walk-requires-clause-may g c = leads_able (leads_at c.args.items.now c.loop-item.item-index c.item-item.result c.loop-item.invariant c.loop-item-test.true c.item-item.is)

pub returns-in_err-part : goal.returns-in_err-part
returns-in_err-part g c =
    let p = err_from_is_err_and c.from_residual.result c.from_residual.ensures.1 in
    let h = leads_at c.args.items.now c.loop-item.item-index c.item-item.result c.loop-item.invariant c.loop-item-test.true c.item-item.is in
    rw (p.1, p.2) (leads_out c.in_err-part.field-0.0 h c.in_err-part.ensures)

pub loop-item-preserved : goal.loop-item-preserved
loop-item-preserved g c =
    leads_on c.in_ok-part.part (leads_at c.args.items.now c.loop-item.item-index c.item-item.result c.loop-item.invariant c.loop-item-test.true c.item-item.is)
    c.in_ok-part.ensures

pub returns : goal.returns
returns g c = leads_end c.args.items.now c.loop-item.item-index c.loop-item.invariant c.loop-item-test.false
