use Rattle.std.proofs.lemmas.Result.{err_from_is_err_and}
use Rattle.bft_msg.proofs.Alls.{all_right}
use Rattle.bft_msg.proofs.Passes.{stops, goes_on}
use Rattle.bft_msg.proofs.listings.walk_both.Goals as goal

pub returns-in_err-next : goal.returns-in_err-next
returns-in_err-next g c =
    let p = err_from_is_err_and c.from_residual.result c.from_residual.ensures.1 in
    rw (p.1, p.2)
    (stops g.C.Check.free (g.C.Check.wrong c.args.check.now) c.args.first (g.L.Listing.listed c.args.items.now) (g.M.Listing.listed c.args.others.now)
    c.in_err-next.field-0.0 c.in_err-next.ensures)

pub walk_all-requires-2-clause-may : goal.walk_all-requires-2-clause-may
walk_all-requires-2-clause-may g c =
    all_right (g.C.Check.may c.args.check.now) (g.L.Listing.listed c.args.items.now) (g.M.Listing.listed c.args.others.now) c.requires.may

pub returns : goal.returns
returns g c =
    goes_on g.C.Check.free (g.C.Check.wrong c.args.check.now) c.args.first c.in_ok-next.next (g.L.Listing.listed c.args.items.now)
    (g.M.Listing.listed c.args.others.now) c.walk_all-2.result c.in_ok-next.ensures c.walk_all-2.ensures
