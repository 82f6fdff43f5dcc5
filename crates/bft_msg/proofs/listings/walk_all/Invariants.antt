use Rattle.std.proofs.Common.{drop}
use Rattle.bft_msg.proofs.Passes.{Leads}
use Rattle.bft_msg.proofs.listings.walk_all.Given as goal

abbrev pub invariant-loop-item : goal.invariant-loop-item
invariant-loop-item g l =
    Leads (g.C.Check.may l.check) g.C.Check.free (g.C.Check.wrong l.check) g.L.Listing.parts l.first (g.L.Listing.listed l.items) l.part (drop l.item-index l.items)
