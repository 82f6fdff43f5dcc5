use Rattle.std.proofs.Common.{◌≡◌, get_or, map, length, arith}
use Rattle.sim_sched.proofs.Picking.{long_map}
use Rattle.sim_sched.proofs.Ready.{made_there}
use Rattle.sim_sched.specs.Seats.{seen}
use Rattle.sim_sched.proofs.Picking.{open_at}
use Rattle.sim_sched.proofs.Receiving.{at_mapped}
use Rattle.sim_sched.proofs.Giving.{heard_there}
use Rattle.sim_sched.proofs.stepping.hear_at.Goals as goal

pub hear-requires-clause-open : goal.hear-requires-clause-open
hear-requires-clause-open g c =
    open_at (seen g.P.Party.made g.P.Party.journal g.P.Party.shut) c.args.seats.now c.args.place c.index-seats-place.result c.requires.there
    c.requires.open

pub hear-requires-clause-made : goal.hear-requires-clause-made
hear-requires-clause-made g c =
    let f = seen g.P.Party.made g.P.Party.journal g.P.Party.shut in
    let v = f (get_or c.args.seats.now c.args.place c.index-seats-place.result) in
    let n : length (map f c.args.seats.now) ≡ length c.args.seats.now = long_map f c.args.seats.now in
    let h = c.requires.there in
    made_there _ _ (map f c.args.seats.now) c.args.place v (omega arith)
    (at_mapped f c.args.seats.now c.args.place c.index-seats-place.result _ c.requires.there) c.requires.made

pub hear-requires-clause-there : goal.hear-requires-clause-there
hear-requires-clause-there g c =
    let f = seen g.P.Party.made g.P.Party.journal g.P.Party.shut in
    c.requires.waits (f (get_or c.args.seats.now c.args.place c.index-seats-place.result))
    (at_mapped f c.args.seats.now c.args.place c.index-seats-place.result _ c.requires.there)

pub returns : goal.returns
returns g c =
    heard_there (seen g.P.Party.made g.P.Party.journal g.P.Party.shut) c.args.seats.now c.args.place c.args.copy c.index-seats-place.result
    c.hear.new.self c.hear.result
    c.requires.there c.hear.ensures
