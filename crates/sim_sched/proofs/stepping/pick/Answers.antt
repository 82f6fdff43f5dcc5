use Rattle.std.proofs.Common.{◌≡◌, ◌<◌, ◌∙◌, sym, subst, map, length, get_or, arith, refl}
use Rattle.sim_sched.specs.Seats.{SeatView, seen, seat_steps, IsChosen}
use Rattle.sim_sched.proofs.Picking.{open_at, long_map}
use Rattle.sim_sched.proofs.Receiving.{at_mapped}
use Rattle.sim_sched.proofs.Ready.{ready_acted}
use Rattle.sim_sched.proofs.FewerCopies.{fewer}
use Rattle.sim_sched.proofs.Picked.{none_at, picked_told}
use Rattle.sim_sched.proofs.Giving.{view_at}
use Rattle.sim_sched.proofs.stepping.pick.Goals as goal

pub returns-then-count-eq0-clause-picked : goal.returns-then-count-eq0-clause-picked
returns-then-count-eq0-clause-picked g c =
    λ r key run timeouts entries patience moments u a s. (none_at r key run timeouts _ _ entries patience moments a (sym c.count_all-count.ensures ∙ c.if-count-eq0.true), refl, refl)

pub choice-choice-requires-clause-open : goal.choice-choice-requires-clause-open
choice-choice-requires-clause-open g c =
    let f = seen g.P.Party.made g.P.Party.journal g.P.Party.shut in
    let n : length (map f c.args.seats.now) ≡ length c.args.seats.now = long_map f c.args.seats.now in
    let w = c.find-place.ensures.within in
    open_at f c.args.seats.now c.find-place.result.0 c.index-seats-place.result (omega arith) c.requires.ready.open_all

pub choice-choice-requires-clause-there : goal.choice-choice-requires-clause-there
choice-choice-requires-clause-there g c =
    let f = seen g.P.Party.made g.P.Party.journal g.P.Party.shut in
    let n : length (map f c.args.seats.now) ≡ length c.args.seats.now = long_map f c.args.seats.now in
    let w = c.find-place.ensures.within in
    let v = f (get_or c.args.seats.now c.find-place.result.0 c.index-seats-place.result) in
    subst (λ (x : SeatView). c.find-place.result.1 < length (seat_steps x))
    (at_mapped f c.args.seats.now c.find-place.result.0 c.index-seats-place.result v (omega arith))
    (c.find-place.ensures.own_within v)

pub returns-clause-ready : goal.returns-clause-ready
returns-clause-ready g c =
    let f = seen g.P.Party.made g.P.Party.journal g.P.Party.shut in
    let n : length (map f c.args.seats.now) ≡ length c.args.seats.now = long_map f c.args.seats.now in
    let w = c.find-place.ensures.within in
    let v = f (get_or c.args.seats.now c.find-place.result.0 c.index-seats-place.result) in
    let e = at_mapped f c.args.seats.now c.find-place.result.0 c.index-seats-place.result v (omega arith) in
    ready_acted _ _ _ c.find-place.result.0 c.choice-choice.result v _ _ _ w e c.choice-choice.ensures.possible (c.in_ok-grew.ensures v e)
    c.requires.ready

pub returns-clause-picked : goal.returns-clause-picked
returns-clause-picked g c =
    λ r key run timeouts entries patience moments u a s.
    let f = seen g.P.Party.made g.P.Party.journal g.P.Party.shut in
    let n : length (map f c.args.seats.now) ≡ length c.args.seats.now = long_map f c.args.seats.now in
    let w = c.find-place.ensures.within in
    picked_told r key run timeouts _ _ _ entries patience moments c.next_word-word.result c.count_all-count.result _ c.find-place.result.0 c.find-place.result.1
    c.choice-choice.result _ _
    u a s c.count_all-count.ensures c.if-count-eq0.false c.next_word-word.ensures refl c.find-place.ensures
    (λ v d e. subst (λ (x : SeatView). IsChosen x c.choice-choice.result (get_or (seat_steps x) c.find-place.result.1 d))
    (view_at f c.args.seats.now c.find-place.result.0 c.index-seats-place.result v (omega arith) e) (c.choice-choice.ensures.chosen d))
    c.in_ok-grew.ensures

pub returns-clause-fewer : goal.returns-clause-fewer
returns-clause-fewer g c =
    λ told.
    let f = seen g.P.Party.made g.P.Party.journal g.P.Party.shut in
    let n : length (map f c.args.seats.now) ≡ length c.args.seats.now = long_map f c.args.seats.now in
    let w = c.find-place.ensures.within in
    let v = f (get_or c.args.seats.now c.find-place.result.0 c.index-seats-place.result) in
    let e = at_mapped f c.args.seats.now c.find-place.result.0 c.index-seats-place.result v (omega arith) in
    fewer c.find-place.result.0 c.choice-choice.result v _ _ _ (cc) w e c.choice-choice.ensures.possible (c.in_ok-grew.ensures v e)
