use Rattle.std.proofs.Common.{◌++◌, ap, ◌∙◌}
use Rattle.fab_machine.specs.Changing.{change_taken}
use Rattle.view_order.proofs.Keeping.{map_ok, and_if, and_on}
use Rattle.view_order.proofs.hearing.taken.Goals as goal

pub returns-clause-outs : goal.returns-clause-outs
returns-clause-outs c = λ k e.
    let o = c.args.order.now in
    let put = (change_taken o.roster o.me o.local c.args.changes.now k).outs in
    and_if _ c.follow.result _ c.and.result c.and.ensures
    (map_ok c.follow.result (λ h. h ∙ ap (λ l. l ++ put) c.new-outs.ensures) (c.follow.ensures.outs k e))

pub returns-clause-state : goal.returns-clause-state
returns-clause-state c = λ k e. and_on _ c.follow.result _ c.and.result c.and.ensures (c.follow.ensures.state k e)
