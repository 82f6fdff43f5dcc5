use Rattle.view_change.proofs.choosing.chosen.Goals as goal

pub returns-in_err-deciding-clause-none : goal.returns-in_err-deciding-clause-none
returns-in_err-deciding-clause-none c = rw c.from_residual.ensures c.in_err-deciding.ensures.none
