use Rattle.std.proofs.Common.{None, ◌∙◌}
use Rattle.stage_looks.specs.declared.delivering.OutputHand.{OutputHand}
use Rattle.stage_looks.proofs.Fresh.{fresh_output}
use Rattle.stage_looks.proofs.delivering.OutputHand.new.Goals as goal

pub returns-clause-fits : goal.returns-clause-fits
returns-clause-fits g c = λ turn pass.
    let h : OutputHand g.row.P.Denot = record { act = c.args.act; outlets = c.args.outlets; first = None; rest = c.into_iter.result; told = 0 } in
    fresh_output g.P.Party.made turn h c.requires.fresh c.requires.apart c.requires.unused (c.into_iter.ensures.rest ∙ c.new.ensures.items) pass
