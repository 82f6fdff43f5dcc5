use Rattle.std.proofs.Common.{◌∷◌, ap, sym, ◌∙◌}
use Rattle.std.specs.Str.Lines.{lines}
use Rattle.fault_script.proofs.Cuts.{line_ends}
use Rattle.fault_script.proofs.words.first_line.Goals as goal

pub returns-in-Some-clause-lines : goal.returns-in-Some-clause-lines
returns-in-Some-clause-lines c =
    line_ends c.args.text.now c.in-Some.line.now c.in-Some.rest.now c.in-Some.ensures.0 ∙ ap (λ l. l ∷ lines c.in-Some.rest.now) (sym c.without_return.ensures)
