-- Which answers make an entry.
use Rattle.std.specs.Prelude.{Bool, false, Result, Ok, Err}
use Rattle.fab_base.specs.declared.answers.Answer.{Answer}
use Rattle.fab_machine.specs.Step.{makes_entry}

-- whether there is an answer, and it makes an entry
abbrev pub has_entry : {E : Type 0} → Result Answer E → Bool
has_entry (Ok answer) = makes_entry answer
has_entry (Err e) = false
