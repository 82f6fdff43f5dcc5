-- What is told of an act.
use Rattle.std.specs.Prelude.{Result, Ok, Err}
use Rattle.fab_base.specs.declared.answers.Answer.{Answer}
use Rattle.run_words.specs.declared.party.Told.{Told}

-- of one that the core answers
abbrev pub told_by : {E : Type 0} → Result Answer E → Result Told E
told_by (Ok answer) = Ok (Told.Core answer)
told_by (Err e) = Err e

-- of one that was refused memory, and left all as it was
abbrev pub told_anyway : {E : Type 0} → Result Told E → Told
told_anyway (Ok told) = told
told_anyway (Err e) = Told.NoMemory
