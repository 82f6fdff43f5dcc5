use Rattle.std.proofs.Common.{List}
use Rattle.run_words.specs.Journal.{Maker}
use Rattle.run_words.specs.Lawful.{AreEach, Kept}
use Rattle.forged_example.specs.Standing.{AreStanding}
use Rattle.forged_example.proofs.leaving.leave_all.Given as goal

abbrev pub invariant-loop-log : goal.invariant-loop-log
invariant-loop-log l = (makers : List Maker) → AreStanding makers l.yielded → AreEach Kept makers l.traces
