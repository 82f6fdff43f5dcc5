-- What the counting machine does, and when a pass is one of a turn round it.
use Rattle.std.specs.Prelude.{◌≡◌, List, Option, Some, None, MatchResult, Result}
use Rattle.turn_lock.specs.declared.lock.Turn.{Turn}
use Rattle.turn_lock.specs.declared.lock.Pass.{Pass}
use Rattle.turn_lock.specs.Passes.{IsPassOf}
use Rattle.turn_cases.specs.declared.counter.Counter.{Counter}
use Rattle.turn_cases.specs.declared.counter.Step.{Step}

abbrev pub steps_of : Counter → List Step
steps_of c = c.steps.items

-- the step is entered, or there was no memory and nothing is
abbrev pub Stepped : {E : Type 0} → List Step → Step → Result (Unit {0}) E → Option Step → Type 0
Stepped log call answer entry = MatchResult answer (λ _. entry ≡ Some call) (λ _. entry ≡ None)

-- it is a pass of this turn round a counting machine
pub record IsPass {E : Type 0} (turn : Turn Counter Step (Result (Unit {0}) E) Step (Unit {0})) (pass : Pass Counter Step (Result (Unit {0}) E) Step (Unit {0})) : Type 0 where
  pub is : IsPassOf (λ (d : Unit {0}). Stepped) (λ c. tt) turn pass
