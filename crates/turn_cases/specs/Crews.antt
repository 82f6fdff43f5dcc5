-- When a worker's hand fits its crew.
use Rattle.std.specs.Prelude.{◌≡◌, true}
use Rattle.stage_link.specs.Queues.{known, IsQueuePass}
use Rattle.turn_cases.specs.Counting.{IsPass}
use Rattle.turn_cases.specs.declared.stepping.Steppers.{Steppers}
use Rattle.turn_cases.specs.declared.stepping.Stepper.{Stepper}
use Rattle.turn_cases.specs.declared.passing.Line.{Line}
use Rattle.turn_cases.specs.declared.passing.Hand.{Hand}
use Rattle.turn_cases.specs.declared.passing.Hand.TheVariants.{Producer, Consumer}

abbrev pub IsStepperOf : Steppers → Stepper → Type 0
IsStepperOf c h = IsPass c.turn h.pass

-- a producer may put, and the consumer take
abbrev pub IsHandOf : Line → Hand → Type 0
IsHandOf c (Producer h) = IsQueuePass c.queue h.pass × ((known h.pass).puts ≡ true)
IsHandOf c (Consumer h) = IsQueuePass c.queue h.pass × ((known h.pass).takes ≡ true)
