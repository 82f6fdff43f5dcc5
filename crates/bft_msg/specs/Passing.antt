-- What is asked of the parts of a message, one after the other, up to the first fault (ours).
use Rattle.std.specs.Prelude.{◌≡◌, ◌⊎◌, ℕ, ◌+◌, List, [], length, Some, Result, Ok, Err}
use Rattle.fab_base.specs.declared.messages.Message.{Message}
use Rattle.fab_rules.specs.Lists.{first_of}
use Rattle.fab_rules.specs.Shape.{numbered}

-- the first of these faults is answered, or one that needs no cause; without a fault there is none of them
abbrev pub Clears : {F : Type 0} → (F → Type 0) → List F → Result (Unit {0}) F → Type 0
Clears free faults (Ok x) = faults ≡ []
Clears free faults (Err fault) = free fault ⊎ (first_of faults ≡ Some fault)

-- the same of parts one behind the other, the first of which has this number. Without a fault the number behind the last is answered
abbrev pub Passes : {F : Type 0} → (F → Type 0) → (ℕ → Message → List F) → ℕ → List Message → Result ℕ F → Type 0
Passes free faults first parts (Ok next) = (numbered faults first parts ≡ []) × (next ≡ first + length parts)
Passes free faults first parts (Err fault) = free fault ⊎ (first_of (numbered faults first parts) ≡ Some fault)

-- each fault has a cause
abbrev pub NoneIs : {F : Type 0} → F → Type 0
NoneIs x = ⊥
