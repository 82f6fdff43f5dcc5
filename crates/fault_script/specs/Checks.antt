-- One check after another (ours): the first that fails names its cause, and no later one is made.
use Rattle.std.specs.Prelude.{◌≡◌, Result, Ok, Err}
use Rattle.fault_script.specs.declared.faults.Why.{Why}
use Rattle.fault_script.specs.declared.faults.LineFault.{LineFault}
use Rattle.fault_script.specs.declared.faults.LineFault.TheVariants.{Bad, NoMemory}

-- goes on where there was no fault
abbrev pub and_then : {X Y : Type 0} → Result X Why → (X → Result Y Why) → Result Y Why
and_then (Ok x) f = f x
and_then (Err why) f = Err why

-- a call gives what the definition does, where `seen` is what a contract sees of its value
abbrev pub Gives : {X Y : Type 0} → (X → Y) → Result X Why → Result Y Why → Type 0
Gives seen (Ok x) read = read ≡ Ok (seen x)
Gives seen (Err why) read = read ≡ Err why

-- a call leaves what the definition gives, or answers its fault
abbrev pub Leaves : {X : Type 0} → Result (Unit {0}) LineFault → X → Result X Why → Type 0
Leaves (Ok u) next read = read ≡ Ok next
Leaves (Err (Bad why)) next read = read ≡ Err why
Leaves (Err NoMemory) next read = Unit {0}
