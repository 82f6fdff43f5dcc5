-- the value of the digits so far, which is below a power of ten
use Rattle.std.proofs.Common.{◌≡◌, ◌+◌, ◌*◌, ◌^◌, ◌≤◌, take}
use Rattle.fault_script.specs.Fields.{value_of_digits}
use Rattle.fault_script.proofs.fields.value_of_digits.Given as goal

abbrev pub invariant-loop-b : goal.invariant-loop-b
invariant-loop-b l = (l.value ≡ value_of_digits (take l.b-index l.word)) × (l.value + 23 ≤ 23 * 10 ^ l.b-index)
