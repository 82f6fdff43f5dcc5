use Rattle.std.proofs.Common.{◌≡◌, map}
use Rattle.std.specs.List.{range_with_len}
use Rattle.script_keys.specs.Keys.{key_of, client}
use Rattle.script_keys.proofs.keys.client_keys.Given as goal

abbrev pub invariant-loop-number : goal.invariant-loop-number
invariant-loop-number l = l.keys ≡ map (λ number. key_of l.script (client number)) (range_with_len 0 l.number)
