use Rattle.std.proofs.Common.{◌≡◌, true, length}
use Rattle.std.specs.List.{list_all}
use Rattle.bft_verify.specs.Ring.{is_fabric_key}
use Rattle.message_check.proofs.keys.client_keys.Given as goal

abbrev pub invariant-loop-number : goal.invariant-loop-number
invariant-loop-number l = (length l.keys.items ≡ l.number) × (list_all is_fabric_key l.keys.items ≡ true)
