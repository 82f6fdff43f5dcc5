use Rattle.std.proofs.Common.{◌≡◌, ◌+◌, true, length}
use Rattle.std.specs.List.{list_all}
use Rattle.bft_verify.specs.Ring.{is_fabric_key}
use Rattle.message_check.proofs.keys.put_cluster.Given as goal

abbrev pub invariant-loop-index : goal.invariant-loop-index
invariant-loop-index l =
    (length l.keys.items ≡ length l.initial.keys.items + l.index) × (list_all is_fabric_key l.keys.items ≡ true)
