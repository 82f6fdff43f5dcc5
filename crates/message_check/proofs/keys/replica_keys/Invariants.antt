use Rattle.std.proofs.Common.{◌≡◌, ◌+◌, true, drop, length, sum}
use Rattle.std.specs.List.{list_all}
use Rattle.bft_verify.specs.Ring.{is_fabric_key}
use Rattle.message_check.proofs.keys.replica_keys.Given as goal

abbrev pub invariant-loop-size : goal.invariant-loop-size
invariant-loop-size l =
    record {
      more : length l.keys.items + sum (drop l.size-index l.sizes) ≡ sum l.sizes;
      kinds : list_all is_fabric_key l.keys.items ≡ true;
      number : l.cluster ≡ l.size-index;
    }
