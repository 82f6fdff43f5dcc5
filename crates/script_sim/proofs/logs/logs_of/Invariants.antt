use Rattle.std.proofs.Common.{◌≡◌, ◌++◌, map, take, length}
use Rattle.script_sim.specs.Schedules.{log_of}
use Rattle.script_sim.proofs.logs.logs_of.Given as goal

abbrev pub invariant-loop-signer : goal.invariant-loop-signer
invariant-loop-signer l =
    (l.logs.items ≡ map (log_of l.script) (take (length l.yielded) l.replicas))
    × (l.yielded ++ l.signer-iterator.rest.items ≡ l.fn.signers.items)
