use Rattle.std.proofs.Common.{◌≡◌, map, take}
use Rattle.fab_base.specs.declared.ids.Who.{Who}
use Rattle.script_keys.specs.Keys.{signer_of}
use Rattle.script_keys.proofs.keys.signers_for.Given as goal

abbrev pub invariant-loop-replica : goal.invariant-loop-replica
invariant-loop-replica l = l.signers ≡ map (λ i. signer_of l.script (Who.Replica i)) (take l.replica-index l.replicas)
