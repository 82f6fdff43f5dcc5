use Rattle.std.proofs.Common.{◌≡◌, map, take}
use Rattle.lms_tree.specs.Keys.{public_of_key}
use Rattle.lms_leaf.specs.Leaves.{Leaves}
use Rattle.script_keys.proofs.rings.publics_of_signers.Given as goal

abbrev pub invariant-loop-signer : goal.invariant-loop-signer
invariant-loop-signer l = l.keys.items ≡ map (λ (s : Leaves). public_of_key s.key) (take l.signer-index l.signers)
