use Rattle.std.proofs.Common.{◌≡◌, map, take}
use Rattle.lms_tree.specs.Keys.{TreeKey, public_of_key}
use Rattle.script_keys.proofs.rings.publics_of_keys.Given as goal

abbrev pub invariant-loop-key : goal.invariant-loop-key
invariant-loop-key l = l.publics.items ≡ map (λ (k : TreeKey). public_of_key k) (take l.key-index l.keys)
