use Rattle.std.proofs.Common.{◌≡◌, drop}
use Rattle.std.specs.List.{flat_map}
use Rattle.fab_rules.specs.Shape.{prepared_misfits}
use Rattle.bft_msg.proofs.misfits.in_prepared.Given as goal

abbrev pub invariant-loop-certificate : goal.invariant-loop-certificate
invariant-loop-certificate l =
    flat_map (prepared_misfits l.members l.part l.cluster) l.certificates ≡
    flat_map (prepared_misfits l.members l.part l.cluster) (drop l.certificate-index l.certificates)
