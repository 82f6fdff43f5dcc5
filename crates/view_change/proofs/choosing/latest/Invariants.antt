use Rattle.std.proofs.Common.{◌≡◌, take, fold}
use Rattle.std.specs.Option.{option_copied}
use Rattle.fab_rules.specs.Choice.{better}
use Rattle.view_change.proofs.choosing.latest.Given as goal

abbrev pub invariant-loop-certificate : goal.invariant-loop-certificate
invariant-loop-certificate l = option_copied l.kept ≡ fold (better l.slot) (option_copied l.fn.earlier) (take l.certificate-index l.certificates)
