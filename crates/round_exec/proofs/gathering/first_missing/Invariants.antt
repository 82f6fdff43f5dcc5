-- what is missing of the clusters that are left is what is missing of all
use Rattle.std.proofs.Common.{◌≡◌, ◌+◌, ◌-◌}
use Rattle.fab_machine.specs.Rounds.{blocks_from}
use Rattle.round_exec.specs.Book.{missing_of}
use Rattle.round_exec.proofs.gathering.first_missing.Given as goal

abbrev pub invariant-loop-before : goal.invariant-loop-before
invariant-loop-before l =
    missing_of (blocks_from l.certificates l.round (l.before + 1) (l.clusters - l.before)) ≡ missing_of (blocks_from l.certificates l.round 1 l.clusters)
