-- what was gathered and what is left come to the whole
use Rattle.std.proofs.Common.{◌≡◌, ◌+◌, ◌-◌}
use Rattle.fab_machine.specs.Rounds.{blocks_from}
use Rattle.round_exec.proofs.Gathered.{with_front}
use Rattle.round_exec.proofs.gathering.gather.Given as goal

abbrev pub invariant-loop-before : goal.invariant-loop-before
invariant-loop-before l =
    with_front l.blocks.items (blocks_from l.certificates l.round (l.before + 1) (l.clusters - l.before)) ≡ blocks_from l.certificates l.round 1 l.clusters
