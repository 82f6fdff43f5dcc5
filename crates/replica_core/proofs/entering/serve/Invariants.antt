-- those who were served and those who are left are the whole
use Rattle.std.proofs.Common.{◌≡◌, ◌++◌}
use Rattle.std.specs.List.{flat_map}
use Rattle.fab_machine.specs.Sharing.{shares_for}
use Rattle.cluster_talk.specs.Talking.{AreClusters}
use Rattle.replica_core.proofs.entering.serve.Given as goal

abbrev pub invariant-loop-asker : goal.invariant-loop-asker
invariant-loop-asker l =
    (l.outbox.items ++ flat_map (shares_for l.talk.roster l.me l.rounds.rounds.certificates l.base) l.asker-iterator.rest.items
    ≡ l.fn.outbox.items ++ flat_map (shares_for l.talk.roster l.me l.rounds.rounds.certificates l.base) l.fn.askers.items)
    × AreClusters l.talk.roster l.asker-iterator.rest.items
