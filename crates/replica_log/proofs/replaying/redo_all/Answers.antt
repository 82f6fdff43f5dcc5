use Rattle.replica_log.proofs.Following.{replays_more, replays_all, comes_at}
use Rattle.replica_log.proofs.replaying.redo_all.Goals as goal

pub redo-requires-clause-comes : goal.redo-requires-clause-comes
redo-requires-clause-comes c =
    let sound = c.requires.sound in
    comes_at sound.0 c.args.members.now c.args.journal.now c.loop-entry.entry-index c.entry-item.result sound.1 c.loop-entry-test.true
    c.entry-item.is sound.2

pub loop-entry-preserved : goal.loop-entry-preserved
loop-entry-preserved c =
    replays_more c.args.members.now c.args.replica.now.me c.args.journal.now c.loop-entry.entry-index c.entry-item.result c.loop-entry.replica
    c.redo.new.replica c.loop-entry-test.true c.loop-entry.invariant c.entry-item.is c.in_ok-redo.ensures

pub returns : goal.returns
returns c =
    λ m. replays_all c.args.members.now c.args.replica.now.me c.args.journal.now c.loop-entry.entry-index c.loop-entry.replica m
    c.loop-entry-test.false c.loop-entry.invariant
