use Rattle.replica_log.proofs.Following.{replay_is}
use Rattle.replica_log.proofs.replaying.replayed.Goals as goal

pub returns : goal.returns
returns c =
    let h = c.requires in
    replay_is c.replay.result h.maker c.args.members.now c.in_ok-share.field-0 c.args.trace.now c.as_slice.result.now c.in_ok-share.ensures c.as_slice.ensures
    h.roster_is h.id_is c.replay.ensures
