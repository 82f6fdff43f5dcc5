use Rattle.bft_msg.proofs.Ready.{share_clients}
use Rattle.bft_msg.proofs.misfits.in_share.Goals as goal

pub is_batch_of-requires : goal.is_batch_of-requires
is_batch_of-requires c = share_clients c.args.members.now c.args.share.now c.requires
