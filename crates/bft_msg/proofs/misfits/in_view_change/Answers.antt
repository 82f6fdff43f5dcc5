use Rattle.bft_msg.proofs.Ready.{change_clients}
use Rattle.bft_msg.proofs.misfits.in_view_change.Goals as goal

pub is_view_change-requires : goal.is_view_change-requires
is_view_change-requires c = change_clients c.args.members.now c.args.change.now c.requires
