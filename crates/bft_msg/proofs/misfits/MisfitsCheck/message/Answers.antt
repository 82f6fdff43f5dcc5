use Rattle.std.proofs.Common.{subst}
use Rattle.bft_msg.specs.Ready.{IsReady}
use Rattle.bft_msg.proofs.Ready.{proposal_clients}
use Rattle.bft_msg.proofs.misfits.MisfitsCheck.message.Goals as goal

pub is_proposal-requires-clause-clients : goal.is_proposal-requires-clause-clients
is_proposal-requires-clause-clients c =
    proposal_clients c.args.self.now.members.now c.in-PrePrepare.x (subst (IsReady c.args.self.now.members.now) c.in-PrePrepare.is c.requires.may)
