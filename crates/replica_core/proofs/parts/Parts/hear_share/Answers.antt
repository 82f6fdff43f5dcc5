use Rattle.replica_core.proofs.Outs.{share_kept}
use Rattle.replica_core.proofs.parts.Parts.hear_share.Goals as goal

pub take_answer-how-requires : goal.take_answer-how-requires
take_answer-how-requires c = share_kept c.args.self.now.roster c.args.self.now.me c.args.cert c.requires.limits c.requires.member c.requires.shaped

pub keep-requires : goal.keep-requires
keep-requires c = share_kept c.args.self.now.roster c.args.self.now.me c.args.cert c.requires.limits c.requires.member c.requires.shaped
