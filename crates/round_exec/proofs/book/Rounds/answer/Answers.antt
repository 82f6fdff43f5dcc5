use Rattle.std.proofs.Common.{sym}
use Rattle.round_exec.proofs.Gathered.{kept_fits}
use Rattle.round_exec.proofs.book.Rounds.answer.Goals as goal

pub batch_digest-kept-requires : goal.batch_digest-kept-requires
batch_digest-kept-requires c =
    kept_fits _ _ c.self.inside.certificates c.round_of-round.result c.args.cert.now.cluster c.in-Some.first.now c.self.invariant (sym c.in-Some.ensures)
