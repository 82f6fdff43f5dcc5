use Rattle.vote_certs.proofs.Meaning.{senders_rise, senders_are}
use Rattle.vote_certs.proofs.counting.senders_law.Goals as goal

pub returns-clause-rising : goal.returns-clause-rising
returns-clause-rising g c = senders_rise g.V.PartialEq.eq

pub returns-clause-each : goal.returns-clause-each
returns-clause-each g c = senders_are g.V.PartialEq.eq g.met.V.Exact.exact g.met.V.Eq.laws.refl
