use Rattle.party_turn.proofs.Legals.{history}
use Rattle.party_turn.proofs.laws.history_law.Goals as goal

pub returns : goal.returns
returns g c = history g.P.Party.made
