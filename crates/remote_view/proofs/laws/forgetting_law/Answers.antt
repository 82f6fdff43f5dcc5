use Rattle.std.proofs.Common.{refl}
use Rattle.remote_view.proofs.Letting.{heard_elsewhere, drvc_elsewhere, said_elsewhere, say_elsewhere, past_stays_so, start_stays_so}
use Rattle.remote_view.proofs.laws.forgetting_law.Goals as goal

pub returns : goal.returns
returns c = record {
  twice = heard_elsewhere;
  drvc = drvc_elsewhere;
  said = said_elsewhere;
  say = say_elsewhere;
  rvc = λ s target round plea. refl;
  past = past_stays_so;
  start = start_stays_so;
}
