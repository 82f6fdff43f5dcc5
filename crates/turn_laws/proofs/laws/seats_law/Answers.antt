use Rattle.turn_laws.proofs.Seats.{kinds, hears, emits, heard_all, puts_all, still}
use Rattle.turn_laws.proofs.laws.seats_law.Goals as goal

pub returns : goal.returns
returns g c =
    let made = g.P.Party.made in
    record { kinds = kinds made; hears = hears made; emits = emits made; heard = heard_all; put = puts_all; still = still made }
