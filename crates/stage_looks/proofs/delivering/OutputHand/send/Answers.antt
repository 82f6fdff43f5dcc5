use Rattle.std.proofs.Common.{refl}
use Rattle.stage_looks.specs.declared.delivering.OutputHand.{OutputHand}
use Rattle.stage_looks.proofs.Outgoing.{sent_once}
use Rattle.stage_looks.proofs.delivering.OutputHand.send.Goals as goal

pub returns-clause-fits : goal.returns-clause-fits
returns-clause-fits g c =
    let a = c.args.self.now in
    let left = c.post-left.result.0 in
    let b : OutputHand g.row.P.Denot = record { act = a.act; outlets = c.post-left.new.outlets; first = left; rest = a.rest; told = a.told } in
    sent_once g.P.Party.made c.args.turn.now a b c.args.parcel left c.requires.free refl refl refl c.post-left.ensures.apart c.post-left.ensures.sent
    c.requires.delivers
