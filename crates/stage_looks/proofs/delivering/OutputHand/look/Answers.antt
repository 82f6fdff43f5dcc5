use Rattle.std.proofs.Common.{◌≡◌, [], refl, sym, ◌∙◌}
use Rattle.stage_looks.specs.Sending.{unsent}
use Rattle.stage_looks.proofs.Outgoing.{emptied, after_none}
use Rattle.stage_looks.proofs.delivering.OutputHand.look.Goals as goal

pub fetch-requires-clause-delivers : goal.fetch-requires-clause-delivers
fetch-requires-clause-delivers g c =
    let a = c.args.self.now in
    let none : unsent a ≡ [] = c.in-None.ensures.parcels ∙ c.in-None.ensures.none refl in
    emptied g.P.Party.made c.args.turn.now a c.next_parcel.new.self c.next_parcel.ensures.same.0 c.next_parcel.ensures.same.1 none c.requires.fits

pub fetch-requires-clause-none : goal.fetch-requires-clause-none
fetch-requires-clause-none g c = c.in-None.ensures.none refl

pub returns-in-None-clause-refused : goal.returns-in-None-clause-refused
returns-in-None-clause-refused g c = λ e.
    let none : unsent c.args.self.now ≡ [] = c.in-None.ensures.parcels ∙ c.in-None.ensures.none refl in (
      (c.fetch.ensures.refused e).0 ∙ sym none,
      after_none c.args.self.now c.next_parcel.new.self c.fetch.new.self c.next_parcel.ensures.same.1 (c.fetch.ensures.refused e).1,
    )
