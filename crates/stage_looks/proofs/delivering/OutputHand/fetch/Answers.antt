use Rattle.std.proofs.Common.{◌≡◌, refl, sym, ap, subst, ◌∙◌}
use Rattle.std.specs.Prelude.{◌++◌, option_to_list}
use Rattle.std.specs.Vec.Iter.{into_iter_items}
use Rattle.stage_looks.specs.Sending.{Delivers, unsent}
use Rattle.stage_looks.specs.declared.delivering.OutputHand.{OutputHand}
use Rattle.stage_looks.proofs.Outgoing.{fetched, same_all}
use Rattle.stage_looks.proofs.delivering.OutputHand.fetch.Goals as goal

pub returns-in-Out-clause-fits : goal.returns-in-Out-clause-fits
returns-in-Out-clause-fits g c =
    let a = c.args.self.now in
    let made = g.P.Party.made in
    let turn = c.args.turn.now in
    let b : OutputHand g.row.P.Denot = record { act = c.emit.new.pass; outlets = a.outlets; first = a.first; rest = c.into_iter.result; told = a.told } in
    let now : unsent b ≡ c.in-Out.parcels =
    ap (λ f. option_to_list f ++ into_iter_items c.into_iter.result) c.requires.free ∙ c.into_iter.ensures.rest ∙ c.into_vec.ensures in
    subst (Delivers made turn b) (sym now)
    (fetched made turn a b c.in-Out.parcels refl c.emit.ensures.pass c.emit.ensures.kinds c.in-Out.ensures.sends c.requires.delivers)

pub returns-in-Out-clause-same : goal.returns-in-Out-clause-same
returns-in-Out-clause-same g c = record { numbers_are = c.emit.ensures.numbers; outlets_are = same_all c.args.self.now.outlets.items }

pub returns-in-Nothing-clause-same : goal.returns-in-Nothing-clause-same
returns-in-Nothing-clause-same g c = record { numbers_are = c.emit.ensures.numbers; outlets_are = same_all c.args.self.now.outlets.items }

pub returns-in-Lost-clause-same : goal.returns-in-Lost-clause-same
returns-in-Lost-clause-same g c = record { numbers_are = c.emit.ensures.numbers; outlets_are = same_all c.args.self.now.outlets.items }

pub returns-in-Busy-clause-same : goal.returns-in-Busy-clause-same
returns-in-Busy-clause-same g c = record { numbers_are = c.emit.ensures.numbers; outlets_are = same_all c.args.self.now.outlets.items }
