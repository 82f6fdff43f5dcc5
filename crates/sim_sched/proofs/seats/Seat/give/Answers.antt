use Rattle.std.proofs.Common.{◌∙◌}
use Rattle.run_words.specs.declared.party.Told.{Told}
use Rattle.sim_sched.proofs.SeatFacts.{given}
use Rattle.sim_sched.proofs.seats.Seat.give.Goals as goal

pub returns-in-Core : goal.returns-in-Core
returns-in-Core g c =
    let h = given _ _ _ _ c.args.mover _ (Told.Core c.in-Core.answer) _ _ c.args.self.now.way.items c.args.self.now.refused c.act_of.ensures
    c.in-Core.ensures.made c.requires c.in-Core.ensures.open.1 c.in-Core.ensures.acted in
    (h.0, c.new.ensures ∙ h.1, c.makes_entry-entered.ensures ∙ h.2)

pub returns-in-Out : goal.returns-in-Out
returns-in-Out g c = given _ _ _ _ c.args.mover _ (Told.Out c.in-Out.parcels) _ _ c.args.self.now.way.items c.args.self.now.refused c.act_of.ensures c.in-Out.ensures.made c.requires c.in-Out.ensures.open.1 c.in-Out.ensures.acted

pub returns-in-KeySpent : goal.returns-in-KeySpent
returns-in-KeySpent g c =
    let h = given _ _ _ _ c.args.mover _ (Told.KeySpent c.in-KeySpent.used) _ _ c.args.self.now.way.items c.args.self.now.refused
    c.act_of.ensures c.in-KeySpent.ensures.made c.requires c.in-KeySpent.ensures.open.1 c.in-KeySpent.ensures.acted in
    (h.0, c.new-in-KeySpent.ensures ∙ h.1, h.2)
