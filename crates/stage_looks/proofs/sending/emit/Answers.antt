use Rattle.std.proofs.Common.{sym, subst}
use Rattle.run_words.specs.declared.party.Act.{Act}
use Rattle.turn_lock.specs.Passes.{view, numbers, seats, first_machine}
use Rattle.stage_looks.specs.Acts.{Sends}
use Rattle.stage_looks.specs.declared.sending.Sent.{Sent}
use Rattle.stage_looks.proofs.Deeds.{sends_first, keeps_kind}
use Rattle.stage_looks.proofs.sending.emit.Goals as goal

pub returns-in-Ok-clause-kinds : goal.returns-in-Ok-clause-kinds
returns-in-Ok-clause-kinds g c =
    keeps_kind g.P.Party.made (first_machine c.args.turn.now).first Act.Emit c.in-Ok.answer (view c.args.pass.now) (view c.act.new.pass)
    c.in-Ok.ensures.acted

pub returns-in-Ok-clause-sends : goal.returns-in-Ok-clause-sends
returns-in-Ok-clause-sends g c =
    let made = g.P.Party.made in
    let first = (first_machine c.args.turn.now).first in
    let v = view c.args.pass.now in
    let w = view c.act.new.pass in
    subst (λ (x : Sent). Sends (made first) x v w) (sym c.sent_of.ensures)
    (sends_first made first (seats c.args.turn.now) (numbers c.args.pass.now) (numbers c.act.new.pass) v w c.in-Ok.answer c.requires.pass.knows
    c.act.ensures.pass.knows.numbers_are c.act.ensures.numbers c.in-Ok.ensures.acted)
