use Rattle.std.proofs.Common.{sym, subst}
use Rattle.run_words.specs.declared.party.Act.{Act}
use Rattle.turn_lock.specs.Passes.{view, first_machine}
use Rattle.party_turn.specs.Turns.{Acts}
use Rattle.stage_looks.specs.Acts.{Does}
use Rattle.stage_looks.specs.declared.doing.Did.{Did}
use Rattle.stage_looks.proofs.Deeds.{keeps_doing, does_own}
use Rattle.stage_looks.proofs.doing.advance.Goals as goal

pub returns-in-Ok-clause-kinds : goal.returns-in-Ok-clause-kinds
returns-in-Ok-clause-kinds g c =
    let made = g.P.Party.made in
    let first = (first_machine c.args.turn.now).first in
    let v = view c.args.pass.now in
    let w = view c.act.new.pass in
    let acted = subst (λ (call : Act). Acts made first v call c.in-Ok.answer w) c.act_of.ensures c.in-Ok.ensures.acted in
    λ a. keeps_doing made first c.args.mover c.in-Ok.answer v w c.requires.own acted a

pub returns-in-Ok-clause-does : goal.returns-in-Ok-clause-does
returns-in-Ok-clause-does g c =
    let made = g.P.Party.made in
    let first = (first_machine c.args.turn.now).first in
    let v = view c.args.pass.now in
    let w = view c.act.new.pass in
    let acted = subst (λ (call : Act). Acts made first v call c.in-Ok.answer w) c.act_of.ensures c.in-Ok.ensures.acted in
    subst (λ (x : Did). Does (made first) c.args.mover x v w) (sym c.did_of.ensures) (does_own made first c.args.mover c.in-Ok.answer v w acted)
