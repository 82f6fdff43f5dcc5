use Rattle.std.proofs.Common.{sym, subst}
use Rattle.run_words.specs.declared.party.Act.{Act}
use Rattle.turn_lock.specs.Passes.{view, first_machine}
use Rattle.stage_looks.specs.Acts.{Hears}
use Rattle.stage_looks.specs.declared.hearing.Heard.{Heard}
use Rattle.stage_looks.proofs.Deeds.{hears_item, keeps_kind}
use Rattle.stage_looks.proofs.hearing.hear.Goals as goal

pub returns-in-Ok-clause-kinds : goal.returns-in-Ok-clause-kinds
returns-in-Ok-clause-kinds g c =
    keeps_kind g.P.Party.made (first_machine c.args.turn.now).first (Act.Hear c.args.item.origin c.args.item.heard) c.in-Ok.answer
    (view c.args.pass.now) (view c.act.new.pass) c.in-Ok.ensures.acted

pub returns-in-Ok-clause-hears : goal.returns-in-Ok-clause-hears
returns-in-Ok-clause-hears g c =
    let v = view c.args.pass.now in
    let w = view c.act.new.pass in
    subst (λ (x : Heard). Hears x c.args.item v w) (sym c.heard_of.ensures)
    (hears_item g.P.Party.made (first_machine c.args.turn.now).first c.args.item v w c.in-Ok.answer c.in-Ok.ensures.acted)
