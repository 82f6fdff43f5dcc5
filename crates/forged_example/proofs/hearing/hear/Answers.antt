use Rattle.run_words.specs.declared.logs.Origin.{Origin}
use Rattle.forged_example.proofs.Hearings.{stands, on_ok, on_err}
use Rattle.forged_example.proofs.hearing.hear.Goals as goal
use Rattle.forged_example.proofs.hearing.hear.Goals.{in-NoMemory, in_default}

pub returns : goal.returns
returns c =
    elim c.match-act.branch [
      | in-NoMemory w ↦ on_err c.match-act.result _ _ w.result-is
      | in_default w ↦ on_ok c.match-act.result _
          (stands c.args.log.now c.act.new.self (Origin.Replica c.args.from 0) c.args.heard c.act.result w.in_default.not-NoMemory c.act.ensures.made
          c.act.ensures.acted c.act.ensures.open c.requires.made c.requires.sound)
    ]
