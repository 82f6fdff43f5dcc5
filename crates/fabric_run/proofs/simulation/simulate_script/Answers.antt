use Rattle.fabric_run.specs.Exits.{seen}
use Rattle.fabric_run.proofs.Endings.{run_from_ends}
use Rattle.fabric_run.proofs.Simulations.{safe_from, printed_from, cause_from}
use Rattle.fabric_run.proofs.simulation.simulate_script.Goals as goal

pub returns-clause-run : goal.returns-clause-run
returns-clause-run g c = run_from_ends _ _ _ _ c.run.ensures.ends

pub returns-clause-safe : goal.returns-clause-safe
returns-clause-safe g c =
    safe_from (seen (g.S.Source.supply c.args.script.now) (g.K.Sink.intake c.args.report.now))
    (seen (g.S.Source.supply c.run.new.script) (g.K.Sink.intake c.run.new.report))
    c.args.kept.now c.run.new.kept c.run.result c.run.ensures.ends c.run.ensures.kept

pub returns-clause-printed : goal.returns-clause-printed
returns-clause-printed g c =
    printed_from (g.S.Source.supply c.args.script.now) (g.S.Source.supply c.run.new.script) c.args.kept.now c.run.new.kept c.run.result c.run.ensures.kept

pub returns-clause-cause : goal.returns-clause-cause
returns-clause-cause g c =
    cause_from (seen (g.S.Source.supply c.args.script.now) (g.K.Sink.intake c.args.report.now))
    (seen (g.S.Source.supply c.run.new.script) (g.K.Sink.intake c.run.new.report))
    c.args.kept.now c.run.new.kept c.run.result c.run.ensures.ends c.run.ensures.kept
