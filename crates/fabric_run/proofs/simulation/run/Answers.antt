use Rattle.fabric_run.specs.Exits.{seen}
use Rattle.fabric_run.proofs.Simulations.{ends_so}
use Rattle.fabric_run.proofs.simulation.run.Goals as goal

pub returns-clause-ends : goal.returns-clause-ends
returns-clause-ends g c =
    let made = c.in-Ok-simulation_of.simulation in
    ends_so (seen (g.S.Source.supply c.args.script.now) (g.K.Sink.intake c.args.report.now))
    (seen (g.S.Source.supply c.script_from.new.source) (g.K.Sink.intake c.hand_over.new.sink))
    c.in-Ok.script made.transcript made.end made.text c.as_slice.result.now c.exit_of-exit.result c.hand_over.result
    c.in-Ok.ensures.script c.in-Ok-simulation_of.ensures c.as_slice.ensures c.exit_of-exit.ensures c.hand_over.ensures
