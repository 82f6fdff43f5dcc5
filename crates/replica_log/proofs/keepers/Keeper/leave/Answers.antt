use Rattle.std.proofs.Common.{◌∙◌}
use Rattle.replica_log.proofs.Traces.{leaves_all}
use Rattle.replica_log.proofs.keepers.Keeper.leave.Goals as goal

pub returns-in-Ok-clause-live : goal.returns-in-Ok-clause-live
returns-in-Ok-clause-live g c live =
    c.into_trace.ensures
    ∙ leaves_all g.S.Signer.limit g.S.Signer.made g.S.Signer.gives c.args.self c.requires.kept c.in-Ok.parcels c.in-Ok.ensures live
