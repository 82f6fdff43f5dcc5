use Rattle.std.proofs.Common.{sym, subst}
use Rattle.parcel_post.specs.Posting.{AreSpelled}
use Rattle.replica_log.proofs.Traces.{spelled}
use Rattle.replica_log.proofs.keepers.Keeper.parcels.Goals as goal

pub parcels_of-requires : goal.parcels_of-requires
parcels_of-requires g c =
    subst AreSpelled (sym c.deref.ensures.value) (spelled g.S.Signer.limit g.S.Signer.made g.S.Signer.gives c.args.self.now c.requires)
