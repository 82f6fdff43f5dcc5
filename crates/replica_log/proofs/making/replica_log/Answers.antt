use Rattle.std.proofs.Common.{refl}
use Rattle.replica_log.proofs.Started.{starts}
use Rattle.replica_log.proofs.making.replica_log.Goals as goal

pub invariant_of-result : goal.invariant_of-result
invariant_of-result g c =
    starts g.S.Signer.limit g.S.Signer.made g.S.Signer.gives _ c.clusters-clusters.ensures.limits c.requires.member
    (record {
      key = g.S.Signer.key c.args.signer;
      is_key = c.requires.key;
      valid = λ k content lt. g.met.S.Signer.valid c.args.signer k content lt;
      fits = c.requires.fits;
    })
    refl c.new.ensures.items c.new-2.ensures.items c.new-3.ensures c.requires.unused
    c.in-Ok.ensures
