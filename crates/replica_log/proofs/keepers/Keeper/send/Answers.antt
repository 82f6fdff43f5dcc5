use Rattle.std.proofs.Common.{[], ◌∷◌, refl, ◌∙◌}
use Rattle.replica_log.specs.Keeping.{maker_of}
use Rattle.lms_tree.specs.Signatures.{tree_signature_len}
use Rattle.replica_log.proofs.Emitting.{IsReady, signed_ready, parcels_are, entered}
use Rattle.replica_log.proofs.keepers.Keeper.send.Given
use Rattle.replica_log.proofs.keepers.Keeper.send.Goals as goal

ready : (g : Given.Over) (c : goal.After-seal g)
    → IsReady (maker_of g.S.Signer.limit g.S.Signer.gives c.args.self.now) c.args.self.now.journal.items c.args.self.now.clock c.args.self.now.signed.items c.args.self.now.numbers
    (g.S.Signer.made c.args.self.now.signer) (c.in_ok-out.out.content ∷ []) c.in_ok-out.out.parcels c.in-Ok.sig
ready g c =
    let k = c.args.self.now in
    signed_ready (maker_of g.S.Signer.limit g.S.Signer.gives k) k.journal.items k.clock k.signed.items k.numbers (g.S.Signer.made k.signer) k.core
    c.in_ok-out.out.parcels c.requires.kept c.requires.live c.requires.waits c.in_ok-out.out.content c.in-Ok.sig
    (tree_signature_len (g.S.Signer.key k.signer).ots (g.S.Signer.key k.signer).height) c.requires.own c.requires.unspent
    c.in_ok-out.ensures.content c.in_ok-out.ensures.parcels c.as_slice.result.now c.as_slice.ensures c.in-Ok.ensures.signed.0 c.in-Ok.ensures.len

pub returns-in-Ok-clause-parcels : goal.returns-in-Ok-clause-parcels
returns-in-Ok-clause-parcels g c =
    let k = c.args.self.now in
    c.seal.ensures.parcels
    ∙ parcels_are (maker_of g.S.Signer.limit g.S.Signer.gives k) k.journal.items k.clock k.signed.items k.numbers (g.S.Signer.made k.signer)
    (c.in_ok-out.out.content ∷ []) c.in_ok-out.out.parcels c.in-Ok.sig (ready g c)

pub returns-in-Ok-clause-enters : goal.returns-in-Ok-clause-enters
returns-in-Ok-clause-enters g c =
    let k = c.args.self.now in
    entered g.S.Signer.limit g.S.Signer.made g.S.Signer.gives k _ c.seal.new.self (c.in_ok-out.out.content ∷ []) c.in_ok-out.out.parcels c.in-Ok.sig
    (ready g c) c.requires.live
    (record {
      me = refl;
      members = refl;
      ring = refl;
      core = refl;
      journal = c.sign-sig.ensures.items.0;
      clock = refl;
      earlier = c.sign-sig.ensures.items.1;
      limit_is = c.sign-sig.ensures.same.1;
      gives_is = c.sign-sig.ensures.same.2;
      makes = c.in-Ok.ensures.signed.1;
    })
    c.seal.ensures.sealed
