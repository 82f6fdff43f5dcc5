use Rattle.std.proofs.Common.{◌≡◌, false, [], refl, sym, subst, add-zero, ◌∙◌}
use Rattle.fab_machine.specs.Step.{first}
use Rattle.replica_core.specs.Cores.{Machine}
use Rattle.run_words.specs.Journal.{needs_leaf}
use Rattle.replica_log.specs.Keeping.{maker_of}
use Rattle.replica_log.specs.Sending.{IsSpelledIn}
use Rattle.replica_log.proofs.Emitting.{IsReady, passed_ready, parcels_are, entered}
use Rattle.replica_log.proofs.Waiting.{first_spelled}
use Rattle.replica_log.proofs.keepers.Keeper.pass_on.Given
use Rattle.replica_log.proofs.keepers.Keeper.pass_on.Goals as goal

pub passing-requires-clause-spelled : goal.passing-requires-clause-spelled
passing-requires-clause-spelled g c =
    let k = c.args.self.now in
    let kept = c.requires.kept in
    subst (λ (core : Machine). needs_leaf k.me (first core.state) ≡ false → IsSpelledIn (first core.state)) (sym c.requires.live)
    (first_spelled (maker_of g.S.Signer.limit g.S.Signer.gives k) k.journal.items kept.limits kept.member kept.sound) c.requires.another

ready : (g : Given.Over) (c : goal.After-pass g)
    → IsReady (maker_of g.S.Signer.limit g.S.Signer.gives c.args.self.now) c.args.self.now.journal.items c.args.self.now.clock c.args.self.now.signed.items c.args.self.now.numbers
    (g.S.Signer.made c.args.self.now.signer) [] c.in_ok-out.out c.new-none.result
ready g c =
    let k = c.args.self.now in
    passed_ready (maker_of g.S.Signer.limit g.S.Signer.gives k) k.journal.items k.clock k.signed.items k.numbers (g.S.Signer.made k.signer) k.core
    c.in_ok-out.out c.requires.kept c.requires.live c.requires.waits c.new-none.result c.new-none.ensures c.requires.another c.in_ok-out.ensures

pub returns-in-Ok-clause-parcels : goal.returns-in-Ok-clause-parcels
returns-in-Ok-clause-parcels g c =
    let k = c.args.self.now in
    c.pass.ensures.parcels
    ∙ parcels_are (maker_of g.S.Signer.limit g.S.Signer.gives k) k.journal.items k.clock k.signed.items k.numbers (g.S.Signer.made k.signer)
    [] c.in_ok-out.out c.new-none.result (ready g c)

pub returns-in-Ok-clause-enters : goal.returns-in-Ok-clause-enters
returns-in-Ok-clause-enters g c =
    let k = c.args.self.now in
    entered g.S.Signer.limit g.S.Signer.made g.S.Signer.gives k _ c.pass.new.self [] c.in_ok-out.out c.new-none.result (ready g c) c.requires.live
    (record {
      me = refl;
      members = refl;
      ring = refl;
      core = refl;
      journal = c.reserve.ensures.items;
      clock = refl;
      earlier = refl;
      limit_is = refl;
      gives_is = refl;
      makes = sym (add-zero (g.S.Signer.made k.signer));
    })
    c.pass.ensures.sealed
