use Rattle.std.proofs.Common.{◌≡◌, refl, sym, ap, subst, ◌∙◌}
use Rattle.std.specs.Prelude.{IfOk}
use Rattle.bft_msg.specs.Judged.{Judged}
use Rattle.bft_verify.specs.Ring.{Ring}
use Rattle.bft_verify.specs.Sound.{IsSound}
use Rattle.fab_base.specs.Limits.{Roster}
use Rattle.fab_machine.specs.Step as machine
use Rattle.replica_core.specs.Cores.{Machine}
use Rattle.replica_core.specs.declared.events.Event.{Event}
use Rattle.run_words.specs.Acts.{answer_to}
use Rattle.replica_log.specs.Keeping.{maker_of}
use Rattle.replica_log.proofs.Heard.{hears, stays}
use Rattle.replica_log.proofs.Stepping.{answers}
use Rattle.replica_log.proofs.keepers.Keeper.take.Goals as goal

pub returns-clause-enters : goal.returns-clause-enters
returns-clause-enters g c =
    let old = c.args.self.now in
    let x = c.args.heard.message in
    let sound : IsSound old.members old.ring x =
    subst (λ (r : Roster). IsSound r old.ring x) c.requires.members
    (subst (λ (k : Ring). IsSound c.args.heard.members k x) c.requires.ring c.into_shaped.ensures.sound) in
    hears g.S.Signer.limit g.S.Signer.made g.S.Signer.gives old _ (Event.Hear c.into_shaped.result) x c.args.hearing.entry c.args.hearing.clock refl
    c.requires.kept c.requires.live (ap (λ (j : Judged). machine.Event.Hear j.message) c.into_shaped.ensures.is) sound c.requires.entry c.requires.clock
    c.enter-answer.result c.enter-answer.ensures.answer c.enter-answer.ensures.core c.enter-answer.ensures.journal c.clock_after-self.ensures

pub enter-answer-requires-clause-event : goal.enter-answer-requires-clause-event
enter-answer-requires-clause-event g c =
    ap (λ (j : Judged). j.members) c.into_shaped.ensures.is ∙ c.requires.members ∙ sym (ap (λ (k : Machine). k.roster) c.requires.live)

pub returns-clause-answer : goal.returns-clause-answer
returns-clause-answer g c =
    let k = c.args.self.now in
    subst (λ (event : machine.Event). IfOk c.enter-answer.result (λ answer. answer ≡ answer_to (maker_of g.S.Signer.limit g.S.Signer.gives k) k.journal.items event))
    (ap (λ (j : Judged). machine.Event.Hear j.message) c.into_shaped.ensures.is)
    (answers g.S.Signer.limit g.S.Signer.gives k (Event.Hear c.into_shaped.result) c.requires.live c.enter-answer.result c.enter-answer.ensures.answer)

pub returns-clause-stays : goal.returns-clause-stays
returns-clause-stays g c =
    stays g.S.Signer.limit g.S.Signer.made g.S.Signer.gives c.args.self.now _ c.args.hearing.entry c.args.hearing.clock refl c.requires.kept
    c.enter-answer.result c.enter-answer.ensures.journal c.clock_after-self.ensures
