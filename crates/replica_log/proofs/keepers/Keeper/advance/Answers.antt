use Rattle.std.proofs.Common.{refl, ap, cond, List, [], ◌∷◌, ◌++◌, ◌∙◌}
use Rattle.run_words.specs.declared.logs.Entry.{Entry}
use Rattle.replica_log.specs.Entering.{has_entry}
use Rattle.replica_log.proofs.Going.{advances, moving_for}
use Rattle.replica_log.proofs.Stepping.{answers, stays}
use Rattle.replica_log.proofs.keepers.Keeper.advance.Goals as goal

pub returns-clause-moves : goal.returns-clause-moves
returns-clause-moves g c =
    advances g.S.Signer.limit g.S.Signer.made g.S.Signer.gives c.args.self.now _ c.args.event c.args.entry refl c.requires.kept c.requires.live
    c.requires.moving c.enter.result c.enter.ensures.answer c.enter.ensures.core
    (c.enter.ensures.journal ∙ ap (λ (l : List Entry). cond (has_entry c.enter.result) (l ++ c.args.entry ∷ []) l) c.reserve.ensures.items)

pub enter-requires-clause-event : goal.enter-requires-clause-event
enter-requires-clause-event g c = moving_for _ c.args.event c.args.entry c.requires.moving

pub returns-clause-answer : goal.returns-clause-answer
returns-clause-answer g c =
    answers g.S.Signer.limit g.S.Signer.gives c.args.self.now c.args.event c.requires.live c.enter.result c.enter.ensures.answer

pub returns-clause-stays : goal.returns-clause-stays
returns-clause-stays g c =
    stays g.S.Signer.limit g.S.Signer.made g.S.Signer.gives c.args.self.now _ c.args.entry refl c.requires.kept c.enter.result
    (c.enter.ensures.journal ∙ ap (λ (l : List Entry). cond (has_entry c.enter.result) (l ++ c.args.entry ∷ []) l) c.reserve.ensures.items)
