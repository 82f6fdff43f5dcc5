use Rattle.std.proofs.Common.{◌≡◌, List, ap, subst, ◌∙◌}
use Rattle.run_words.specs.Journal.{Maker}
use Rattle.run_words.specs.Acts.{Acted}
use Rattle.run_words.specs.declared.logs.Entry.{Entry}
use Rattle.party_turn.specs.Playing.{Actor}
use Rattle.party_turn.proofs.Entering.{played}
use Rattle.party_turn.proofs.acting.ActingMachine.play.Goals as goal

pub returns-clause-played : goal.returns-clause-played
returns-clause-played g c =
    let J = g.P.Party in
    let now = c.args.self.now in
    let made_is : J.made c.self.inside.party ≡ J.made now.first = c.self.invariant ∙ ap (λ (a : Actor _). J.made a.first) c.self.view_is in
    let journal_is : J.journal c.self.inside.party ≡ J.journal now.party = ap (λ (a : Actor _). J.journal a.party) c.self.view_is in
    let acted : Acted (J.made now.first) (J.journal now.party) c.args.act c.act-told.result (J.journal c.act-told.new.self) =
    subst (λ (m : Maker). Acted m (J.journal now.party) c.args.act c.act-told.result (J.journal c.act-told.new.self)) made_is
    (subst (λ (j : List Entry). Acted (J.made c.self.inside.party) j c.args.act c.act-told.result (J.journal c.act-told.new.self)) journal_is c.act-told.ensures.acted) in
    played (J.made now.first) (J.journal now.party) c.args.act (record { told = c.act-told.result; entries = c.entries-entries.result })
    (J.journal c.act-told.new.self) c.requires c.see_sound.ensures acted c.entries-entries.ensures
