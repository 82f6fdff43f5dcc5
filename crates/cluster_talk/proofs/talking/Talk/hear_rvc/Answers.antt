use Rattle.std.proofs.Common.{sym, ap, subst, rules, ◌∙◌}
use Rattle.std.specs.Bool.{IsTrue}
use Rattle.fab_base.specs.Roster.{is_replica}
use Rattle.cluster_talk.specs.Talking.{AreClusters}
use Rattle.cluster_talk.proofs.Asking.{one_more_asks}
use Rattle.cluster_talk.proofs.talking.Talk.hear_rvc.Goals as goal

pub invariant_of-self-in_err-note_asker : goal.invariant_of-self-in_err-note_asker
invariant_of-self-in_err-note_asker c = record {
  roster_is = search rules;
  me_is = search rules;
  member = c.self.invariant.member;
  asking = subst (AreClusters c.self.inside.members) (sym c.in_err-note_asker.ensures.err) c.self.invariant.asking;
}

pub invariant_of-self-2 : goal.invariant_of-self-2
invariant_of-self-2 c =
    let r = c.self.inside.members in
    let signer = subst (λ x. IsTrue (is_replica x c.args.plea.signer)) (sym (ap (λ t. t.pleading.roster) c.self.view_is) ∙ c.self.invariant.roster_is) c.requires.signer in
    record {
      roster_is = search rules;
      me_is = search rules;
      member = c.self.invariant.member;
      asking = subst (AreClusters r) (sym c.in_ok-note_asker.ensures.noted)
          (one_more_asks r c.self.inside.askers.items c.args.plea c.in_ok-plight.plight c.self.invariant.asking signer);
    }
