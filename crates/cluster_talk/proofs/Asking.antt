-- Who asks is a cluster.
use Rattle.std.proofs.Common.{◌≡◌, Bool, true, false, cond, List, [], ◌∷◌, ◌++◌, inl, inr, subst}
use Rattle.std.specs.Bool.{IsTrue}
use Rattle.fab_base.specs.Limits.{Roster}
use Rattle.fab_base.specs.Roster.{is_cluster, is_replica}
use Rattle.fab_base.specs.declared.messages.Plea.{Plea}
use Rattle.fab_base.proofs.Tests.{and_left}
use Rattle.fab_rules.specs.Lists.{In}
use Rattle.fab_rules.proofs.Lists.{in_append_cases}
use Rattle.remote_view.specs.declared.plight.Plight.{Plight}
use Rattle.fab_machine.specs.Pleading.{has_asker}
use Rattle.fab_machine.specs.declared.askers.Asker.{Asker}
use Rattle.cluster_talk.specs.Talking.{AreClusters, askers_after}

pub none_asks : (r : Roster) (askers : List Asker) → askers ≡ [] → AreClusters r askers
none_asks r askers e a h = absurd (subst (In a) e h)

-- one more may have asked
pub one_more_asks : (r : Roster) (askers : List Asker) (p : Plea) (plight : Plight) → AreClusters r askers → IsTrue (is_replica r p.signer)
    → AreClusters r (askers_after askers p plight)
one_more_asks r askers p Plight.Start old signer a = go (has_asker askers (record { cluster = p.signer.cluster; round = p.round }))
  where
    new : Asker
    new = record { cluster = p.signer.cluster; round = p.round }

    go : (b : Bool) → In a (cond b askers (askers ++ new ∷ [])) → IsTrue (is_cluster r a.cluster)
    go true h = old a h
    go false h =
        elim (in_append_cases a askers (new ∷ []) h) as (λ _. IsTrue (is_cluster r a.cluster)) [
          | inl k ↦ old a k
          | inr (inl e) ↦ subst (λ x. IsTrue (is_cluster r x.cluster)) e (and_left (is_cluster r p.signer.cluster) _ signer)
          | inr (inr none) ↦ absurd none
        ]
one_more_asks r askers p Plight.Kept old signer a = old a
one_more_asks r askers p Plight.Twice old signer a = old a
one_more_asks r askers p (Plight.Past at) old signer a = old a
one_more_asks r askers p Plight.Join old signer a = old a
one_more_asks r askers p (Plight.Send joins) old signer a = old a
