-- What follows from pleas: of which cluster a certificate may be missing, and what an Rvc brings about.
use Rattle.std.proofs.Common.{◌≡◌, ℕ, ◌≤◌, Bool, List, ◌++◌, length, nat_le, Some, Result, Ok, Err, refl, sym, ap, subst, ◌∙◌}
use Rattle.std.specs.Bool.{IsTrue}
use Rattle.fab_base.specs.Limits.{Roster}
use Rattle.fab_base.specs.Roster.{is_cluster}
use Rattle.fab_base.specs.declared.ids.ReplicaId.{ReplicaId}
use Rattle.fab_base.specs.declared.messages.Plea.{Plea}
use Rattle.fab_base.specs.declared.answers.Item.{Item}
use Rattle.fab_base.proofs.Tests.{and_both, is_at_most}
use Rattle.fab_rules.specs.declared.blocks.Block.{Block}
use Rattle.remote_view.specs.declared.plight.Plight.{Plight}
use Rattle.remote_view.specs.Plights.{is_start}
use Rattle.remote_view.specs.Pleading.{rvc_of, rvc_plight, rvc_counts, after_rvc}
use Rattle.fab_machine.specs.State.{Rounds, Replica}
use Rattle.fab_machine.specs.Rounds.{next_round}
use Rattle.fab_machine.specs.Pleading.{passed_rvc, after_start, rvc_counted}
use Rattle.fab_machine.proofs.Keeping.{is_missing}
use Rattle.view_order.specs.Views.{Views}
use Rattle.round_exec.specs.Book.{Book, missing_of}
use Rattle.cluster_talk.specs.Talking.{Talking, askers_after, after_hearing}
use Rattle.replica_core.specs.Inside.{Assembly, AreParts, seen, started, with_state}

-- it is one of the clusters
pub missing_cluster : (r : Roster) (clusters : ℕ) (t : Rounds) (missing : ℕ) → clusters ≡ length r.sizes → Some missing ≡ missing_of (next_round clusters t)
    → IsTrue (is_cluster r missing)
missing_cluster r clusters t missing size e = go (next_round clusters t) refl e
  where
    go : (o : Result (List Block) ℕ) → next_round clusters t ≡ o → Some missing ≡ missing_of o → IsTrue (is_cluster r missing)
    go (Ok blocks) f h = absurd cc
    go (Err cluster) f h =
        let same : missing ≡ cluster = cc in
        let m = is_missing clusters t cluster f in
        subst (λ c. IsTrue (is_cluster r c)) (sym same)
        (and_both (nat_le 1 cluster) _ (is_at_most 1 cluster m.0) (is_at_most cluster (length r.sizes) (subst (λ n. cluster ≤ n) size m.1)))

-- it is noted who asks before the next view is asked for
pub rvc_starts : (r : Roster) (me : ReplicaId) (s : Replica) (p : Plea) (passed : List Item) (plight : Plight)
    → started r me (record s { pleading = after_rvc s.pleading (rvc_of p); askers = askers_after s.askers p plight; outbox = s.outbox ++ passed }) (is_start plight)
    ≡ after_start r me (record s { pleading = after_rvc s.pleading (rvc_of p); outbox = s.outbox ++ passed }) p plight
rvc_starts r me s p passed Plight.Start = refl
rvc_starts r me s p passed Plight.Kept = refl
rvc_starts r me s p passed Plight.Twice = refl
rvc_starts r me s p passed (Plight.Past at) = refl
rvc_starts r me s p passed Plight.Join = refl
rvc_starts r me s p passed (Plight.Send joins) = refl

-- an Rvc was counted, what goes on of it waits, and the next view was asked for where enough were heard
pub rvc_told : (old now : Assembly) (me : ReplicaId) (o : Views) (b : Book) (t told : Talking) (waiting more items : List Item) (p : Plea) (starts : Bool)
    → seen o b t waiting ≡ old → AreParts me o b t → told ≡ after_hearing t p
    → items ≡ passed_rvc t.roster t.me p (rvc_counts t.pleading (rvc_of p)) → more ≡ waiting ++ items → starts ≡ is_start (rvc_plight t.pleading (rvc_of p))
    → now ≡ with_state (seen o b told more) (started o.roster o.me (seen o b told more).state starts)
    → now ≡ with_state old (rvc_counted old.roster old.me old.state p (rvc_plight old.state.pleading (rvc_of p))).state
rvc_told old now me o b t told waiting more items p starts view parts heard goes joins enough is =
    subst (λ a. now ≡ with_state a (rvc_counted a.roster a.me a.state p (rvc_plight a.state.pleading (rvc_of p))).state) view
    (is
    ∙ (ap (λ x. after x more starts) heard
    ∙ (ap (λ w. after (after_hearing t p) w starts) (joins ∙ ap (λ l. waiting ++ l) on)
    ∙ (ap (after (after_hearing t p) (waiting ++ passed)) enough
    ∙ ap (with_state (seen o b t waiting)) (rvc_starts o.roster o.me (seen o b t waiting).state p passed (rvc_plight t.pleading (rvc_of p)))))))
  where
    passed : List Item
    passed = passed_rvc o.roster o.me p (rvc_counts t.pleading (rvc_of p))

    on : items ≡ passed
    on =
        goes
        ∙ (ap (λ r. passed_rvc r t.me p (rvc_counts t.pleading (rvc_of p))) parts.talks_in
        ∙ ap (λ i. passed_rvc o.roster i p (rvc_counts t.pleading (rvc_of p))) parts.talks_as)

    after : Talking → List Item → Bool → Assembly
    after x w st = with_state (seen o b x w) (started o.roster o.me (seen o b x w).state st)
