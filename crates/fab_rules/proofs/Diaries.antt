-- Diaries: what an entry owed to those before it, which of two entries came first, and the first new view.
use Rattle.std.proofs.Common.{◌≡◌, ℕ, Bool, true, false, cond, nat_eq, ◌&&◌, List, [], ◌∷◌, ◌⊎◌, inl, inr, Option, Some, None, refl, sym, ap, subst, ◌∙◌, arith}
use Rattle.std.proofs.lemmas.Bool.Decides.{nat_tests}
use Rattle.fab_base.specs.Limits.{Roster}
use Rattle.fab_base.specs.declared.ids.ReplicaId.{ReplicaId}
use Rattle.fab_base.specs.declared.messages.NewView.{NewView}
use Rattle.fab_base.specs.declared.messages.Message.{Message}
use Rattle.fab_rules.specs.Lists.{In, IsPrefixOf}
use Rattle.fab_rules.specs.Diary.{Entry, Heard, Said, Did, ledger, as_new_view, or_else, first_new_view}
use Rattle.fab_rules.specs.Rules.{May, KeepsRules}
use Rattle.fab_rules.proofs.Lists.{prefix_refl, prefix_trans}

-- an entry more leaves the beginning of the ledger
ledger_grows : (e : Entry) (past : List Entry) → IsPrefixOf (ledger past) (ledger (e ∷ past))
ledger_grows (Heard m) past = prefix_refl (ledger past)
ledger_grows (Said m) past = prefix_refl (ledger past)
ledger_grows (Did block) past = (block ∷ [], refl)

-- where an entry stands in a diary: what was before it, and that it kept the rules then
pub record Kept (r : Roster) (i : ReplicaId) (diary : List Entry) (e : Entry) : Type 0 where
  pub past : List Entry
  pub may : May r i past e
  pub within : (x : Entry) → In x past → In x diary
  pub done : IsPrefixOf (ledger past) (ledger diary)

pub kept : (r : Roster) (i : ReplicaId) (diary : List Entry) (e : Entry) → KeepsRules r i diary → In e diary → Kept r i diary e
kept r i [] e rules h = absurd h
kept r i (x ∷ past) e rules (inl same) =
    record { past = past; may = subst (May r i past) same rules.0; within = λ y k. inr k; done = ledger_grows x past }
kept r i (x ∷ past) e rules (inr h) =
    let k = kept r i past e rules.1 h in
    record {
      past = k.past;
      may = k.may;
      within = λ y q. inr (k.within y q);
      done = prefix_trans (ledger k.past) (ledger past) (ledger (x ∷ past)) k.done (ledger_grows x past);
    }

-- the later of two entries kept the rules when the first was there
pub record KeptAfter (r : Roster) (i : ReplicaId) (diary : List Entry) (first later : Entry) : Type 0 where
  pub past : List Entry
  pub may : May r i past later
  pub before : In first past

still_after : (r : Roster) (i : ReplicaId) (x : Entry) (diary : List Entry) (a b : Entry) → KeptAfter r i diary a b
    → KeptAfter r i (x ∷ diary) a b
still_after r i x diary a b k = record { past = k.past; may = k.may; before = k.before }

-- of two entries of a diary one came first, or they are the same
pub in_order : (r : Roster) (i : ReplicaId) (diary : List Entry) (a b : Entry) → KeepsRules r i diary → In a diary → In b diary
    → (a ≡ b) ⊎ (KeptAfter r i diary a b ⊎ KeptAfter r i diary b a)
in_order r i [] a b rules p q = absurd p
in_order r i (x ∷ past) a b rules (inl e) (inl f) = inl (sym e ∙ f)
in_order r i (x ∷ past) a b rules (inl e) (inr q) = inr (inr (record { past = past; may = subst (May r i past) e rules.0; before = q }))
in_order r i (x ∷ past) a b rules (inr p) (inl f) = inr (inl (record { past = past; may = subst (May r i past) f rules.0; before = p }))
in_order r i (x ∷ past) a b rules (inr p) (inr q) =
    elim (in_order r i past a b rules.1 p q) [
      | inl e ↦ inl e
      | inr (inl k) ↦ inr (inl (still_after r i x past a b k))
      | inr (inr k) ↦ inr (inr (still_after r i x past b a k))
    ]

-- ---- the first new view

pub record IsFirst (cluster view : ℕ) (diary : List Entry) (x : NewView) : Type 0 where
  pub heard : In (Heard (Message.NewView x)) diary
  pub cluster_is : x.signer.cluster ≡ cluster
  pub view_is : x.view ≡ view

both_equal : (a b c d : ℕ) → (nat_eq a b && nat_eq c d) ≡ true → (a ≡ b) × (c ≡ d)
both_equal a b c d h = grind (arith, nat_tests)

is_new_view : (cluster view : ℕ) (m : Message) (x : NewView) → as_new_view cluster view m ≡ Some x
    → (m ≡ Message.NewView x) × (x.signer.cluster ≡ cluster) × (x.view ≡ view)
is_new_view cluster view (Message.NewView y) x e = go (nat_eq y.signer.cluster cluster && nat_eq y.view view) refl e
  where
    go : (t : Bool) → (nat_eq y.signer.cluster cluster && nat_eq y.view view) ≡ t → cond t (Some y) None ≡ Some x
        → (Message.NewView y ≡ Message.NewView x) × (x.signer.cluster ≡ cluster) × (x.view ≡ view)
    go true h q =
        let same : y ≡ x = cc in
        let equal = both_equal y.signer.cluster cluster y.view view h in
        (ap Message.NewView same, ap (λ z. z.signer.cluster) (sym same) ∙ equal.0, ap (λ z. z.view) (sym same) ∙ equal.1)
    go false h q = cc
is_new_view cluster view m x e = cc

still_first : (e : Entry) (cluster view : ℕ) (diary : List Entry) (x : NewView) → IsFirst cluster view diary x
    → IsFirst cluster view (e ∷ diary) x
still_first e cluster view diary x f = record { heard = inr f.heard; cluster_is = f.cluster_is; view_is = f.view_is }

-- it was heard, and is of the cluster and view
pub first_is : (cluster view : ℕ) (diary : List Entry) (x : NewView) → first_new_view cluster view diary ≡ Some x
    → IsFirst cluster view diary x
first_is cluster view [] x e = cc
first_is cluster view (Said m ∷ past) x e = still_first (Said m) cluster view past x (first_is cluster view past x e)
first_is cluster view (Did block ∷ past) x e = still_first (Did block) cluster view past x (first_is cluster view past x e)
first_is cluster view (Heard m ∷ past) x e = go (first_new_view cluster view past) (first_is cluster view past x) e
  where
    go : (o : Option NewView) → (o ≡ Some x → IsFirst cluster view past x) → or_else o (as_new_view cluster view m) ≡ Some x
        → IsFirst cluster view (Heard m ∷ past) x
    go None rest q =
        let is = is_new_view cluster view m x q in
        record { heard = inl (ap Heard is.0); cluster_is = is.1; view_is = is.2 }
    go (Some y) rest q = still_first (Heard m) cluster view past x (rest q)
