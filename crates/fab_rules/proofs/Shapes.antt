-- What no misfit means: each fact of a shaped new view that the laws take.
use Rattle.std.proofs.Common.{◌≡◌, ℕ, ◌+◌, ◌<◌, ◌≤◌, Bool, true, false, ◌&&◌, nat_eq, nat_lt, List, [], ◌∷◌, ◌++◌, length, map, inl, inr, refl, sym, ap, subst, ◌∙◌, arith, None}
use Rattle.std.specs.List.{flat_map}
use Rattle.std.proofs.lemmas.List.{length-map}
use Rattle.std.proofs.lemmas.Bool.Decides.{nat_tests}
use Rattle.fab_base.specs.Limits.{Roster}
use Rattle.fab_base.specs.Digests.{same_digest}
use Rattle.fab_base.specs.Quorums.{quorum_size, IsRisingFrom, IsQuorum}
use Rattle.fab_base.specs.Roster.{is_cluster, is_replica, size_of}
use Rattle.fab_base.specs.declared.ids.ReplicaId.{ReplicaId}
use Rattle.fab_base.specs.declared.messages.Vote.{Vote}
use Rattle.fab_base.specs.declared.messages.PreparedCert.{PreparedCert}
use Rattle.fab_base.specs.declared.messages.ViewChange.{ViewChange}
use Rattle.fab_base.specs.declared.messages.NewView.{NewView}
use Rattle.fab_base.specs.declared.messages.Message.{Message}
use Rattle.fab_rules.specs.declared.misfits.Misfit.{Misfit}
use Rattle.fab_rules.specs.Lists.{In, first_of, leads_by, rises_by}
use Rattle.fab_rules.specs.Format.{comes_before, view_changes_fit}
use Rattle.fab_rules.specs.Digests.{batch_digest}
use Rattle.fab_rules.specs.Statements.{parts_of}
use Rattle.fab_rules.specs.Shape.{is_known, is_report_of, is_new_view, keeps_shape, agrees_with, agree, bear_digest, is_prepared, unless, numbered, stranger_at, prepared_misfits, certificate_misfits, misfits_at, misfits, first_misfit, IsShaped}
use Rattle.fab_rules.specs.Quoted.{IsOlderCertificate, IsShownBy}
use Rattle.fab_base.proofs.Tests.{and_left, and_right, below, same}
use Rattle.fab_base.proofs.Digests.{is_same_digest}
use Rattle.fab_rules.proofs.Lists.{each_passes}
use Rattle.fab_rules.proofs.Fitting.{fields_are, votes_rise, certificate_votes_fit, each_certificate_fits, changes_are, changes_rise, each_change_fits}
use Rattle.fab_rules.proofs.Parts.{change_is_part, prepare_is_part}

-- ---- lists of misfits that are empty

left_is_nil : {X : Type 0} (xs ys : List X) → xs ++ ys ≡ [] → xs ≡ []
left_is_nil [] ys e = refl
left_is_nil (x ∷ xs) ys e = cc

right_is_nil : {X : Type 0} (xs ys : List X) → xs ++ ys ≡ [] → ys ≡ []
right_is_nil [] ys e = e
right_is_nil (x ∷ xs) ys e = cc

passes : (t : Bool) (x : Misfit) → unless t x ≡ [] → t ≡ true
passes true x e = refl
passes false x e = cc

none_of_numbered : {X : Type 0} (f : ℕ → Message → List X) (k : ℕ) (ps : List Message) (p : Message) → numbered f k ps ≡ [] → In p ps
    → (j : ℕ) × (f j p ≡ [])
none_of_numbered f k [] p e h = absurd h
none_of_numbered f k (q ∷ ps) p e (inl s) = (k, ap (f k) (sym s) ∙ left_is_nil (f k q) (numbered f (k + 1) ps) e)
none_of_numbered f k (q ∷ ps) p e (inr h) = none_of_numbered f (k + 1) ps p (right_is_nil (f k q) (numbered f (k + 1) ps) e) h

none_of_joined : {X Y : Type 0} (f : X → List Y) (xs : List X) (x : X) → flat_map f xs ≡ [] → In x xs → f x ≡ []
none_of_joined f [] x e h = absurd h
none_of_joined f (y ∷ xs) x e (inl s) = ap f (sym s) ∙ left_is_nil (f y) (flat_map f xs) e
none_of_joined f (y ∷ xs) x e (inr h) = none_of_joined f xs x (right_is_nil (f y) (flat_map f xs) e) h

-- the list is empty exactly where nothing is answered
pub misfits_from_first : (r : Roster) (m : Message) → first_misfit r m ≡ None → misfits r m ≡ []
misfits_from_first r m e = go (misfits r m) e
  where
    go : (xs : List Misfit) → first_of xs ≡ None → xs ≡ []
    go [] h = refl
    go (x ∷ xs) h = cc

pub first_from_misfits : (r : Roster) (m : Message) → misfits r m ≡ [] → first_misfit r m ≡ None
first_from_misfits r m e = ap first_of e

-- ---- distinct signers

record IsMember (n cluster : ℕ) (i : ReplicaId) : Type 0 where
  cluster_is : i.cluster ≡ cluster
  in_range : i.index < n

next_above : (i j : ReplicaId) → comes_before i j ≡ true → i.cluster ≡ j.cluster → i.index + 1 ≤ j.index
next_above i j h e = grind (arith, nat_tests)

module _ {X : Type 0} (signer : X → ReplicaId) (n cluster : ℕ) where
  abbrev begins_from : ℕ → List X → Type 0
  begins_from least [] = Unit {0}
  begins_from least (x ∷ xs) = least ≤ (signer x).index

  next_begins : (x : X) (xs : List X) → IsMember n cluster (signer x) → ((y : X) → In y xs → IsMember n cluster (signer y))
      → leads_by comes_before (signer x) (map signer xs) ≡ true → begins_from ((signer x).index + 1) xs
  next_begins x [] mx each h = tt
  next_begins x (y ∷ ys) mx each h = next_above (signer x) (signer y) h (mx.cluster_is ∙ sym (each y (inl refl)).cluster_is)

  -- signers of one cluster that rise are rising indexes
  rising : (least : ℕ) (xs : List X) → begins_from least xs → ((x : X) → In x xs → IsMember n cluster (signer x))
      → rises_by comes_before (map signer xs) ≡ true → IsRisingFrom least n (map (λ x. (signer x).index) xs)
  rising least [] first each h = tt
  rising least (x ∷ xs) first each h =
      let leads = and_left (leads_by comes_before (signer x) (map signer xs)) (rises_by comes_before (map signer xs)) h in
      let rest = and_right (leads_by comes_before (signer x) (map signer xs)) (rises_by comes_before (map signer xs)) h in
      let mx = each x (inl refl) in
      (first, mx.in_range, rising ((signer x).index + 1) xs (next_begins x xs mx (λ y k. each y (inr k)) leads) (λ y k. each y (inr k)) rest)

  begins_from_zero : (xs : List X) → begins_from 0 xs
  begins_from_zero [] = tt
  begins_from_zero (x ∷ xs) = omega arith

  -- so many of them are a quorum
  quorum_of : (xs : List X) → ((x : X) → In x xs → IsMember n cluster (signer x)) → rises_by comes_before (map signer xs) ≡ true
      → length xs ≡ quorum_size n → IsQuorum n (map (λ x. (signer x).index) xs)
  quorum_of xs each h long =
      record { rising = rising 0 xs (begins_from_zero xs) each h; enough = omega (arith, length-map xs (λ x. (signer x).index), long) }

member_index : (r : Roster) (i : ReplicaId) → is_replica r i ≡ true → i.index < size_of r i.cluster
member_index r i h = below i.index (size_of r i.cluster) (and_right (is_cluster r i.cluster) (nat_lt i.index (size_of r i.cluster)) h)

-- ---- a shaped new view

agreed : (cluster : ℕ) (votes : List Vote) (v : Vote) → agree cluster votes ≡ true → In v votes → v.signer.cluster ≡ cluster
agreed cluster [] v a h = absurd h
agreed cluster (first ∷ rest) v a h =
    same v.signer.cluster cluster (and_left _ _ (and_left _ _ (and_left _ _ (each_passes (agrees_with cluster first) (first ∷ rest) v a h))))

module _ (r : Roster) (x : NewView) (shaped : IsShaped r (Message.NewView x)) where
  abbrev parts : List Message
  parts = parts_of (Message.NewView x)

  known : (p : Message) → In p parts → is_known r p ≡ true
  known p h = passes _ _ (none_of_numbered (stranger_at r) 0 parts p (left_is_nil _ _ shaped.fitting) h).1

  well_shaped : (p : Message) → In p parts → keeps_shape r p ≡ true
  well_shaped p h = passes _ _ (left_is_nil _ _ (none_of_numbered (misfits_at r) 0 parts p (right_is_nil _ _ shaped.fitting) h).1)

  well_certified : (p : Message) → In p parts → (j : ℕ) × (certificate_misfits r j p ≡ [])
  well_certified p h =
      let at = none_of_numbered (misfits_at r) 0 parts p (right_is_nil _ _ shaped.fitting) h in
      (at.0, right_is_nil _ _ at.1)

  -- the rule of new views, and the format of its changes
  begun : is_new_view r x ≡ true
  begun = well_shaped (Message.NewView x) (inl refl)

  changes_fit : view_changes_fit x.changes ≡ true
  changes_fit = changes_are x (fields_are (Message.NewView x) shaped.spelled)

  change_of_it : (c : ViewChange) → In c x.changes → (nat_eq c.signer.cluster x.signer.cluster && nat_eq c.view x.view) ≡ true
  change_of_it c h = each_passes (λ y. nat_eq y.signer.cluster x.signer.cluster && nat_eq y.view x.view) x.changes c (and_right _ _ begun) h

  cluster_is : (c : ViewChange) → In c x.changes → c.signer.cluster ≡ x.signer.cluster
  cluster_is c h = same c.signer.cluster x.signer.cluster (and_left _ _ (change_of_it c h))

  view_is : (c : ViewChange) → In c x.changes → c.view ≡ x.view
  view_is c h = same c.view x.view (and_right _ _ (change_of_it c h))

  certificate : (c : ViewChange) → In c x.changes → (k : PreparedCert) → In k c.prepared → IsOlderCertificate r x.signer.cluster x.view k
  certificate c h k q =
      let reports = each_passes (is_report_of r c) c.prepared k (and_right _ _ (well_shaped (Message.ViewChange c) (change_is_part x c h))) q in
      let at = well_certified (Message.ViewChange c) (change_is_part x c h) in
      let fitting = none_of_joined (prepared_misfits r at.0 c.signer.cluster) c.prepared k (right_is_nil _ _ at.1) q in
      let prepared : is_prepared r c.signer.cluster k ≡ true = passes _ _ (left_is_nil _ _ fitting) in
      let digests : bear_digest k.batch k.votes ≡ true = passes _ _ (right_is_nil _ _ fitting) in
      let certificate_is = each_certificate_fits c k (each_change_fits x.changes c changes_fit h) q in
      let rise = votes_rise k.votes (certificate_votes_fit k certificate_is) in
      let long : length k.votes ≡ quorum_size (size_of r c.signer.cluster) = same _ _ (and_left _ _ (and_left _ _ prepared)) in
      let from : (v : Vote) → In v k.votes → v.signer.cluster ≡ c.signer.cluster =
      λ v l. agreed c.signer.cluster k.votes v (and_right _ _ (and_left _ _ prepared)) l in
      let member : (v : Vote) → In v k.votes → IsMember (size_of r c.signer.cluster) c.signer.cluster v.signer =
      λ v l. record {
        cluster_is = from v l;
        in_range = subst (λ z. v.signer.index < size_of r z) (from v l) (member_index r v.signer (known (Message.Prepare v) (prepare_is_part x c k v h q l)));
      } in
      record {
        older = subst (λ view. k.view < view) (view_is c h) (below k.view c.view (and_right _ _ reports));
        votes = record {
          quorum = subst (λ z. IsQuorum (size_of r z) (map (λ v. v.signer.index) k.votes)) (cluster_is c h)
              (quorum_of (λ v. v.signer) (size_of r c.signer.cluster) c.signer.cluster k.votes member rise long);
          members = λ v l. from v l ∙ cluster_is c h;
          equal = λ v l.
              (let at_slot = each_passes (λ y. nat_eq y.view k.view && nat_eq y.slot k.slot) k.votes v (and_right _ _ prepared) l in
              record {
                view_is = same v.view k.view (and_left _ _ at_slot);
                slot_is = same v.slot k.slot (and_right _ _ at_slot);
                digest_is = is_same_digest v.digest (batch_digest k.batch) (each_passes (λ y. same_digest y.digest (batch_digest k.batch)) k.votes v digests l);
              });
        };
      }

  pub shown : IsShownBy r x
  shown =
      record {
        quorum = quorum_of (λ c. c.signer) (size_of r x.signer.cluster) x.signer.cluster x.changes
            (λ c h. record {
              cluster_is = cluster_is c h;
              in_range = subst (λ z. c.signer.index < size_of r z) (cluster_is c h) (member_index r c.signer (known (Message.ViewChange c) (change_is_part x c h)));
            })
            (changes_rise x.changes changes_fit) (same _ _ (and_right _ _ (and_left _ _ begun)));
        members = cluster_is;
        views = view_is;
        certificates = certificate;
      }
