-- A message without a stranger: none has a part in what stands in it, so each part is ready.
use Rattle.std.specs.List.{AllByRecursion, flat_map}
use Rattle.std.proofs.Common.{◌≡◌, ℕ, ◌+◌, Bool, true, false, List, [], ◌∷◌, ◌++◌, map, refl, sym, subst}
use Rattle.fab_base.specs.Limits.{Roster}
use Rattle.fab_base.specs.declared.messages.PreparedCert.{PreparedCert}
use Rattle.fab_base.specs.declared.messages.ViewChange.{ViewChange}
use Rattle.fab_base.specs.declared.messages.Message.{Message}
use Rattle.fab_rules.specs.declared.misfits.Misfit.{Misfit}
use Rattle.fab_rules.specs.Format.{fields_fit}
use Rattle.fab_rules.specs.Shape.{is_known, unless, numbered, stranger_at}
use Rattle.fab_rules.specs.Statements.{parts_of_certificate, parts_of_change, parts_of}
use Rattle.bft_msg.specs.Ready.{IsReady}
use Rattle.bft_msg.proofs.Alls.{all_left, all_right, all_append}
use Rattle.bft_msg.proofs.Fitting.{parts_fit}

-- ---- each part is known

tested : (t : Bool) (x : Misfit) (rest : List Misfit) → unless t x ++ rest ≡ [] → t ≡ true
tested true x rest e = refl
tested false x rest e = cc

others : (t : Bool) (x : Misfit) (rest : List Misfit) → unless t x ++ rest ≡ [] → rest ≡ []
others true x rest e = e
others false x rest e = cc

all_known : (r : Roster) (k : ℕ) (ps : List Message) → numbered (stranger_at r) k ps ≡ [] → AllByRecursion (λ p. is_known r p ≡ true) ps
all_known r k [] e = tt
all_known r k (p ∷ ps) e =
    let rest : List Misfit = numbered (stranger_at r) (k + 1) ps in (
      tested (is_known r p) (Misfit.Stranger k) rest e,
      all_known r (k + 1) ps (others (is_known r p) (Misfit.Stranger k) rest e),
    )

-- ---- and the parts of each part are parts

module _ (P : Message → Type 0) where
  abbrev Deep : Message → Type 0
  Deep p = AllByRecursion P (parts_of p)

  alone : {X : Type 0} (f : X → Message) → ((x : X) → parts_of (f x) ≡ f x ∷ []) → (xs : List X) → AllByRecursion P (map f xs)
      → AllByRecursion Deep (map f xs)
  alone f same [] h = tt
  alone f same (x ∷ xs) h = (subst (AllByRecursion P) (sym (same x)) (h.0, tt), alone f same xs h.1)

  each : {X : Type 0} (parts : X → List Message) → ((x : X) → AllByRecursion P (parts x) → AllByRecursion Deep (parts x)) → (xs : List X)
      → AllByRecursion P (flat_map parts xs) → AllByRecursion Deep (flat_map parts xs)
  each parts inner [] h = tt
  each parts inner (x ∷ xs) h =
      all_append Deep (parts x) (flat_map parts xs) (inner x (all_left P (parts x) (flat_map parts xs) h))
      (each parts inner xs (all_right P (parts x) (flat_map parts xs) h))

  both : (ps qs : List Message) → (AllByRecursion P ps → AllByRecursion Deep ps) → (AllByRecursion P qs → AllByRecursion Deep qs)
      → AllByRecursion P (ps ++ qs) → AllByRecursion Deep (ps ++ qs)
  both ps qs f g h = all_append Deep ps qs (f (all_left P ps qs h)) (g (all_right P ps qs h))

  in_certificate : (k : PreparedCert) → AllByRecursion P (parts_of_certificate k) → AllByRecursion Deep (parts_of_certificate k)
  in_certificate k h =
      both (map Message.Request k.batch) (map Message.Prepare k.votes) (alone Message.Request (λ x. refl) k.batch)
      (alone Message.Prepare (λ x. refl) k.votes) h

  in_change : (c : ViewChange) → AllByRecursion P (parts_of_change c) → AllByRecursion Deep (parts_of_change c)
  in_change c h = (
    h,
    both (map Message.Checkpoint c.proof) (flat_map parts_of_certificate c.prepared) (alone Message.Checkpoint (λ x. refl) c.proof)
        (each parts_of_certificate in_certificate c.prepared) h.1,
  )

  deep : (m : Message) → AllByRecursion P (parts_of m) → AllByRecursion Deep (parts_of m)
  deep (Message.Request x) h = (h, tt)
  deep (Message.PrePrepare x) h = (h, alone Message.Request (λ y. refl) x.batch h.1)
  deep (Message.Prepare x) h = (h, tt)
  deep (Message.Commit x) h = (h, tt)
  deep (Message.Checkpoint x) h = (h, tt)
  deep (Message.ViewChange x) h = in_change x h
  deep (Message.NewView x) h = (h, each parts_of_change in_change x.changes h.1)
  deep (Message.Drvc x) h = (h, tt)
  deep (Message.Rvc x) h = (h, tt)
  deep (Message.ReplyNote x) h = (h, tt)
  deep (Message.Share x) h = (
    h,
    both (map Message.Request x.batch) (map Message.Commit x.votes) (alone Message.Request (λ y. refl) x.batch)
        (alone Message.Commit (λ y. refl) x.votes) h.1,
  )
  deep (Message.Fetch x) h = (h, tt)

-- ---- so each part is ready

all_ready : (r : Roster) (ps : List Message) → AllByRecursion (λ p. fields_fit p ≡ true) ps
    → AllByRecursion (λ p. AllByRecursion (λ q. is_known r q ≡ true) (parts_of p)) ps → AllByRecursion (IsReady r) ps
all_ready r [] h k = tt
all_ready r (p ∷ ps) h k = (record { fits = h.0; known = k.0 }, all_ready r ps h.1 k.1)

pub parts_ready : (r : Roster) (m : Message) → fields_fit m ≡ true → numbered (stranger_at r) 0 (parts_of m) ≡ [] → AllByRecursion (IsReady r) (parts_of m)
parts_ready r m h e =
    all_ready r (parts_of m) (parts_fit m h) (deep (λ q. is_known r q ≡ true) m (all_known r 0 (parts_of m) e))
