-- What holds of each replica at one time and at another.
use Rattle.std.proofs.Common.{◌≡◌, List, [], ◌∷◌, ◌++◌, refl, sym, ap, subst, ◌∙◌, inl, inr, append_assoc}
use Rattle.fab_base.specs.declared.ids.ReplicaId.{ReplicaId}
use Rattle.fab_rules.specs.Lists.{In, IsPrefixOf}
use Rattle.turn_laws.specs.Copies.{from, asked}
use Rattle.turn_laws.specs.Ends.{End}
use Rattle.turn_laws.specs.Pauses.{AreOn}

-- ---- beginnings

pub prefix_self : {X : Type 0} (l : List X) → IsPrefixOf l l
prefix_self [] = ([], refl)
prefix_self (x ∷ l) = let h = prefix_self l in (h.0, ap (λ t. x ∷ t) h.1)

pub prefix_both : {X : Type 0} (a b c : List X) → IsPrefixOf a b → IsPrefixOf b c → IsPrefixOf a c
prefix_both a b c h k = (h.0 ++ k.0, sym (append_assoc a h.0 k.0) ∙ ap (λ l. l ++ k.0) h.1 ∙ k.1)

-- ---- a replica goes on

-- its journal, and what was taken of each link and of the requests
pub record Grows (a b : End) : Type 0 where
  pub maker : b.maker ≡ a.maker
  pub journal : IsPrefixOf a.journal b.journal
  pub links : (i : ReplicaId) → IsPrefixOf (from i a.took) (from i b.took)
  pub requests : IsPrefixOf (asked a.took) (asked b.took)

pub grows_both : (a b c : End) → Grows a b → Grows b c → Grows a c
grows_both a b c h k = record {
  maker = k.maker ∙ h.maker;
  journal = prefix_both a.journal b.journal c.journal h.journal k.journal;
  links = λ i. prefix_both (from i a.took) (from i b.took) (from i c.took) (h.links i) (k.links i);
  requests = prefix_both (asked a.took) (asked b.took) (asked c.took) h.requests k.requests;
}

-- ---- pairs

module _ (R : End → End → Type 0) where
  -- the one before, and the one after
  pub record BeforeOf (olds : List End) (b : End) : Type 0 where
    pub end : End
    pub there : In end olds
    pub holds : R end b

  pub record AfterOf (news : List End) (a : End) : Type 0 where
    pub end : End
    pub there : In end news
    pub holds : R a end

  pub before_of : (olds news : List End) (b : End) → AreOn R olds news → In b news → BeforeOf olds b
  before_of [] [] b h i = absurd i
  before_of [] (y ∷ news) b h i = absurd h
  before_of (x ∷ olds) [] b h i = absurd h
  before_of (x ∷ olds) (y ∷ news) b h (inl e) = record { end = x; there = inl refl; holds = subst (R x) e h.0 }
  before_of (x ∷ olds) (y ∷ news) b h (inr i) = let k = before_of olds news b h.1 i in record { end = k.end; there = inr k.there; holds = k.holds }

  pub after_of : (olds news : List End) (a : End) → AreOn R olds news → In a olds → AfterOf news a
  after_of [] [] a h i = absurd i
  after_of [] (y ∷ news) a h i = absurd h
  after_of (x ∷ olds) [] a h i = absurd h
  after_of (x ∷ olds) (y ∷ news) a h (inl e) = record { end = y; there = inl refl; holds = subst (λ (z : End). R z y) e h.0 }
  after_of (x ∷ olds) (y ∷ news) a h (inr i) = let k = after_of olds news a h.1 i in record { end = k.end; there = inr k.there; holds = k.holds }

pub on_as : (R S : End → End → Type 0) (olds news : List End) → ((a b : End) → R a b → S a b) → AreOn R olds news → AreOn S olds news
on_as R S [] [] f h = tt
on_as R S [] (y ∷ news) f h = absurd h
on_as R S (x ∷ olds) [] f h = absurd h
on_as R S (x ∷ olds) (y ∷ news) f h = (f x y h.0, on_as R S olds news f h.1)

pub on_both : (R S T : End → End → Type 0) (olds news cs : List End) → ((a b c : End) → R a b → S b c → T a c) → AreOn R olds news → AreOn S news cs → AreOn T olds cs
on_both R S T [] [] [] f h k = tt
on_both R S T [] [] (z ∷ cs) f h k = absurd k
on_both R S T [] (y ∷ news) cs f h k = absurd h
on_both R S T (x ∷ olds) [] cs f h k = absurd h
on_both R S T (x ∷ olds) (y ∷ news) [] f h k = absurd k
on_both R S T (x ∷ olds) (y ∷ news) (z ∷ cs) f h k = (f x y z h.0 k.0, on_both R S T olds news cs f h.1 k.1)
