-- A run put together from what each replica left behind.
use Rattle.std.proofs.Common.{◌≡◌, ℕ, false, cond, List, [], ◌∷◌, ◌++◌, map, refl, sym, ap, subst, ◌∙◌, inl, inr, append-nil}
use Rattle.fab_base.specs.declared.ids.ReplicaId.{ReplicaId}
use Rattle.fab_rules.specs.Lists.{In}
use Rattle.run_words.specs.Keyed.{is_same, of}
use Rattle.run_words.specs.Journal.{Maker}
use Rattle.run_words.specs.Runs.{Run, Phase}
use Rattle.run_words.specs.Lawful.{IsApart, AreApart}
use Rattle.run_words.specs.declared.logs.Moment.{Moment}
use Rattle.run_words.proofs.Keys.{same_self, other_turned, of-append}
use Rattle.run_words.proofs.Counts.{IsIn, apart_from}
use Rattle.turn_laws.specs.Copies.{refused}
use Rattle.turn_laws.specs.Ends.{End}
use Rattle.turn_laws.proofs.Feeding.{spelled_of}

abbrev pub maker_at : End → Maker
maker_at e = e.maker

abbrev pub makers_at : List End → List Maker
makers_at ends = map maker_at ends

abbrev pub tagged : {X : Type 0} → (End → List X) → List End → List (ReplicaId × X)
tagged f [] = []
tagged {X} f (e ∷ rest) = map (λ (x : X). (e.maker.id, x)) (f e) ++ tagged f rest

abbrev pub run_at : List End → List Moment → ℕ → Run
run_at ends moments left = record {
  done = tagged (λ e. e.journal) ends;
  way = tagged (λ e. e.left ++ spelled_of e.unheard) ends;
  turned = tagged (λ e. refused e.maker e.took) ends;
  picks = 0;
  given = [];
  lines = [];
  left = left;
  moments = moments;
  phase = Phase.Ended false;
}

pub is_in : (e : End) (ends : List End) → In e ends → IsIn e.maker (makers_at ends)
is_in e [] h = absurd h
is_in e (x ∷ rest) (inl q) = inl (sym (ap maker_at q))
is_in e (x ∷ rest) (inr h) = inr (is_in e rest h)

pub maker_in : (e : End) (ends : List End) → In e ends → In e.maker (makers_at ends)
maker_in e [] h = absurd h
maker_in e (x ∷ rest) (inl q) = inl (ap maker_at q)
maker_in e (x ∷ rest) (inr h) = inr (maker_in e rest h)

pub record EndOf (ends : List End) (m : Maker) : Type 0 where
  pub end : End
  pub there : In end ends
  pub same : end.maker ≡ m

pub end_of : (m : Maker) (ends : List End) → IsIn m (makers_at ends) → EndOf ends m
end_of m [] h = absurd h
end_of m (x ∷ rest) (inl e) = record { end = x; there = inl refl; same = sym e }
end_of m (x ∷ rest) (inr h) = let k = end_of m rest h in record { end = k.end; there = inr k.there; same = k.same }

mine : {X : Type 0} (i : ReplicaId) (xs : List X) → of i (map (λ (x : X). (i, x)) xs) ≡ xs
mine i [] = refl
mine i (x ∷ xs) = ap (λ b. cond b (x ∷ of i (map (λ y. (i, y)) xs)) (of i (map (λ y. (i, y)) xs))) (same_self i) ∙ ap (λ l. x ∷ l) (mine i xs)

others : {X : Type 0} (i j : ReplicaId) (xs : List X) → is_same i j ≡ false → of i (map (λ (x : X). (j, x)) xs) ≡ []
others i j [] e = refl
others i j (x ∷ xs) e = ap (λ b. cond b (x ∷ of i (map (λ y. (j, y)) xs)) (of i (map (λ y. (j, y)) xs))) e ∙ others i j xs e

none_of : {X : Type 0} (m : Maker) (f : End → List X) (ends : List End) → IsApart m (makers_at ends) → of m.id (tagged f ends) ≡ []
none_of m f [] a = refl
none_of {X} m f (x ∷ rest) a =
    of-append m.id (map (λ (y : X). (x.maker.id, y)) (f x)) (tagged f rest)
    ∙ ap (λ l. l ++ of m.id (tagged f rest)) (others m.id x.maker.id (f x) a.0) ∙ none_of m f rest a.1

pub tag_is : {X : Type 0} (e : End) (f : End → List X) (ends : List End) → AreApart (makers_at ends) → In e ends
    → of e.maker.id (tagged f ends) ≡ f e
tag_is e f [] a h = absurd h
tag_is {X} e f (x ∷ rest) a (inl q) =
    subst (λ (y : End). of y.maker.id (tagged f (x ∷ rest)) ≡ f y) q
    (of-append x.maker.id (map (λ (y : X). (x.maker.id, y)) (f x)) (tagged f rest)
    ∙ ap (λ l. l ++ of x.maker.id (tagged f rest)) (mine x.maker.id (f x)) ∙ ap (λ l. f x ++ l) (none_of x.maker f rest a.0) ∙ append-nil (f x))
tag_is {X} e f (x ∷ rest) a (inr h) =
    let apart : is_same e.maker.id x.maker.id ≡ false = other_turned x.maker.id e.maker.id (apart_from x.maker e.maker (makers_at rest) a.0 (is_in e rest h)) in
    of-append e.maker.id (map (λ (y : X). (x.maker.id, y)) (f x)) (tagged f rest)
    ∙ ap (λ l. l ++ of e.maker.id (tagged f rest)) (others e.maker.id x.maker.id (f x) apart) ∙ tag_is e f rest a.1 h
