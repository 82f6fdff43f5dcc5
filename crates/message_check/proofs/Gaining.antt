-- One more item that passes a test.
use Rattle.std.proofs.Common.{◌≡◌, ◌∙◌, ◌&&◌, ◌++◌, Bool, true, List, [], ◌∷◌, refl, sym, subst}
use Rattle.std.specs.List.{list_all}
use Rattle.std.proofs.lemmas.List.Folds.{list_all-append}
use Rattle.fab_base.proofs.Tests.{and_both}

pub one_more : {X : Type 0} (p : X → Bool) (before now : List X) (x : X) → now ≡ before ++ x ∷ [] → list_all p before ≡ true → p x ≡ true
    → list_all p now ≡ true
one_more p before now x is all passes =
    subst (λ xs. list_all p xs ≡ true) (sym is)
    (list_all-append p before (x ∷ []) ∙ and_both (list_all p before) (p x && true) all (and_both (p x) true passes refl))
