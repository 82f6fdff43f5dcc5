-- The first ViewChange that passes a test.
use Rattle.std.proofs.Common.{◌≡◌, Bool, true, false, cond, List, [], ◌∷◌, Some, refl, ap, ◌∙◌}
use Rattle.std.specs.List.{filter, find}
use Rattle.fab_base.specs.declared.messages.ViewChange.{ViewChange}
use Rattle.fab_rules.specs.Lists.{first_of}

pub find_first : (p : ViewChange → Bool) (changes : List ViewChange) → find p changes ≡ first_of (filter p changes)
find_first p [] = refl
find_first p (c ∷ changes) = ap (λ r. cond (p c) (Some c) r) (find_first p changes) ∙ go (p c)
  where
    go : (t : Bool) → cond t (Some c) (first_of (filter p changes)) ≡ first_of (cond t (c ∷ filter p changes) (filter p changes))
    go true = refl
    go false = refl
