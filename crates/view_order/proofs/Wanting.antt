-- A view that is joined is above the wanted one.
use Rattle.std.proofs.Common.{◌≡◌, ℕ, ◌<◌, min, Bool, true, false, cond, nat_lt, List, [], ◌∷◌, length, map, Option, Some, None, refl, subst, arith}
use Rattle.std.specs.List.{filter, range_with_len}
use Rattle.std.proofs.lemmas.Option.{same_Some}
use Rattle.fab_base.specs.Quorums.{greatest_faulty}
use Rattle.fab_base.specs.declared.messages.ViewChange.{ViewChange}
use Rattle.fab_base.proofs.Tests.{below}
use Rattle.fab_machine.specs.Changing.{view_of, views_above, least_of, least, view_to_join}

least_of_above : (wants x : ℕ) (views : List ℕ) → wants < x → wants < least_of x (filter (λ v. nat_lt wants v) views)
least_of_above wants x [] h = h
least_of_above wants x (y ∷ rest) h =
    go (least_of_above wants x rest h) (λ more. least_of_above wants (min x y) rest more) (nat_lt wants y) refl
  where
    go : wants < least_of x (filter (λ v. nat_lt wants v) rest) → (wants < min x y → wants < least_of (min x y) (filter (λ v. nat_lt wants v) rest))
        → (b : Bool) → nat_lt wants y ≡ b → wants < least_of x (cond b (y ∷ filter (λ v. nat_lt wants v) rest) (filter (λ v. nat_lt wants v) rest))
    go same less false e = same
    go same less true e = let other = below wants y e in less (omega (arith, h, other))

least_above : (wants v : ℕ) (views : List ℕ) → least (filter (λ u. nat_lt wants u) views) ≡ Some v → wants < v
least_above wants v [] e = cc
least_above wants v (y ∷ rest) e = go (least_above wants v rest) (nat_lt wants y) refl e
  where
    go : (least (filter (λ u. nat_lt wants u) rest) ≡ Some v → wants < v) → (b : Bool) → nat_lt wants y ≡ b
        → least (cond b (y ∷ filter (λ u. nat_lt wants u) rest) (filter (λ u. nat_lt wants u) rest)) ≡ Some v → wants < v
    go later false p q = later q
    go later true p q = subst (λ u. wants < u) (same_Some (least_of y (filter (λ u. nat_lt wants u) rest)) v q) (least_of_above wants y rest (below wants y p))

pub joins_above : (n : ℕ) (changes : List ViewChange) (wants v : ℕ) → view_to_join n changes wants ≡ Some v → wants < v
joins_above n changes wants v h = go (nat_lt (greatest_faulty n) (length (views_above n changes wants))) h
  where
    go : (b : Bool) → cond b (least (views_above n changes wants)) None ≡ Some v → wants < v
    go true e = least_above wants v (map (view_of changes) (range_with_len 0 n)) e
    go false e = cc
