-- Counts of which one is raised.
use Rattle.std.proofs.Common.{◌≡◌, ◌≢◌, ℕ, zero, suc, ◌+◌, ◌-◌, ◌≤◌, ◌<◌, Bool, true, false, max, List, [], ◌∷◌, length, get_or, slice_index, slice_set, refl, ap, arith}
use Rattle.remote_view.specs.declared.heard.Matter.{Matter}
use Rattle.remote_view.specs.Pleading.{with_least, raised}

-- the count at the place
pub least_there : (counts : List ℕ) (place least : ℕ) → slice_index (with_least counts place least) place ≡ max (slice_index counts place) least
least_there [] zero least = omega arith
least_there [] (suc place) least = least_there [] place least
least_there (count ∷ rest) zero least = refl
least_there (count ∷ rest) (suc place) least = least_there rest place least

-- and at another one
pub least_elsewhere : (counts : List ℕ) (place other least : ℕ) → place ≢ other → slice_index (with_least counts place least) other ≡ slice_index counts other
least_elsewhere [] zero zero least e = absurd (e refl)
least_elsewhere [] zero (suc other) least e = refl
least_elsewhere [] (suc place) zero least e = refl
least_elsewhere [] (suc place) (suc other) least e = least_elsewhere [] place other least (λ q. e (ap suc q))
least_elsewhere (count ∷ rest) zero zero least e = absurd (e refl)
least_elsewhere (count ∷ rest) zero (suc other) least e = refl
least_elsewhere (count ∷ rest) (suc place) zero least e = refl
least_elsewhere (count ∷ rest) (suc place) (suc other) least e = least_elsewhere rest place other least (λ q. e (ap suc q))

-- none falls
pub no_less : (counts : List ℕ) (place least other : ℕ) → slice_index counts other ≤ slice_index (with_least counts place least) other
no_less [] zero least zero = omega arith
no_less [] zero least (suc other) = omega arith
no_less [] (suc place) least zero = omega arith
no_less [] (suc place) least (suc other) = no_less [] place least other
no_less (count ∷ rest) zero least zero = omega arith
no_less (count ∷ rest) zero least (suc other) = omega arith
no_less (count ∷ rest) (suc place) least zero = omega arith
no_less (count ∷ rest) (suc place) least (suc other) = no_less rest place least other

-- within the list one is set
pub set_least : (counts : List ℕ) (place least other : ℕ) → place < length counts
    → slice_set counts place (max (get_or counts place other) least) ≡ with_least counts place least
set_least [] place least other l = absurd (omega arith)
set_least (count ∷ rest) zero least other l = refl
set_least (count ∷ rest) (suc place) least other l = ap (λ xs. count ∷ xs) (set_least rest place least other (omega arith))

-- and the list is as long
pub least_long : (counts : List ℕ) (place least : ℕ) → place < length counts → length (with_least counts place least) ≡ length counts
least_long [] place least l = absurd (omega arith)
least_long (count ∷ rest) zero least l = refl
least_long (count ∷ rest) (suc place) least l = ap suc (least_long rest place least (omega arith))

pub raised_long : (enough : Bool) (counts : List ℕ) (matter : Matter) → 1 ≤ matter.cluster → matter.cluster ≤ length counts
    → length (raised enough counts matter) ≡ length counts
raised_long true counts matter s l = least_long counts (matter.cluster - 1) (matter.count + 1) (omega arith)
raised_long false counts matter s l = refl
