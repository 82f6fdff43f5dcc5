-- How many members of a cluster may be faulty, and what a quorum of them is (Castro and Liskov, PBFT).
-- A set of members is the list of their indexes, which rise.
use Rattle.std.specs.Prelude.{ℕ, ◌≡◌, ◌+◌, ◌-◌, ◌/◌, ◌<◌, ◌≤◌, ◌==◌, Bool, true, false, List, [], ◌∷◌, length, filter}
use Rattle.std.specs.List.{list_any}
use Rattle.std.proofs.Common.{zero, suc}

-- the greatest f with n > 3 * f
abbrev pub greatest_faulty : ℕ → ℕ
greatest_faulty n = (n - 1) / 3

-- how many members make a quorum of n: all but the greatest number of faulty ones
abbrev pub quorum_size : ℕ → ℕ
quorum_size n = n - greatest_faulty n

-- indexes from `least` on that rise, each below n
abbrev pub IsRisingFrom : ℕ → ℕ → List ℕ → Type 0
IsRisingFrom least n [] = Unit {0}
IsRisingFrom least n (x ∷ xs) = (least ≤ x) × (x < n) × IsRisingFrom (x + 1) n xs

-- at least `needed` distinct members of n
pub record AreMembers (n needed : ℕ) (members : List ℕ) : Type 0 where
  pub rising : IsRisingFrom 0 n members
  pub enough : needed ≤ length members

-- a quorum of n members
abbrev pub IsQuorum : ℕ → List ℕ → Type 0
IsQuorum n members = AreMembers n (quorum_size n) members

-- whether the member is among these
abbrev pub is_member : List ℕ → ℕ → Bool
is_member members k = list_any (λ x. x == k) members

-- the members of the first set that are in the second too
abbrev pub shared_members : List ℕ → List ℕ → List ℕ
shared_members xs ys = filter (is_member ys) xs

-- 1 where it is so
abbrev pub one_if : Bool → ℕ
one_if true = 1
one_if false = 0

-- how many of n members are so
abbrev pub count_members : ℕ → (ℕ → Bool) → ℕ
count_members zero p = 0
count_members (suc n) p = one_if (p n) + count_members n p

-- a member of the set that isn't faulty
pub record CorrectMember (n : ℕ) (is_faulty : ℕ → Bool) (members : List ℕ) : Type 0 where
  pub index : ℕ
  pub in_range : index < n
  pub is_in : is_member members index ≡ true
  pub not_faulty : is_faulty index ≡ false
