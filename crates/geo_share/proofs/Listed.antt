-- A member is in the list of receivers exactly where its index is among theirs.
use Rattle.std.proofs.Common.{◌≡◌, ℕ, zero, suc, ◌+◌, ◌++◌, ◌↔◌, Bool, true, false, ◌||◌, eqb, List, [], ◌∷◌, map, Contains, IsTrue, zero-add, refl, sym, ap, ◌∙◌, arith}
use Rattle.std.specs.List.{range_with_len}
use Rattle.std.proofs.lemmas.List.FromFn.{map-range_with_len_more}
use Rattle.fab_base.specs.Limits.{Roster}
use Rattle.fab_base.specs.Roster.{size_of}
use Rattle.fab_base.specs.Quorums.{is_member}
use Rattle.fab_base.specs.declared.ids.ReplicaId.{ReplicaId}
use Rattle.fab_base.proofs.Tests.{same, is_same}
use Rattle.geo_share.specs.Receiving.{receiver, places, receivers, recipients_of}

-- a member, by what gives its index
abbrev named : ℕ → (ℕ → ℕ) → ℕ → ReplicaId
named cluster index place = record { cluster = cluster; index = index place }

listed_from_member : (index : ℕ → ℕ) (i : ReplicaId) (xs : List ℕ) → is_member (map index xs) i.index ≡ true → Contains (map (named i.cluster index) xs) i
listed_from_member index i [] h = absurd cc
listed_from_member index i (x ∷ xs) h = go (eqb (index x) i.index) refl (listed_from_member index i xs) h
  where
    go : (t : Bool) → eqb (index x) i.index ≡ t → (is_member (map index xs) i.index ≡ true → Contains (map (named i.cluster index) xs) i)
        → (t || is_member (map index xs) i.index) ≡ true → Contains (map (named i.cluster index) (x ∷ xs)) i
    go true e rest q = (0, omega arith, ap (λ k. record { cluster = i.cluster; index = k }) (same (index x) i.index e))
    go false e rest q = (let c = rest q in (suc c.0, omega (arith, c.1), c.2))

or_left : (a b : Bool) → a ≡ true → (a || b) ≡ true
or_left a b h = rw h refl

or_right : (a b : Bool) → b ≡ true → (a || b) ≡ true
or_right true b h = refl
or_right false b h = h

member_from_listed : (index : ℕ → ℕ) (i : ReplicaId) (xs : List ℕ) → Contains (map (named i.cluster index) xs) i → is_member (map index xs) i.index ≡ true
member_from_listed index i [] (k, l, e) = absurd (omega arith)
member_from_listed index i (x ∷ xs) (zero, l, e) = or_left (eqb (index x) i.index) _ (ap (λ r. eqb r.index i.index) e ∙ is_same i.index)
member_from_listed index i (x ∷ xs) (suc k, l, e) = or_right (eqb (index x) i.index) _ (member_from_listed index i xs (k, omega arith, e))

pub listed : (r : Roster) (me : ReplicaId) (round : ℕ) (answer : Bool) → answer ≡ is_member (receivers (size_of r me.cluster) round) me.index
    → IsTrue answer ↔ Contains (recipients_of r me.cluster round) me
listed r me round answer e = (
  λ t. listed_from_member (receiver (size_of r me.cluster) round) me (places (size_of r me.cluster)) (sym e ∙ t),
  λ h. e ∙ member_from_listed (receiver (size_of r me.cluster) round) me (places (size_of r me.cluster)) h,
)

-- one receiver more
pub one_more : (cluster n round place index : ℕ) (before now : List ReplicaId) → before ≡ map (named cluster (receiver n round)) (range_with_len 0 place)
    → index ≡ receiver n round place → now ≡ before ++ record { cluster = cluster; index = index } ∷ []
    → now ≡ map (named cluster (receiver n round)) (range_with_len 0 (place + 1))
one_more cluster n round place index before now e i p =
    let step = map-range_with_len_more (named cluster (receiver n round)) 0 place place (zero-add place) in
    let last = ap (λ k. map (named cluster (receiver n round)) (range_with_len 0 place) ++ record { cluster = cluster; index = k } ∷ []) i in
    p ∙ (ap (λ xs. xs ++ record { cluster = cluster; index = index } ∷ []) e ∙ (last ∙ sym step))
