-- Counted lists keep the law of a reader.
use Rattle.std.proofs.Common.{◌≡◌, ℕ, zero, suc, ◌+◌, ◌<◌, ◌≤◌, Bool, true, false, ◌&&◌, ltb, nat_eq, nat_le, List, [], ◌∷◌, length, map, Option, Some, None, Result, Ok, refl, sym, ap, subst, ◌∙◌, arith}
use Rattle.std.specs.List.{flat_map, list_all}
use Rattle.std.proofs.Math.Bool.{and_assoc}
use Rattle.fab_base.proofs.Tests.{and_left, and_right, and_both, is_below, at_most, same, is_same}
use Rattle.fab_codec.specs.declared.faults.CodeFault.{CodeFault}
use Rattle.fab_rules.specs.Lists.{leads_by, rises_by}
use Rattle.fab_rules.specs.Spelling.{counted as counted_bytes}
use Rattle.msg_read.specs.Steps.{At, Reader, moved, items, comes_after}
use Rattle.msg_read.specs.Fields.{counted}
use Rattle.msg_read.proofs.Readers.{Taken, IsRead, ok_is, next_read, made_read, passes_as}
use Rattle.msg_read.proofs.Numbers.{wide8, limited_read}

-- whether each item is good behind the one before it
abbrev pub chained : {X K : Type 0} → (K → X → Bool) → (X → K) → K → List X → Bool
chained good key last [] = true
chained good key last (x ∷ xs) = good last x && chained good key (key x) xs

pub moved_none : (at : At) → at ≡ moved 0 at
moved_none at = ap (λ n. record at { place = n }) (let e : at.place ≡ at.place + 0 = omega arith in e)

module _ {X K : Type 0} {spell : X → List ℕ} (good : K → X → Bool) {item : K → Reader X} (key : X → K) (law : (last : K) → IsRead spell (good last) (item last)) where
  no_items : (last : K) → IsRead (flat_map spell) (λ xs. nat_eq (length xs) 0 && chained good key last xs) (items item key 0 last)
  unfolding items
  no_items last = record {
    again = λ at xs rest inside fits e. none_again at xs fits;
    takes = λ at xs behind bytes inside e.
        let pair : List X × At = ([], at) in
        subst (λ (z : List X × At). Taken at (flat_map spell z.0) z.1 × ((nat_eq (length z.0) 0 && chained good key last z.0) ≡ true))
        (ok_is pair (xs, behind) e) (record { next_is = moved_none at; inside = inside; parts = refl }, refl);
  }
    where
      none_again : (at : At) (xs : List X) → (nat_eq (length xs) 0 && chained good key last xs) ≡ true
          → ◌≡◌ {A = Result (List X × At) CodeFault} (Ok ([], at)) (Ok (xs, moved (length (flat_map spell xs)) at))
      none_again at [] h = ap (λ (n : At). Ok ([], n)) (moved_none at)
      none_again at (x ∷ xs) h = let e = same (suc (length xs)) 0 (and_left _ _ h) in absurd (omega arith)

  more : (n : ℕ) (last : K) (p : X × List X) → (good last p.0 && (nat_eq (length p.1) n && chained good key (key p.0) p.1)) ≡ true
      → (nat_eq (length (p.0 ∷ p.1)) (suc n) && chained good key last (p.0 ∷ p.1)) ≡ true
  more n last p h =
      let first = and_left (good last p.0) _ h in
      let others = and_right (good last p.0) _ h in
      let e = same (length p.1) n (and_left (nat_eq (length p.1) n) _ others) in
      and_both _ _ (ap (λ k. nat_eq (suc k) (suc n)) e ∙ is_same (suc n))
      (and_both (good last p.0) _ first (and_right (nat_eq (length p.1) n) _ others))

  fewer : (n : ℕ) (last : K) (xs : List X) → (nat_eq (length xs) (suc n) && chained good key last xs) ≡ true
      → (p : X × List X) × (p.0 ∷ p.1 ≡ xs) × ((good last p.0 && (nat_eq (length p.1) n && chained good key (key p.0) p.1)) ≡ true)
  fewer n last [] h = let e = same 0 (suc n) (and_left _ _ h) in absurd (omega arith)
  fewer n last (x ∷ xs) h =
      let e = same (suc (length xs)) (suc n) (and_left _ _ h) in
      let e1 : length xs ≡ n = omega arith in
      let others = and_right (nat_eq (suc (length xs)) (suc n)) _ h in (
        (x, xs),
        refl,
        and_both _ _ (and_left (good last x) _ others)
            (and_both _ _ (ap (λ k. nat_eq k n) e1 ∙ is_same n) (and_right (good last x) _ others)),
      )

  pub items_read : (n : ℕ) (last : K) → IsRead (flat_map spell) (λ xs. nat_eq (length xs) n && chained good key last xs) (items item key n last)
  unfolding items
  items_read zero last = no_items last
  items_read (suc n) last = made_read (record { spelled = λ p h. refl; stays = more n last; comes = fewer n last })
      (next_read (law last) (λ x h. items_read n (key x)))

  pub counted_read : (most : ℕ) (first : K) → most < 256
      → IsRead (counted_bytes spell) (λ xs. nat_le (length xs) most && chained good key first xs) (counted most item key first)
  counted_read most first lt = made_read (record {
    spelled = λ p h. ap (λ n. n ∷ flat_map spell p.1) (len_is p h);
    stays = λ p h. and_both (nat_le (length p.1) most) (chained good key first p.1)
        (ap (λ n. nat_le n most) (len_is p h) ∙ and_left (nat_le p.0 most) (ltb p.0 256) (and_left _ _ h))
        (and_right (nat_eq (length p.1) p.0) (chained good key first p.1) (and_right (nat_le p.0 most && ltb p.0 256) _ h));
    comes = λ r h.
        let le : length r ≤ most = at_most (length r) most (and_left (nat_le (length r) most) (chained good key first r) h) in (
          (length r, r),
          refl,
          and_both _ _ (and_both _ _ (and_left (nat_le (length r) most) (chained good key first r) h) (is_below (length r) 256 (omega arith)))
              (and_both _ _ (is_same (length r)) (and_right (nat_le (length r) most) (chained good key first r) h)),
        );
  }) (next_read (limited_read most wide8) (λ len h. items_read len first))
    where
      len_is : (p : ℕ × List X) → (nat_le p.0 most && ltb p.0 256 && (nat_eq (length p.1) p.0 && chained good key first p.1)) ≡ true → length p.1 ≡ p.0
      len_is p h = same (length p.1) p.0 (and_left (nat_eq (length p.1) p.0) (chained good key first p.1) (and_right (nat_le p.0 most && ltb p.0 256) _ h))

-- ---- in any order

all_chained : {X : Type 0} (good : X → Bool) (xs : List X) → chained (λ (last : Unit {0}) x. good x) (λ x. tt) tt xs ≡ list_all good xs
all_chained good [] = refl
all_chained good (x ∷ xs) = ap (λ t. good x && t) (all_chained good xs)

pub plain_read : {X : Type 0} {spell : X → List ℕ} {good : X → Bool} {item : Reader X} (most : ℕ) → most < 256 → IsRead spell good item
    → IsRead (counted_bytes spell) (λ xs. nat_le (length xs) most && list_all good xs) (counted most (λ (last : Unit {0}). item) (λ x. tt) tt)
plain_read {X} {spell} {good} most lt law =
    passes_as (λ xs. ap (λ t. nat_le (length xs) most && t) (all_chained good xs))
    (counted_read (λ (last : Unit {0}) x. good x) (λ x. tt) (λ last. law) most tt lt)

-- ---- in rising order

shuffle : (b g l r : Bool) → ((b && g) && (l && r)) ≡ ((g && l) && (b && r))
shuffle true true l r = refl
shuffle true false l r = refl
shuffle false true true r = refl
shuffle false true false r = refl
shuffle false false l r = refl

module _ {X K : Type 0} (before : K → K → Bool) (key : X → K) (good : X → Bool) where
  abbrev each : Option K → X → Bool
  each last x = comes_after before last (key x) && good x

  behind : (k : K) (xs : List X)
      → chained each (λ x. Some (key x)) (Some k) xs ≡ (list_all good xs && (leads_by before k (map key xs) && rises_by before (map key xs)))
  behind k [] = refl
  behind k (x ∷ xs) =
      ap (λ t. before k (key x) && good x && t) (behind (key x) xs)
      ∙ shuffle (before k (key x)) (good x) (list_all good xs) (leads_by before (key x) (map key xs) && rises_by before (map key xs))

  rising_chained : (xs : List X) → chained each (λ x. Some (key x)) None xs ≡ (list_all good xs && rises_by before (map key xs))
  rising_chained [] = refl
  rising_chained (x ∷ xs) =
      ap (λ t. good x && t) (behind (key x) xs)
      ∙ sym (and_assoc (good x) (list_all good xs) (leads_by before (key x) (map key xs) && rises_by before (map key xs)))

  pub rising_read : {spell : X → List ℕ} {item : Option K → Reader X} (most : ℕ) → most < 256 → ((last : Option K) → IsRead spell (each last) (item last))
      → IsRead (counted_bytes spell) (λ xs. nat_le (length xs) most && (list_all good xs && rises_by before (map key xs))) (counted most item (λ x. Some (key x)) None)
  rising_read most lt law =
      passes_as (λ xs. ap (λ t. nat_le (length xs) most && t) (rising_chained xs)) (counted_read each (λ x. Some (key x)) law most None lt)
