-- The laws of a finite map, for the entries of the sequential table's state: what a key has after a write, that the keys stay in
-- order, and that entries with the same value at each key are the same.
use Rattle.std.proofs.Common.{◌≡◌, ℕ, Bool, true, false, cond, List, [], ◌∷◌, Option, None, Some, refl, sym, ap, subst, ◌∙◌, true≢false}
use Rattle.std.specs.List.{AllByRecursion}
use Rattle.std.specs.List.Sorted.{IsStrictlySortedBy}
use Rattle.std.specs.Ordering.{is_eq, eq_by_cmp, match_ordering, ordering_reverse, nat_cmp}
use Rattle.std.specs.Cmp.{IsTotalOrder}
use Rattle.std.specs.Cmp.Lexicographic.{slice_cmp}
use Rattle.std.specs.declared.cmp.Ordering.{Ordering}
use Rattle.std.specs.declared.cmp.Ordering.TheVariants.{Less, Equal, Greater}
use Rattle.std.specs.BTreeMap.{insert_entry, is_at}
use Rattle.std.specs.Map.{lookup, remove_entry, keys_of}
use Rattle.std.proofs.lemmas.Cmp.{eq_by_cmp_equiv, nat_list_cmp_total, tied_itself}
use Rattle.std.proofs.lemmas.Map.{lookup-none, lookup-remove_entry}
use Rattle.std.proofs.lemmas.Map.Entries.{none_below_head, none_past_head, lookup_tail}
use Rattle.std.proofs.lemmas.Map.Keys.{sorted_head, sorted_tail, IsDistinct-from_sorted}
use Rattle.std.proofs.lemmas.Map.Lookups.{CmpEqualImpliesEq, exact_bytes}
use Rattle.fab_base.specs.Table.{byte_order, value_in, with_value}

-- the keys rise in byte order
abbrev pub AreOrdered : {X : Type 0} → List (List ℕ × X) → Type 0
AreOrdered es = IsStrictlySortedBy byte_order (keys_of es)

-- ---- choices

either_way : {X : Type 0} (a b : Bool) (x y z : X) → (a ≡ true → b ≡ true → ⊥) → cond a x (cond b y z) ≡ cond b y (cond a x z)
either_way true true x y z h = absurd (h refl refl)
either_way true false x y z h = refl
either_way false b x y z h = refl

chosen_twice : {X : Type 0} (a b : Bool) (x y z : X) → a ≡ b → cond a x z ≡ cond b x (cond a y z)
chosen_twice true b x y z h = ap (λ c. cond c x (cond true y z)) h
chosen_twice false b x y z h = ap (λ c. cond c x z) h

module _ {K : Type 0} {R : K → K → Ordering} (o : IsTotalOrder R) where
  same_back : (k q : K) → is_at (R q) k ≡ is_at (R k) q
  same_back k q = (eq_by_cmp_equiv o).symm q k

  itself : (k : K) → is_at (R k) k ≡ true
  itself k = ap is_eq (tied_itself o k)

  below_all : (x k : K) (ys : List K) → R x k ≡ Less → AllByRecursion (λ y. R k y ≡ Less) ys → AllByRecursion (λ y. R x y ≡ Less) ys
  below_all x k [] h all = tt
  below_all x k (y ∷ ys) h all = (o.trans x k y h all.0, below_all x k ys h all.1)

module _ {K X : Type 0} {R : K → K → Ordering} (o : IsTotalOrder R) where
  -- what a key has after an insertion
  pub lookup-insert_entry : (es : List (K × X)) (k : K) (v : X) (q : K) → lookup (is_at (R q)) (insert_entry R es k v) ≡ cond (is_at (R k) q) (Some v) (lookup (is_at (R q)) es)
  lookup-insert_entry [] k v q = ap (λ b. cond b (Some v) None) (same_back o k q)
  lookup-insert_entry (e ∷ es) k v q = by (lookup-insert_entry es k v q) (R k e.0) refl
    where
      apart : R k e.0 ≡ Greater → is_at (R q) e.0 ≡ true → is_at (R k) q ≡ true → ⊥
      apart g there here = true≢false (sym there ∙ sym ((eq_by_cmp_equiv o).congr k q e.0 here) ∙ ap is_eq g)

      by : lookup (is_at (R q)) (insert_entry R es k v) ≡ cond (is_at (R k) q) (Some v) (lookup (is_at (R q)) es)
          → (r : Ordering) → R k e.0 ≡ r → lookup (is_at (R q)) (match_ordering r ((k, v) ∷ e ∷ es) ((e.0, v) ∷ es) (e ∷ insert_entry R es k v)) ≡ cond (is_at (R k) q) (Some v) (lookup (is_at (R q)) (e ∷ es))
      by rest Less h = ap (λ b. cond b (Some v) (lookup (is_at (R q)) (e ∷ es))) (same_back o k q)
      by rest Equal h = chosen_twice (is_at (R q) e.0) (is_at (R k) q) (Some v) (Some e.1) (lookup (is_at (R q)) es) (same_back o e.0 q ∙ sym ((eq_by_cmp_equiv o).congr k e.0 q (ap is_eq h)))
      by rest Greater h =
          ap (λ l. cond (is_at (R q) e.0) (Some e.1) l) rest
          ∙ either_way (is_at (R q) e.0) (is_at (R k) q) (Some e.1) (Some v) (lookup (is_at (R q)) es) (apart h)

  -- and after a removal, where the keys rise
  pub lookup-removed : (es : List (K × X)) (k q : K) → IsStrictlySortedBy R (keys_of es) → lookup (is_at (R q)) (remove_entry (is_at (R k)) es) ≡ cond (is_at (R k) q) None (lookup (is_at (R q)) es)
  lookup-removed es k q s =
      lookup-remove_entry (eq_by_cmp_equiv o) (is_at (R k)) (λ x y h. (eq_by_cmp_equiv o).congr k x y h) q es (IsDistinct-from_sorted R (keys_of es) s)

  -- a key below the keys of a list is below them after a write above it
  below_inserted : (es : List (K × X)) (k : K) (v : X) (x : K) → AllByRecursion (λ y. R x y ≡ Less) (keys_of es) → R x k ≡ Less → AllByRecursion (λ y. R x y ≡ Less) (keys_of (insert_entry R es k v))
  below_inserted [] k v x all h = (h, tt)
  below_inserted (e ∷ es) k v x all h = by (below_inserted es k v x all.1 h) (R k e.0)
    where
      by : AllByRecursion (λ y. R x y ≡ Less) (keys_of (insert_entry R es k v)) → (r : Ordering) → AllByRecursion (λ y. R x y ≡ Less) (keys_of (match_ordering r ((k, v) ∷ e ∷ es) ((e.0, v) ∷ es) (e ∷ insert_entry R es k v)))
      by rest Less = (h, all)
      by rest Equal = all
      by rest Greater = (all.0, rest)

  -- an insertion keeps the order
  pub sorted-insert_entry : (es : List (K × X)) (k : K) (v : X) → IsStrictlySortedBy R (keys_of es) → IsStrictlySortedBy R (keys_of (insert_entry R es k v))
  unfolding IsStrictlySortedBy
  sorted-insert_entry [] k v s = (tt, tt)
  sorted-insert_entry (e ∷ es) k v s = by (sorted-insert_entry es k v s.1) (R k e.0) refl
    where
      by : IsStrictlySortedBy R (keys_of (insert_entry R es k v)) → (r : Ordering) → R k e.0 ≡ r → IsStrictlySortedBy R (keys_of (match_ordering r ((k, v) ∷ e ∷ es) ((e.0, v) ∷ es) (e ∷ insert_entry R es k v)))
      by rest Less h = ((h, below_all o k e.0 (keys_of es) h s.0), s)
      by rest Equal h = s
      by rest Greater h = (below_inserted es k v e.0 s.0 (o.antisymm e.0 k ∙ ap ordering_reverse h), rest)

  below_removed : (es : List (K × X)) (test : K → Bool) (x : K) → AllByRecursion (λ y. R x y ≡ Less) (keys_of es) → AllByRecursion (λ y. R x y ≡ Less) (keys_of (remove_entry test es))
  below_removed [] test x all = tt
  below_removed (e ∷ es) test x all = by (below_removed es test x all.1) (test e.0)
    where
      by : AllByRecursion (λ y. R x y ≡ Less) (keys_of (remove_entry test es)) → (b : Bool) → AllByRecursion (λ y. R x y ≡ Less) (keys_of (cond b es (e ∷ remove_entry test es)))
      by rest true = all.1
      by rest false = (all.0, rest)

  -- and so does a removal
  pub sorted-remove_entry : (es : List (K × X)) (test : K → Bool) → IsStrictlySortedBy R (keys_of es) → IsStrictlySortedBy R (keys_of (remove_entry test es))
  unfolding IsStrictlySortedBy
  sorted-remove_entry [] test s = tt
  sorted-remove_entry (e ∷ es) test s = by (sorted-remove_entry es test s.1) (test e.0)
    where
      by : IsStrictlySortedBy R (keys_of (remove_entry test es)) → (b : Bool) → IsStrictlySortedBy R (keys_of (cond b es (e ∷ remove_entry test es)))
      by rest true = s.1
      by rest false = (below_removed es test e.0 s.0, rest)

  first_found : (e : K × X) (es : List (K × X)) → lookup (is_at (R e.0)) (e ∷ es) ≡ Some e.1
  first_found e es = ap (λ b. cond b (Some e.1) (lookup (is_at (R e.0)) es)) (itself o e.0)

  -- the value of a list's first key is not in a list whose keys are all above it
  not_above : (e f : K × X) (es fs : List (K × X)) → IsStrictlySortedBy R (keys_of (f ∷ fs)) → R e.0 f.0 ≡ Less → lookup (is_at (R e.0)) (e ∷ es) ≡ lookup (is_at (R e.0)) (f ∷ fs) → ⊥
  not_above e f es fs s h same =
      let none = lookup-none (is_at (R e.0)) (f ∷ fs) (none_below_head o e.0 f fs s h) in
      let some = first_found e es in
      let clash : Some e.1 ≡ None = sym some ∙ same ∙ none in
      cc

  -- where the first keys are the same, the others have the same values
  pub tails_same : (exact : CmpEqualImpliesEq R) (e f : K × X) (es fs : List (K × X)) → IsStrictlySortedBy R (keys_of (e ∷ es)) → IsStrictlySortedBy R (keys_of (f ∷ fs)) → e.0 ≡ f.0
      → ((q : K) → lookup (is_at (R q)) (e ∷ es) ≡ lookup (is_at (R q)) (f ∷ fs)) → (q : K) → lookup (is_at (R q)) es ≡ lookup (is_at (R q)) fs
  tails_same exact e f es fs s t k h q = by (is_at (R q) e.0) refl
    where
      by : (b : Bool) → is_at (R q) e.0 ≡ b → lookup (is_at (R q)) es ≡ lookup (is_at (R q)) fs
      by true there =
          lookup-none (is_at (R q)) es (none_past_head (eq_by_cmp_equiv o) q e es (IsDistinct-from_sorted R (keys_of (e ∷ es)) s) there)
          ∙ sym (lookup-none (is_at (R q)) fs (none_past_head (eq_by_cmp_equiv o) q f fs (IsDistinct-from_sorted R (keys_of (f ∷ fs)) t) (sym (ap (λ x. is_at (R q) x) k) ∙ there)))
      by false there =
          sym (lookup_tail (is_at (R q)) e es there) ∙ h q ∙ lookup_tail (is_at (R q)) f fs (sym (ap (λ x. is_at (R q) x) k) ∙ there)

  -- entries in order with the same value at each key are the same
  pub same_entries : CmpEqualImpliesEq R → (es fs : List (K × X)) → IsStrictlySortedBy R (keys_of es) → IsStrictlySortedBy R (keys_of fs) → ((q : K) → lookup (is_at (R q)) es ≡ lookup (is_at (R q)) fs) → es ≡ fs
  same_entries exact [] [] s t h = refl
  same_entries exact [] (f ∷ fs) s t h = let clash : None ≡ Some f.1 = h f.0 ∙ first_found f fs in cc
  same_entries exact (e ∷ es) [] s t h = let clash : Some e.1 ≡ None = sym (first_found e es) ∙ h e.0 in cc
  same_entries exact (e ∷ es) (f ∷ fs) s t h = by (λ same. same_entries exact es fs (sorted_tail R e.0 (keys_of es) s) (sorted_tail R f.0 (keys_of fs) t) same) (R e.0 f.0) refl
    where
      by : (((q : K) → lookup (is_at (R q)) es ≡ lookup (is_at (R q)) fs) → es ≡ fs) → (r : Ordering) → R e.0 f.0 ≡ r → e ∷ es ≡ f ∷ fs
      by rest Less l = absurd (not_above e f es fs t l (h e.0))
      by rest Greater g = absurd (not_above f e fs es s (o.antisymm f.0 e.0 ∙ ap ordering_reverse g) (sym (h f.0)))
      by rest Equal q =
          let keys = exact e.0 f.0 q in
          let here : Some e.1 ≡ Some f.1 = sym (first_found e es) ∙ h e.0 ∙ ap (λ x. lookup (is_at (R x)) (f ∷ fs)) keys ∙ first_found f fs in
          let values : e.1 ≡ f.1 = cc in
          let others = rest (tails_same exact e f es fs s t keys h) in
          λ i. (keys i, values i) ∷ others i

-- ---- the entries of a state

-- what a key has after a value is written at another or at itself, or taken away there
pub value_in-with_value : (es : List (List ℕ × List ℕ)) (k : List ℕ) (w : Option (List ℕ)) (q : List ℕ) → AreOrdered es → value_in (with_value es k w) q ≡ cond (is_at (byte_order k) q) w (value_in es q)
value_in-with_value es k None q s = lookup-removed nat_list_cmp_total es k q s
value_in-with_value es k (Some v) q s = lookup-insert_entry nat_list_cmp_total es k v q

-- a write keeps the keys in order
pub ordered-with_value : (es : List (List ℕ × List ℕ)) (k : List ℕ) (w : Option (List ℕ)) → AreOrdered es → AreOrdered (with_value es k w)
ordered-with_value es k None s = sorted-remove_entry nat_list_cmp_total es (is_at (byte_order k)) s
ordered-with_value es k (Some v) s = sorted-insert_entry nat_list_cmp_total es k v s

-- entries are what they answer at each key
pub entries_from_values : (es fs : List (List ℕ × List ℕ)) → AreOrdered es → AreOrdered fs → ((q : List ℕ) → value_in es q ≡ value_in fs q) → es ≡ fs
entries_from_values es fs s t h = same_entries nat_list_cmp_total exact_bytes es fs s t h

-- a key that is given what it has
pub with_value-same : (es : List (List ℕ × List ℕ)) (k : List ℕ) (w : Option (List ℕ)) → AreOrdered es → value_in es k ≡ w → with_value es k w ≡ es
with_value-same es k w s h =
    entries_from_values (with_value es k w) es (ordered-with_value es k w s) s (λ q. value_in-with_value es k w q s ∙ by q (is_at (byte_order k) q) refl)
  where
    by : (q : List ℕ) (b : Bool) → is_at (byte_order k) q ≡ b → cond b w (value_in es q) ≡ value_in es q
    by q true e = sym h ∙ ap (λ t. lookup t es) (λ i x. (eq_by_cmp_equiv nat_list_cmp_total).congr k q x e i)
    by q false e = refl
