-- Held pairs put into an ordered map, one after another: its entries are those that the pairs so far stand for.
use Rattle.std.proofs.Common.{◌≡◌, ℕ, false, cond, nat_eq, List, [], ◌∷◌, ◌++◌, map, Option, None, Some, Vec, refl, sym, ap, subst, ◌∙◌}
use Rattle.std.specs.List.{AllByRecursion, IsDistinct}
use Rattle.std.specs.Ordering.{match_ordering, nat_cmp}
use Rattle.std.specs.declared.cmp.Ordering.{Ordering}
use Rattle.std.specs.declared.cmp.Ordering.TheVariants.{Less, Equal, Greater}
use Rattle.std.specs.BTreeMap.{insert_entry}
use Rattle.std.specs.Map.{lookup, keys_of}
use Rattle.std.specs.Cmp.Lexicographic.{pointwise, slice_cmp}
use Rattle.std.proofs.lemmas.Cmp.{nat_list_eq_equiv}
use Rattle.std.proofs.lemmas.Map.Keys.{IsDistinct-head, IsDistinct-tail}
use Rattle.std.proofs.lemmas.Map.Lookups.{map_keys}
use Rattle.fab_base.specs.Table.{byte_order}
use Rattle.fab_base.proofs.Entries.{with_value-same}
use Rattle.seq_table.specs.Holding.{entries_of}
use Rattle.seq_table.proofs.Pairs.{flat, there, listed, map_keys-push, found_there, value_there, ordered, entries_of-push}

pub map-push : {A B : Type 0} (f : A → B) (xs : List A) (x : A) → map f (xs ++ x ∷ []) ≡ map f xs ++ f x ∷ []
map-push f [] x = refl
map-push f (y ∷ ys) x = ap (λ l. f y ∷ l) (map-push f ys x)

-- an insertion into an ordered map whose keys are read by a function
map_keys-insert_entry : {K B X : Type 0} (f : K → B) (R : B → B → Ordering) (es : List (K × X)) (k : K) (v : X) → map_keys f (insert_entry (λ x y. R (f x) (f y)) es k v) ≡ insert_entry R (map_keys f es) (f k) v
map_keys-insert_entry f R [] k v = refl
map_keys-insert_entry {K = K} {B = B} {X = X} f R (e ∷ es) k v = by (map_keys-insert_entry f R es k v) (R (f k) (f e.0))
  where
    by : map_keys f (insert_entry (λ x y. R (f x) (f y)) es k v) ≡ insert_entry R (map_keys f es) (f k) v → (r : Ordering)
        → map_keys f (match_ordering r ((k, v) ∷ e ∷ es) ((e.0, v) ∷ es) (e ∷ insert_entry (λ x y. R (f x) (f y)) es k v))
        ≡ match_ordering r ((f k, v) ∷ (f e.0, e.1) ∷ map_keys f es) ((f e.0, v) ∷ map_keys f es) ((f e.0, e.1) ∷ insert_entry R (map_keys f es) (f k) v)
    by rest Less = refl
    by rest Equal = refl
    by rest Greater = ap (λ l. (f e.0, e.1) ∷ l) rest

at_place : {K X : Type 0} (P : K → Type 0) (done rest : List (K × X)) (e : K × X) → AllByRecursion P (keys_of (done ++ e ∷ rest)) → P e.0
at_place P [] rest e all = all.0
at_place P (x ∷ done) rest e all = at_place P done rest e all.1

-- where no two keys are equal, one isn't among those before it
module _ {Y X : Type 0} where
  unseen : (done rest : List (Vec ℕ Y × X)) (e : Vec ℕ Y × X) → IsDistinct (λ x y. pointwise nat_eq x.items y.items) (keys_of (done ++ e ∷ rest)) → lookup (λ k. pointwise nat_eq e.0.items k.items) done ≡ None
  unseen [] rest e d = refl
  unseen (x ∷ done) rest e d =
      let apart : pointwise nat_eq e.0.items x.0.items ≡ false =
      nat_list_eq_equiv.symm e.0.items x.0.items ∙ at_place (λ (y : Vec ℕ Y). pointwise nat_eq x.0.items y.items ≡ false) done rest e (IsDistinct-head (λ (a b : Vec ℕ Y). pointwise nat_eq a.items b.items) x.0 (keys_of (done ++ e ∷ rest)) d) in
      ap (λ b. cond b (Some x.1) (lookup (λ k. pointwise nat_eq e.0.items k.items) done)) apart
      ∙ unseen done rest e (IsDistinct-tail (λ (a b : Vec ℕ Y). pointwise nat_eq a.items b.items) x.0 (keys_of (done ++ e ∷ rest)) d)

module _ {Y : Type 0} where
  pub not_before : (all done rest : List (Vec ℕ Y × Option (List ℕ))) (e : Vec ℕ Y × Option (List ℕ)) → all ≡ done ++ e ∷ rest → IsDistinct (λ x y. pointwise nat_eq x.items y.items) (keys_of all) → there (listed done) e.0.items ≡ None
  not_before all done rest e a d =
      sym (found_there done (listed done) e.0.items refl)
      ∙ unseen done rest e (subst (λ (l : List (Vec ℕ Y × Option (List ℕ))). IsDistinct (λ x y. pointwise nat_eq x.items y.items) (keys_of l)) a d)

  -- a key with a value was inserted
  pub inserted : (old new : List (Vec ℕ Y × List ℕ)) (done : List (Vec ℕ Y × Option (List ℕ))) (k l : Vec ℕ Y) (v w : List ℕ) → new ≡ insert_entry (λ x y. slice_cmp nat_cmp x.items y.items) old l w
      → l.items ≡ k.items → w ≡ v → listed old ≡ entries_of (listed done) → there (listed done) k.items ≡ None → listed new ≡ entries_of (listed (done ++ (k, Some v) ∷ []))
  inserted old new done k l v w n same_key same_value h none =
      ap listed n ∙ map_keys-insert_entry (λ (x : Vec ℕ Y). x.items) byte_order old l w
      ∙ (λ i. insert_entry byte_order (h i) (same_key i) (same_value i))
      ∙ sym (entries_of-push (listed done) k.items (Some v) none)
      ∙ ap entries_of (sym (map_keys-push (λ (x : Vec ℕ Y). x.items) done (k, Some v)))

  -- a key with none was left out
  pub left_out : (done : List (Vec ℕ Y × Option (List ℕ))) (k : Vec ℕ Y) → there (listed done) k.items ≡ None → entries_of (listed done) ≡ entries_of (listed (done ++ (k, None) ∷ []))
  left_out done k none =
      sym (with_value-same (entries_of (listed done)) k.items None (ordered (listed done)) (value_there (listed done) k.items ∙ ap flat none))
      ∙ sym (entries_of-push (listed done) k.items None none)
      ∙ ap entries_of (sym (map_keys-push (λ (x : Vec ℕ Y). x.items) done (k, None)))
