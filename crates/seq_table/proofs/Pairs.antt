-- Keys with a value or none: what a look-up finds among them, and what a write does to the entries that they stand for.
use Rattle.std.proofs.Common.{◌≡◌, ℕ, Bool, true, false, cond, is_some, nat_eq, List, [], ◌∷◌, ◌++◌, take, Option, None, Some, Vec, refl, sym, ap, ◌∙◌, true≢false}
use Rattle.std.specs.List.{list_any, take-map}
use Rattle.std.specs.Option.{IsSome}
use Rattle.std.specs.BTreeMap.{is_at}
use Rattle.std.specs.Map.{lookup, set_value, keys_of}
use Rattle.std.specs.Cmp.Lexicographic.{pointwise, texts_ties}
use Rattle.std.specs.List.Sorted.{IsStrictlySortedBy}
use Rattle.std.proofs.lemmas.Cmp.{nat_list_eq_equiv}
use Rattle.std.proofs.lemmas.Map.{lookup-set_value}
use Rattle.std.proofs.lemmas.Map.Lookups.{map_keys}
use Rattle.std.proofs.lemmas.Map.Made.{is_some-lookup}
use Rattle.fab_base.specs.Table.{byte_order, value_in, with_value}
use Rattle.fab_base.proofs.Entries.{AreOrdered, value_in-with_value, ordered-with_value, entries_from_values}
use Rattle.seq_table.specs.Holding.{Held, entries_of, is_held}

-- ---- a list whose keys are read by a function

module _ {K B X : Type 0} (f : K → B) (test : B → Bool) where
  pub lookup-map_keys : (es : List (K × X)) → lookup (λ k. test (f k)) es ≡ lookup test (map_keys f es)
  lookup-map_keys [] = refl
  lookup-map_keys (e ∷ es) = ap (λ o. cond (test (f e.0)) (Some e.1) o) (lookup-map_keys es)

  pub map_keys-set_value : (es : List (K × X)) (w : X) → map_keys f (set_value (λ k. test (f k)) es w) ≡ set_value test (map_keys f es) w
  map_keys-set_value [] w = refl
  map_keys-set_value (e ∷ es) w = by (map_keys-set_value es w) (test (f e.0))
    where
      by : map_keys f (set_value (λ k. test (f k)) es w) ≡ set_value test (map_keys f es) w → (b : Bool)
          → map_keys f (cond b ((e.0, w) ∷ es) (e ∷ set_value (λ k. test (f k)) es w)) ≡ cond b ((f e.0, w) ∷ map_keys f es) ((f e.0, e.1) ∷ set_value test (map_keys f es) w)
      by rest true = refl
      by rest false = ap (λ l. (f e.0, e.1) ∷ l) rest

pub map_keys-push : {K B X : Type 0} (f : K → B) (es : List (K × X)) (e : K × X) → map_keys f (es ++ e ∷ []) ≡ map_keys f es ++ (f e.0, e.1) ∷ []
map_keys-push f [] e = refl
map_keys-push f (x ∷ es) e = ap (λ l. (f x.0, x.1) ∷ l) (map_keys-push f es e)

-- the pairs with vectors as keys, as lists
abbrev pub listed : {Y X : Type 0} → List (Vec ℕ Y × X) → List (List ℕ × X)
listed es = map_keys (λ k. k.items) es

-- ---- the two ways to ask for a key

-- what a value or none says, where there is one
abbrev pub flat : {X : Type 0} → Option (Option X) → Option X
flat None = None
flat (Some w) = w

pub same_test : (q : List ℕ) → pointwise nat_eq q ≡ is_at (byte_order q)
same_test q = λ i k. texts_ties q k i

abbrev pub there : Held → List ℕ → Option (Option (List ℕ))
there held q = lookup (pointwise nat_eq q) held

pub is_held-there : (held : Held) (q : List ℕ) → is_held (keys_of held) q ≡ is_some (there held q)
is_held-there held q = ap (λ t. list_any t (keys_of held)) (sym (same_test q)) ∙ sym (is_some-lookup (pointwise nat_eq q) held)

pub found_there : {Y : Type 0} (es : List (Vec ℕ Y × Option (List ℕ))) (held : Held) (q : List ℕ) → listed es ≡ held → lookup (λ k. pointwise nat_eq q k.items) es ≡ there held q
found_there {Y} es held q e = lookup-map_keys (λ (k : Vec ℕ Y). k.items) (pointwise nat_eq q) es ∙ ap (λ h. there h q) e

pub listed-set_value : {Y : Type 0} (es : List (Vec ℕ Y × Option (List ℕ))) (held : Held) (q : List ℕ) (w : Option (List ℕ)) → listed es ≡ held → listed (set_value (λ k. pointwise nat_eq q k.items) es w) ≡ set_value (pointwise nat_eq q) held w
listed-set_value {Y} es held q w e = map_keys-set_value (λ (k : Vec ℕ Y). k.items) (pointwise nat_eq q) es w ∙ ap (λ h. set_value (pointwise nat_eq q) h w) e

-- ---- the entries that held keys stand for

pub ordered : (held : Held) → AreOrdered (entries_of held)
unfolding IsStrictlySortedBy
ordered [] = tt
ordered (e ∷ rest) = ordered-with_value (entries_of rest) e.0 e.1 (ordered rest)

turned : (k q : List ℕ) → is_at (byte_order k) q ≡ pointwise nat_eq q k
turned k q = ap (λ t. t q) (sym (same_test k)) ∙ nat_list_eq_equiv.symm k q

flat-cond : {X : Type 0} (b : Bool) (w : Option X) (o : Option (Option X)) → cond b w (flat o) ≡ flat (cond b (Some w) o)
flat-cond true w o = refl
flat-cond false w o = refl

-- a key has the value that is held with it
pub value_there : (held : Held) (q : List ℕ) → value_in (entries_of held) q ≡ flat (there held q)
value_there [] q = refl
value_there (e ∷ rest) q =
    value_in-with_value (entries_of rest) e.0 e.1 q (ordered rest)
    ∙ ap (λ b. cond b e.1 (value_in (entries_of rest) q)) (turned e.0 q)
    ∙ ap (λ o. cond (pointwise nat_eq q e.0) e.1 o) (value_there rest q)
    ∙ flat-cond (pointwise nat_eq q e.0) e.1 (there rest q)

-- held keys with the value w at k, and elsewhere the values that they had, stand for the entries with w at k
written : (old new : Held) (k : List ℕ) (w : Option (List ℕ)) → ((q : List ℕ) → flat (there new q) ≡ cond (pointwise nat_eq k q) w (flat (there old q))) → entries_of new ≡ with_value (entries_of old) k w
written old new k w h =
    entries_from_values (entries_of new) (with_value (entries_of old) k w) (ordered new) (ordered-with_value (entries_of old) k w (ordered old))
    (λ q. value_there new q ∙ h q
    ∙ ap (λ o. cond (pointwise nat_eq k q) w o) (sym (value_there old q))
    ∙ ap (λ t. cond (t q) w (value_in (entries_of old) q)) (same_test k)
    ∙ sym (value_in-with_value (entries_of old) k w q (ordered old)))

there-set_value : (held : Held) (k : List ℕ) (w : Option (List ℕ)) (q : List ℕ) → IsSome (there held k) → there (set_value (pointwise nat_eq k) held w) q ≡ cond (pointwise nat_eq k q) (Some w) (there held q)
there-set_value held k w q h = lookup-set_value nat_list_eq_equiv (pointwise nat_eq k) (λ x y e. nat_list_eq_equiv.congr k x y e) q w held h

pub set_value-absent : {K X : Type 0} (test : K → Bool) (es : List (K × X)) (w : X) → lookup test es ≡ None → set_value test es w ≡ es
set_value-absent test [] w h = refl
set_value-absent test (e ∷ es) w h = by (λ h. set_value-absent test es w h) (test e.0) h
  where
    by : (lookup test es ≡ None → set_value test es w ≡ es) → (b : Bool) → cond b (Some e.1) (lookup test es) ≡ None → cond b ((e.0, w) ∷ es) (e ∷ set_value test es w) ≡ e ∷ es
    by rest true h = let clash : Some e.1 ≡ None = h in cc
    by rest false h = ap (λ l. e ∷ l) (rest h)

-- a write at a held key
pub entries_of-set_value : (held : Held) (k : List ℕ) (w : Option (List ℕ)) → IsSome (there held k) → entries_of (set_value (pointwise nat_eq k) held w) ≡ with_value (entries_of held) k w
entries_of-set_value held k w h =
    written held (set_value (pointwise nat_eq k) held w) k w
    (λ q. ap flat (there-set_value held k w q h) ∙ sym (flat-cond (pointwise nat_eq k q) w (there held q)))

-- a key set to none, held or not
pub entries_of-cleared : (held : Held) (k : List ℕ) → entries_of (set_value (pointwise nat_eq k) held None) ≡ with_value (entries_of held) k None
entries_of-cleared held k = by (there held k) refl
  where
    absent : there held k ≡ None → (q : List ℕ) (b : Bool) → pointwise nat_eq k q ≡ b → flat (there held q) ≡ cond b None (flat (there held q))
    absent h q true e = ap flat (ap (λ t. lookup t held) (λ i x. sym (nat_list_eq_equiv.congr k q x e) i) ∙ h)
    absent h q false e = refl

    by : (o : Option (Option (List ℕ))) → there held k ≡ o → entries_of (set_value (pointwise nat_eq k) held None) ≡ with_value (entries_of held) k None
    by (Some w) h = entries_of-set_value held k None (ap is_some h)
    by None h = ap entries_of (set_value-absent (pointwise nat_eq k) held None h) ∙ written held held k None (λ q. absent h q (pointwise nat_eq k q) refl)

lookup-push : {K X : Type 0} (test : K → Bool) (es : List (K × X)) (k : K) (w : X) (b : Bool) → test k ≡ b → (b ≡ true → lookup test es ≡ None) → lookup test (es ++ (k, w) ∷ []) ≡ cond b (Some w) (lookup test es)
lookup-push {X = X} test [] k w b e h = ap (λ c. cond c (Some w) None) e
lookup-push {X = X} test (x ∷ es) k w b e h = by (λ h. lookup-push test es k w b e h) (test x.0) h
  where
    none : (b : Bool) (v : X) (o : Option X) → (b ≡ true → Some v ≡ None) → Some v ≡ cond b (Some w) (Some v)
    none true v o h = let clash : Some v ≡ None = h refl in cc
    none false v o h = refl

    by : ((b ≡ true → lookup test es ≡ None) → lookup test (es ++ (k, w) ∷ []) ≡ cond b (Some w) (lookup test es))
        → (c : Bool) → (b ≡ true → cond c (Some x.1) (lookup test es) ≡ None) → cond c (Some x.1) (lookup test (es ++ (k, w) ∷ [])) ≡ cond b (Some w) (cond c (Some x.1) (lookup test es))
    by rest true h = none b x.1 None h
    by rest false h = rest h

there-push : (held : Held) (k : List ℕ) (w : Option (List ℕ)) (q : List ℕ) → there held k ≡ None → there (held ++ (k, w) ∷ []) q ≡ cond (pointwise nat_eq k q) (Some w) (there held q)
there-push held k w q h =
    lookup-push (pointwise nat_eq q) held k w (pointwise nat_eq k q) (nat_list_eq_equiv.symm q k)
    (λ e. ap (λ t. lookup t held) (λ i x. sym (nat_list_eq_equiv.congr k q x e) i) ∙ h)

-- a key that isn't held yet
pub entries_of-push : (held : Held) (k : List ℕ) (w : Option (List ℕ)) → there held k ≡ None → entries_of (held ++ (k, w) ∷ []) ≡ with_value (entries_of held) k w
entries_of-push held k w h =
    written held (held ++ (k, w) ∷ []) k w
    (λ q. ap flat (there-push held k w q h) ∙ sym (flat-cond (pointwise nat_eq k q) w (there held q)))

pub none_there : (held : Held) (q : List ℕ) → is_held (keys_of held) q ≡ false → there held q ≡ None
none_there held q h = by (there held q) refl
  where
    by : (o : Option (Option (List ℕ))) → there held q ≡ o → there held q ≡ None
    by None e = e
    by (Some w) e = absurd (true≢false (sym (is_held-there held q ∙ ap is_some e) ∙ h))

pub map_keys-take : {K B X : Type 0} (f : K → B) (n : ℕ) (es : List (K × X)) → map_keys f (take n es) ≡ take n (map_keys f es)
map_keys-take {K = K} {B = B} {X = X} f n es = sym (take-map (λ (e : K × X). (f e.0, e.1)) n es)
