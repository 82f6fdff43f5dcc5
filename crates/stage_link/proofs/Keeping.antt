-- Each step keeps the rule of the stage queue.
use Rattle.std.proofs.Common.{arith, ◌≡◌, ◌≢◌, ◌==◌, ℕ, zero, suc, ◌+◌, ◌≤◌, ◌<◌, ◌⊎◌, inl, inr, cond, Bool, true, false, List, [], ◌∷◌, ◌++◌, length, map, slice_set, sym, refl, ap, ◌∙◌, subst, ⊎_elim, append-nil, append_assoc, true≢false, lt_of_not-le}
use Rattle.std.proofs.lemmas.List.{map-append}
use Rattle.std.proofs.lemmas.Bool.Decides.{nat_tests}
use mathlib.Core.Option.{some, some-injective, some-ne-none}
use lib.ListN.{get_elem?}
use Rattle.crossbeam_queue.specs.Fifo.{Pushes, Pops, Forks, Merges, Learns}
use Rattle.atomic_table.proofs.Lists.{at_set, set_else}
use Rattle.stage_link.specs.declared.known.Known.{Known}
use Rattle.stage_link.specs.Producers.{of, consumer, producer, spent, with_put, with_taken, with_producer, with_joined, TookStarts, TookAll, Took}
use Rattle.stage_link.specs.Rule.{Fits, Keeps, Kept}

at_none : {A : Type 0} (n : ℕ) (b : A) → get_elem? [] n ≡ some b → ⊥
at_none n b e = some-ne-none b (sym e)

at_only : {A : Type 0} (P : A → Type 0) (a : A) → P a → (n : ℕ) (b : A) → get_elem? (a ∷ []) n ≡ some b → P b
at_only P a p zero b e = subst P (some-injective a b e) p
at_only P a p (suc n) b e = absurd (some-ne-none b (sym e))

only_place : {A : Type 0} (a : A) → (n : ℕ) (b : A) → get_elem? (a ∷ []) n ≡ some b → n ≡ 0
only_place a zero b e = refl
only_place a (suc n) b e = absurd (some-ne-none b (sym e))

at_end : {A : Type 0} (l : List A) (a b : A) (j : ℕ) → get_elem? (l ++ a ∷ []) j ≡ some b → (get_elem? l j ≡ some b) ⊎ ((j ≡ length l) × (a ≡ b))
at_end [] a b zero e = inr (refl, some-injective a b e)
at_end [] a b (suc j) e = absurd (some-ne-none b (sym e))
at_end (x ∷ xs) a b zero e = inl e
at_end (x ∷ xs) a b (suc j) e = ⊎_elim (λ t. inl t) (λ t. inr (ap suc t.0, t.1)) (at_end xs a b j e)

at_cons : {A : Type 0} (P : A → Type 0) (a : A) (l : List A) → P a → ((m : ℕ) (c : A) → get_elem? l m ≡ some c → P c) → (n : ℕ) (c : A) → get_elem? (a ∷ l) n ≡ some c → P c
at_cons P a l p q zero c e = subst P (some-injective a c e) p
at_cons P a l p q (suc n) c e = q n c e

set_hit : {A : Type 0} (l : List A) (i : ℕ) (a b : A) → get_elem? l i ≡ some a → get_elem? (slice_set l i b) i ≡ some b
set_hit [] i a b e = absurd (some-ne-none a (sym e))
set_hit (x ∷ xs) zero a b e = refl
set_hit (x ∷ xs) (suc i) a b e = set_hit xs i a b e

head_same : {A : Type 0} (x y : A) (xs ys : List A) → x ∷ xs ≡ y ∷ ys → x ≡ y
head_same {A} x y xs ys e = ap (λ (l : List A). elim l as (λ _. A) [ [] ↦ x | z ∷ zs ↦ z ]) e

tail_same : {A : Type 0} (x y : A) (xs ys : List A) → x ∷ xs ≡ y ∷ ys → xs ≡ ys
tail_same {A} x y xs ys e = ap (λ (l : List A). elim l as (λ _. List A) [ [] ↦ xs | z ∷ zs ↦ zs ]) e

not_empty : {A : Type 0} (xs : List A) (x : A) (ys : List A) → xs ++ x ∷ ys ≢ []
not_empty [] x ys e = let l = ap length e in omega arith
not_empty (z ∷ zs) x ys e = let l = ap length e in omega arith

below : (a b : ℕ) → (b ≤ a → ⊥) → a < b
below a b h = lt_of_not-le h

module _ {T : Type 0} where
  of_if : (b : Bool) (x : T) (xs ys : List T) → cond b (x ∷ xs) xs ++ ys ≡ cond b (x ∷ (xs ++ ys)) (xs ++ ys)
  of_if true x xs ys = refl
  of_if false x xs ys = refl

  of_append : (p : ℕ) (xs ys : List (ℕ × T)) → of p (xs ++ ys) ≡ of p xs ++ of p ys
  of_append p [] ys = refl
  of_append p (x ∷ xs) ys = ap (λ l. cond (x.0 == p) (x.1 ∷ l) l) (of_append p xs ys) ∙ sym (of_if (x.0 == p) x.1 (of p xs) (of p ys))

  of_mine : (p : ℕ) (xs : List (ℕ × T)) (x : T) → of p (xs ++ (p, x) ∷ []) ≡ of p xs ++ x ∷ []
  of_mine p xs x = let same : (p == p) ≡ true = grind (arith, nat_tests) in of_append p xs ((p, x) ∷ []) ∙ ap (λ b. of p xs ++ cond b (x ∷ []) []) same

  of_other : (p q : ℕ) (xs : List (ℕ × T)) (x : T) → q ≢ p → of p (xs ++ (q, x) ∷ []) ≡ of p xs
  of_other p q xs x n = let differs : (q == p) ≡ false = grind (arith, nat_tests) in of_append p xs ((q, x) ∷ []) ∙ ap (λ b. of p xs ++ cond b (x ∷ []) []) differs ∙ append-nil (of p xs)

  of_there : (p : ℕ) (xs ys : List (ℕ × T)) (x : T) → of p (xs ++ (p, x) ∷ ys) ≢ []
  of_there p xs ys x e = let same : (p == p) ≡ true = grind (arith, nat_tests) in not_empty (of p xs) x (of p ys) (ap (λ b. of p xs ++ cond b (x ∷ of p ys) (of p ys)) (sym same) ∙ sym (of_append p xs ((p, x) ∷ ys)) ∙ e)

  same_at : (l : List (Known T)) (i j : ℕ) (a b : Known T) → get_elem? l i ≡ some a → get_elem? l j ≡ some b → i ≡ j → a ≡ b
  same_at l i j a b e f is = some-injective a b (sym e ∙ ap (get_elem? l) is ∙ f)

  each_set : (F : Known T → Type 0) (views : List (Known T)) (pass : ℕ) (w : Known T) → F w → ((j : ℕ) (u : Known T) → j ≢ pass → get_elem? views j ≡ some u → F u) → (i : ℕ) (u : Known T) → get_elem? (slice_set views pass w) i ≡ some u → F u
  each_set F views pass w mine others i u e = ⊎_elim (λ p. subst F p.1 mine) (λ q. others i u q.0 q.1) (at_set views pass i w u e)

  -- u has no right that x had not
  abbrev Less : Known T → Known T → Type 0
  Less u x = (u.puts ≡ true → x.puts ≡ true) × (u.takes ≡ true → x.takes ≡ true) × (u.from ≡ x.from) × (x.made ≤ u.made)

  was : (views : List (Known T)) (pass : ℕ) (v w : Known T) → get_elem? views pass ≡ some v → Less w v → (i : ℕ) (u : Known T) → get_elem? (slice_set views pass w) i ≡ some u → (x : Known T) × (get_elem? views i ≡ some x) × Less u x
  was views pass v w at less i u e =
      ⊎_elim (λ s. (v, ap (get_elem? views) s.0 ∙ at, subst (λ y. Less y v) s.1 less)) (λ s. (u, s.1, ((λ h. h), (λ h. h), refl, omega arith))) (at_set views pass i w u e)

  module _ (took held : List (ℕ × T)) (items : List T) (views : List (Known T)) (k : Keeps took held items views) (pass : ℕ) (v w : Known T) (at : get_elem? views pass ≡ some v) (less : Less w v) where
    apart_set : (i j : ℕ) (a b : Known T) → get_elem? (slice_set views pass w) i ≡ some a → get_elem? (slice_set views pass w) j ≡ some b → a.puts ≡ true → b.puts ≡ true → a.from ≡ b.from → i ≡ j
    apart_set i j a b e f p q same = let x = was views pass v w at less i a e in let y = was views pass v w at less j b f in k.apart i j x.0 y.0 x.1 y.1 (x.2.0 p) (y.2.0 q) (sym x.2.2 ∙ same ∙ y.2.2)

    one_set : (i j : ℕ) (a b : Known T) → get_elem? (slice_set views pass w) i ≡ some a → get_elem? (slice_set views pass w) j ≡ some b → a.takes ≡ true → b.takes ≡ true → i ≡ j
    one_set i j a b e f p q = let x = was views pass v w at less i a e in let y = was views pass v w at less j b f in k.one i j x.0 y.0 x.1 y.1 (x.2.1 p) (y.2.1 q)

    fresh_set : (i j : ℕ) (a b : Known T) → get_elem? (slice_set views pass w) i ≡ some a → get_elem? (slice_set views pass w) j ≡ some b → a.takes ≡ true → b.puts ≡ true → b.from < a.made
    fresh_set i j a b e f p q = let x = was views pass v w at less i a e in let y = was views pass v w at less j b f in let h = k.fresh i j x.0 y.0 x.1 y.1 (x.2.1 p) (y.2.0 q) in let m = x.2.3 in let n = y.2.2 in omega arith

    gone_set : w.joined ≡ v.joined → (i j n : ℕ) (a b : Known T) (z : ℕ × List T) → get_elem? (slice_set views pass w) i ≡ some a → get_elem? (slice_set views pass w) j ≡ some b → a.takes ≡ true → b.puts ≡ true → get_elem? a.joined n ≡ some z → z.0 ≢ b.from
    gone_set same i j n a b z e f p q there =
        let y = was views pass v w at less j b f in
        λ is. ⊎_elim
        (λ s. k.gone pass j n v y.0 z at y.1 (less.1 (ap (λ (u : Known T). u.takes) s.1 ∙ p)) (y.2.0 q) (ap (λ l. get_elem? l n) (sym same) ∙ ap (λ (u : Known T). get_elem? u.joined n) s.1 ∙ there) (is ∙ y.2.2))
        (λ s. k.gone i j n a y.0 z s.1 y.1 p (y.2.0 q) there (is ∙ y.2.2))
        (at_set views pass i w a e)

  pub begins : Kept {T = T} [] (consumer ∷ [])
  begins =
      let c : Known T = consumer in
      let mine : Fits [] [] c = record { put_is = λ h. absurd (true≢false (sym h)); took_is = λ _. refl; later = λ _ p le. refl; joined_are = λ _ n x e. absurd (at_none n x e) } in
      let silent : (j : ℕ) (b : Known T) → get_elem? (c ∷ []) j ≡ some b → b.puts ≡ true → ⊥ = λ j b f. at_only (λ (y : Known T). y.puts ≡ true → ⊥) c (λ h. true≢false (sym h)) j b f in (
        [],
        [],
        record {
          items_are = refl;
          fits = at_only (Fits [] []) c mine;
          apart = λ i j a b e f p q s. only_place c i a e ∙ sym (only_place c j b f);
          one = λ i j a b e f p q. only_place c i a e ∙ sym (only_place c j b f);
          fresh = λ i j a b e f p q. absurd (silent j b f q);
          gone = λ i j n a b z e f p q there. absurd (silent j b f q);
        },
      )

  pub puts : (n pass : ℕ) (v : Known T) (x : T) → v.puts ≡ true → Pushes Kept n pass v x (λ w. w ≡ with_put v x)
  puts n pass v x may items views room h at =
      let took = h.0 in
      let held = h.1 in
      let k = h.2 in
      let w : Known T = with_put v x in
      let all : List (ℕ × T) = took ++ held in
      let y : ℕ × T = (v.from, x) in
      let less : Less w v = ((λ e. e), (λ e. e), refl, omega arith) in
      let old = k.fits pass v at in
      let more : (p : ℕ) → v.from ≢ p → of p (all ++ y ∷ []) ≡ of p all = λ p n. of_other p v.from all x n in
      let mine : Fits (all ++ y ∷ []) took w = record {
        put_is = λ _. ap (λ l. l ++ x ∷ []) (old.put_is may) ∙ sym (of_mine v.from all x);
        took_is = old.took_is;
        later = λ t p le. more p (λ is. let f = k.fresh pass pass v v at at t may in omega arith) ∙ old.later t p le;
        joined_are = λ t i z e. let o = old.joined_are t i z e in (o.0, more z.0 (λ is. k.gone pass pass i v v z at at t may e (sym is)) ∙ o.1);
      } in
      let others : (j : ℕ) (u : Known T) → j ≢ pass → get_elem? views j ≡ some u → Fits (all ++ y ∷ []) took u = λ j u other e. let o = k.fits j u e in record {
        put_is = λ p. o.put_is p ∙ sym (more u.from (λ is. other (k.apart j pass u v e at p may (sym is))));
        took_is = o.took_is;
        later = λ t p le. more p (λ is. let f = k.fresh j pass u v e at t may in omega arith) ∙ o.later t p le;
        joined_are = λ t i z f. let q = o.joined_are t i z f in (q.0, more z.0 (λ is. k.gone j pass i u v z e at t may f (sym is)) ∙ q.1);
      } in (
        w,
        (
          took,
          held ++ y ∷ [],
          record {
            items_are = map-append (λ (z : ℕ × T). z.1) held (y ∷ []) ∙ ap (λ l. l ++ x ∷ []) k.items_are;
            fits = subst (λ l. (i : ℕ) (u : Known T) → get_elem? (slice_set views pass w) i ≡ some u → Fits l took u) (append_assoc took held (y ∷ [])) (each_set (Fits (all ++ y ∷ []) took) views pass w mine others);
            apart = apart_set took held items views k pass v w at less;
            one = one_set took held items views k pass v w at less;
            fresh = fresh_set took held items views k pass v w at less;
            gone = gone_set took held items views k pass v w at less refl;
          },
        ),
        refl,
      )

  takes_on : (took held : List (ℕ × T)) (x : T) (items : List T) (views : List (Known T)) (pass : ℕ) (v : Known T) → v.takes ≡ true → Keeps took held (x ∷ items) views → map (λ (z : ℕ × T). z.1) held ≡ x ∷ items → get_elem? views pass ≡ some v
      → (w : Known T) × Kept items (slice_set views pass w) × Took v x w
  takes_on took [] x items views pass v may k e at = absurd (let l = ap length e in omega arith)
  takes_on took (y ∷ ys) x items views pass v may k e at =
      let P : T → Type 0 = λ z. (w : Known T) × Kept items (slice_set views pass w) × Took v z w in
      let w : Known T = with_taken v y.0 y.1 in
      let took' : List (ℕ × T) = took ++ y ∷ [] in
      let all : took' ++ ys ≡ took ++ y ∷ ys = append_assoc took (y ∷ []) ys in
      let less : Less w v = ((λ e. e), (λ e. e), refl, omega arith) in
      let old = k.fits pass v at in
      let is : v.took ++ y ∷ [] ≡ took' = ap (λ l. l ++ y ∷ []) (old.took_is may) in
      let mine : Fits (took' ++ ys) took' w = record {
        put_is = λ p. old.put_is p ∙ ap (of v.from) (sym all);
        took_is = λ _. is;
        later = λ t p le. ap (of p) all ∙ old.later t p le;
        joined_are = λ t i z f. let o = old.joined_are t i z f in (o.0, ap (of z.0) all ∙ o.1);
      } in
      let others : (j : ℕ) (u : Known T) → j ≢ pass → get_elem? views j ≡ some u → Fits (took' ++ ys) took' u = λ j u other f. let o = k.fits j u f in record {
        put_is = λ p. o.put_is p ∙ ap (of u.from) (sym all);
        took_is = λ t. absurd (other (k.one j pass u v f at t may));
        later = λ t. absurd (other (k.one j pass u v f at t may));
        joined_are = λ t. absurd (other (k.one j pass u v f at t may));
      } in
      subst P (head_same y.1 x (map (λ (z : ℕ × T). z.1) ys) items e) (
        w,
        (
          took',
          ys,
          record {
            items_are = tail_same y.1 x (map (λ (z : ℕ × T). z.1) ys) items e;
            fits = each_set (Fits (took' ++ ys) took') views pass w mine others;
            apart = apart_set took (y ∷ ys) (x ∷ items) views k pass v w at less;
            one = one_set took (y ∷ ys) (x ∷ items) views k pass v w at less;
            fresh = fresh_set took (y ∷ ys) (x ∷ items) views k pass v w at less;
            gone = gone_set took (y ∷ ys) (x ∷ items) views k pass v w at less refl;
          },
        ),
        (
          y.0,
          below y.0 v.made (λ le. of_there y.0 took ys y.1 (old.later may y.0 le)),
          refl,
          λ i z f. let o = old.joined_are may i z f in (of z.0 ys, ap (λ l. of z.0 l ++ of z.0 ys) is ∙ sym (of_append z.0 took' ys) ∙ ap (of z.0) all ∙ o.1),
        ),
      )

  pub takes : (pass : ℕ) (v : Known T) → v.takes ≡ true → Pops Kept pass v (Took v)
  takes pass v may x items views h at = takes_on h.0 h.1 x items views pass v may h.2 h.2.items_are at

  pub starts : (pass : ℕ) (v : Known T) → v.takes ≡ true → Learns Kept pass v (λ items. TookStarts v)
  starts pass v may items views h at i z f =
      let old = h.2.fits pass v at in
      let o = old.joined_are may i z f in
      (of z.0 h.1, ap (λ l. of z.0 l ++ of z.0 h.1) (old.took_is may) ∙ sym (of_append z.0 h.0 h.1) ∙ o.1)

  none_held : (held : List (ℕ × T)) → map (λ (z : ℕ × T). z.1) held ≡ [] → held ≡ []
  none_held [] e = refl
  none_held (y ∷ ys) e = absurd (let l = ap length e in omega arith)

  pub empties : (pass : ℕ) (v : Known T) → v.takes ≡ true → Learns Kept pass v (λ items. items ≡ [] → TookAll v)
  empties pass v may items views h at none i z f =
      let old = h.2.fits pass v at in
      let o = old.joined_are may i z f in
      let held = none_held h.1 (h.2.items_are ∙ none) in
      ap (of z.0) (old.took_is may ∙ sym (append-nil h.0) ∙ ap (λ l. h.0 ++ l) (sym held)) ∙ o.1

  pub forks : (pass : ℕ) (v : Known T) → v.takes ≡ true → Forks Kept pass v (with_producer v) (producer v.made)
  forks pass v may items views h at =
      let took = h.0 in
      let held = h.1 in
      let k = h.2 in
      let l : Known T = with_producer v in
      let r : Known T = producer v.made in
      let vs : List (Known T) = slice_set views pass l in
      let less : Less l v = ((λ e. e), (λ e. e), refl, omega arith) in
      let old = k.fits pass v at in
      let F : Known T → Type 0 = Fits (took ++ held) took in
      let mine : F l = record {
        put_is = old.put_is;
        took_is = old.took_is;
        later = λ t p le. old.later t p (omega arith);
        joined_are = λ t i z f. let o = old.joined_are t i z f in let b = o.0 in (omega arith, o.1);
      } in
      let new : F r = record {
        put_is = λ _. sym (old.later may v.made (omega arith));
        took_is = λ t. absurd (true≢false (sym t));
        later = λ t. absurd (true≢false (sym t));
        joined_are = λ t. absurd (true≢false (sym t));
      } in
      let lower : (i : ℕ) (u : Known T) → get_elem? vs i ≡ some u → u.puts ≡ true → u.from < v.made = λ i u e p. let x = was views pass v l at less i u e in let f = k.fresh pass i v x.0 at x.1 may (x.2.0 p) in let s = x.2.2 in omega arith in
      let mute : (u : Known T) → r ≡ u → u.takes ≡ true → ⊥ = λ u is t. true≢false (sym t ∙ ap (λ (y : Known T). y.takes) (sym is)) in
      let reader : (i : ℕ) (u : Known T) → get_elem? vs i ≡ some u → u.takes ≡ true → l ≡ u = λ i u e t. let x = was views pass v l at less i u e in same_at vs pass i l u (set_hit views pass v l at) e (sym (k.one i pass x.0 v x.1 at (x.2.1 t) may)) in (
        took,
        held,
        record {
          items_are = k.items_are;
          fits = λ i u e. ⊎_elim (λ q. each_set F views pass l mine (λ j x other f. k.fits j x f) i u q) (λ q. subst F q.1 new) (at_end vs r u i e);
          apart = λ i j a b e f p q s. ⊎_elim
              (λ x. ⊎_elim (λ y. apart_set took held items views k pass v l at less i j a b x y p q s) (λ y. absurd (let m = lower i a x p in let n : b.from ≡ v.made = ap (λ (c : Known T). c.from) (sym y.1) in omega arith)) (at_end vs r b j f))
              (λ x. ⊎_elim (λ y. absurd (let m = lower j b y q in let n : a.from ≡ v.made = ap (λ (c : Known T). c.from) (sym x.1) in omega arith)) (λ y. x.0 ∙ sym y.0) (at_end vs r b j f))
              (at_end vs r a i e);
          one = λ i j a b e f p q. ⊎_elim
              (λ x. ⊎_elim (λ y. one_set took held items views k pass v l at less i j a b x y p q) (λ y. absurd (mute b y.1 q)) (at_end vs r b j f))
              (λ x. absurd (mute a x.1 p))
              (at_end vs r a i e);
          fresh = λ i j a b e f p q. ⊎_elim
              (λ x. ⊎_elim (λ y. fresh_set took held items views k pass v l at less i j a b x y p q) (λ y. let n : b.from ≡ v.made = ap (λ (c : Known T). c.from) (sym y.1) in let m : v.made + 1 ≡ a.made = ap (λ (c : Known T). c.made) (reader i a x p) in omega arith) (at_end vs r b j f))
              (λ x. absurd (mute a x.1 p))
              (at_end vs r a i e);
          gone = λ i j n a b z e f p q there. ⊎_elim
              (λ x. ⊎_elim (λ y. gone_set took held items views k pass v l at less refl i j n a b z x y p q there)
              (λ y is. let o = old.joined_are may n z (ap (λ (c : Known T). get_elem? c.joined n) (reader i a x p) ∙ there) in let b1 = o.0 in let s : b.from ≡ v.made = ap (λ (c : Known T). c.from) (sym y.1) in omega arith) (at_end vs r b j f))
              (λ x. absurd (mute a x.1 p))
              (at_end vs r a i e);
        },
      )

  pub merges : (pass : ℕ) (v : Known T) (other : ℕ) (w : Known T) → v.takes ≡ true → w.puts ≡ true → Merges Kept pass v other w (with_joined v w) spent
  merges pass v other w may theirs items views h at two at' =
      let took = h.0 in
      let held = h.1 in
      let k = h.2 in
      let b : Known T = with_joined v w in
      let vs : List (Known T) = slice_set views pass b in
      let there : get_elem? views other ≡ some w = sym (set_else views pass other b two) ∙ at' in
      let less : Less b v = ((λ e. e), (λ e. e), refl, omega arith) in
      let old = k.fits pass v at in
      let F : Known T → Type 0 = Fits (took ++ held) took in
      let joined : (n : ℕ) (z : ℕ × List T) → get_elem? ((w.from, w.put) ∷ v.joined) n ≡ some z → (z.0 < v.made) × (of z.0 (took ++ held) ≡ z.1) =
      λ n z e. at_cons (λ z. (z.0 < v.made) × (of z.0 (took ++ held) ≡ z.1)) (w.from, w.put) v.joined (k.fresh pass other v w at there may theirs, sym ((k.fits other w there).put_is theirs)) (old.joined_are may) n z e in
      let mine : F b = record { put_is = old.put_is; took_is = old.took_is; later = old.later; joined_are = λ _. joined } in
      let none : F spent = record { put_is = λ t. absurd (true≢false (sym t)); took_is = λ t. absurd (true≢false (sym t)); later = λ t. absurd (true≢false (sym t)); joined_are = λ t. absurd (true≢false (sym t)) } in
      let ends : List (Known T) = slice_set vs other spent in
      let live : (i : ℕ) (u : Known T) → get_elem? ends i ≡ some u → (u.puts ≡ true) ⊎ (u.takes ≡ true) → (i ≢ other) × (get_elem? vs i ≡ some u) =
      λ i u e r. ⊎_elim (λ s. absurd (⊎_elim (λ p. true≢false (sym p ∙ ap (λ (y : Known T). y.puts) (sym s.1))) (λ t. true≢false (sym t ∙ ap (λ (y : Known T). y.takes) (sym s.1))) r)) (λ s. s) (at_set vs other i spent u e) in (
        took,
        held,
        record {
          items_are = k.items_are;
          fits = each_set F vs other spent none (λ j u n e. each_set F views pass b mine (λ i x m f. k.fits i x f) j u e);
          apart = λ i j x y e f p q s. apart_set took held items views k pass v b at less i j x y (live i x e (inl p)).1 (live j y f (inl q)).1 p q s;
          one = λ i j x y e f p q. one_set took held items views k pass v b at less i j x y (live i x e (inr p)).1 (live j y f (inr q)).1 p q;
          fresh = λ i j x y e f p q. fresh_set took held items views k pass v b at less i j x y (live i x e (inr p)).1 (live j y f (inl q)).1 p q;
          gone = λ i j n x y z e f p q in_joined.
              let yy = live j y f (inl q) in
              let o = was views pass v b at less j y yy.1 in
              λ is. ⊎_elim
              (λ s. at_cons (λ (c : ℕ × List T). c.0 ≢ y.from) (w.from, w.put) v.joined
              (λ same. yy.0 (k.apart j other o.0 w o.1 there (o.2.0 q) theirs (sym o.2.2 ∙ sym same)))
              (λ m c g same. k.gone pass j m v o.0 c at o.1 may (o.2.0 q) g (same ∙ o.2.2))
              n z (ap (λ (u : Known T). get_elem? u.joined n) s.1 ∙ in_joined) is)
              (λ s. k.gone i j n x o.0 z s.1 o.1 p (o.2.0 q) in_joined (is ∙ o.2.2))
              (at_set views pass i b x (live i x e (inr p)).1);
        },
      )
