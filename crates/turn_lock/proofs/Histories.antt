-- Histories, their beginnings, and the entries of some numbers.
use Rattle.std.proofs.Common.{arith, ◌≡◌, ℕ, suc, ◌≤◌, nat_lt, cond, Bool, true, false, List, [], ◌∷◌, ◌++◌, length, Option, refl, sym, ap, ◌∙◌, subst, true≢false, append-nil, append_assoc}
use Rattle.std.proofs.lemmas.List.{append_cancel_left, map-append}
use Rattle.std.proofs.lemmas.Bool.Decides.{nat_tests}
use Rattle.std.proofs.lemmas.List.Elements.{filter-append}
use Rattle.turn_lock.specs.Numbers.{has, united, HasAll}
use Rattle.turn_lock.specs.Histories.{IsStartOf, entries, of_numbers, longer, Follows, MayFollow, LegalFrom}
use Rattle.turn_lock.proofs.SeatRows.{has_both}

pub head_same : {A : Type 0} (x y : A) (xs ys : List A) → x ∷ xs ≡ y ∷ ys → x ≡ y
head_same {A} x y xs ys e = ap (λ (l : List A). elim l as (λ _. A) [ [] ↦ x | z ∷ zs ↦ z ]) e

tail_same : {A : Type 0} (x y : A) (xs ys : List A) → x ∷ xs ≡ y ∷ ys → xs ≡ ys
tail_same {A} x y xs ys e = ap (λ (l : List A). elim l as (λ _. List A) [ [] ↦ xs | z ∷ zs ↦ zs ]) e

-- of two beginnings of one list the shorter is a beginning of the longer
shorter_starts : {A : Type 0} (xs ys log : List A) → IsStartOf xs log → IsStartOf ys log → length xs ≤ length ys → IsStartOf xs ys
shorter_starts [] ys log a b h = (ys, refl)
shorter_starts (x ∷ xs) [] log a b h = absurd (omega arith)
shorter_starts (x ∷ xs) (y ∷ ys) [] a b h = absurd (let e = ap length a.1 in omega arith)
shorter_starts (x ∷ xs) (y ∷ ys) (z ∷ zs) a b h =
    let r = shorter_starts xs ys zs (a.0, tail_same x z (xs ++ a.0) zs a.1) (b.0, tail_same y z (ys ++ b.0) zs b.1) (omega arith) in
    (r.0, λ k. (head_same x z (xs ++ a.0) zs a.1 ∙ sym (head_same y z (ys ++ b.0) zs b.1)) k ∷ r.1 k)

pub not_true : (b : Bool) → (b ≡ true → ⊥) → b ≡ false
not_true true h = absurd (h refl)
not_true false h = refl

module _ {E : Type 0} where
  -- none of these entries is of these numbers
  abbrev pub Out : List Bool → List (ℕ × E) → Type 0
  Out ns [] = Unit {0}
  Out ns (x ∷ xs) = (has ns x.0 ≡ false) × Out ns xs

  outs_if : (ns : List Bool) (x : ℕ × E) (xs : List (ℕ × E)) → (b : Bool) → has ns x.0 ≡ b → (of_numbers ns xs ≡ [] → Out ns xs) → cond b (x ∷ of_numbers ns xs) (of_numbers ns xs) ≡ [] → (has ns x.0 ≡ false) × Out ns xs
  outs_if ns x xs true is h e = absurd (let l = ap length e in omega arith)
  outs_if ns x xs false is h e = (is, h e)

  outs : (ns : List Bool) (xs : List (ℕ × E)) → of_numbers ns xs ≡ [] → Out ns xs
  outs ns [] e = tt
  outs ns (x ∷ xs) e = outs_if ns x xs (has ns x.0) refl (outs ns xs) e

  none_out : (ns : List Bool) (xs : List (ℕ × E)) → Out ns xs → of_numbers ns xs ≡ []
  none_out ns [] h = refl
  none_out ns (x ∷ xs) h = ap (λ b. cond b (x ∷ of_numbers ns xs) (of_numbers ns xs)) h.0 ∙ none_out ns xs h.1

  pub follows_out : (ns : List Bool) (seen log : List (ℕ × E)) → (f : Follows ns seen log) → Out ns f.0.0
  follows_out ns seen log f =
      outs ns f.0.0 (append_cancel_left (of_numbers ns seen) (of_numbers ns f.0.0) []
      (sym (filter-append (λ x. has ns x.0) seen f.0.0) ∙ ap (of_numbers ns) f.0.1 ∙ sym f.1 ∙ sym (append-nil (of_numbers ns seen))))

  pub out_follows : (ns : List Bool) (seen log : List (ℕ × E)) (s : IsStartOf seen log) → Out ns s.0 → Follows ns seen log
  out_follows ns seen log s h =
      (s, sym (append-nil (of_numbers ns seen)) ∙ ap (λ l. of_numbers ns seen ++ l) (sym (none_out ns s.0 h)) ∙ sym (filter-append (λ x. has ns x.0) seen s.0) ∙ ap (of_numbers ns) s.1)

  out_fewer : (ms ns : List Bool) → ((n : ℕ) → has ms n ≡ true → has ns n ≡ true) → (xs : List (ℕ × E)) → Out ns xs → Out ms xs
  out_fewer ms ns sub [] h = tt
  out_fewer ms ns sub (x ∷ xs) h = (not_true (has ms x.0) (λ e. true≢false (sym (sub x.0 e) ∙ h.0)), out_fewer ms ns sub xs h.1)

  out_united : (ms ns : List Bool) (xs : List (ℕ × E)) → Out ms xs → Out ns xs → Out (united ms ns) xs
  out_united ms ns [] h g = tt
  out_united ms ns (x ∷ xs) h g = (not_true (has (united ms ns) x.0) (λ e. true≢false (sym (has_both ms ns x.0 e h.0) ∙ g.0)), out_united ms ns xs h.1 g.1)

  out_append : (ns : List Bool) (xs ys : List (ℕ × E)) → Out ns (xs ++ ys) → Out ns xs × Out ns ys
  out_append ns [] ys h = (tt, h)
  out_append ns (x ∷ xs) ys h = let r = out_append ns xs ys h.1 in ((h.0, r.0), r.1)

  append_out : (ns : List Bool) (xs ys : List (ℕ × E)) → Out ns xs → Out ns ys → Out ns (xs ++ ys)
  append_out ns [] ys h g = g
  append_out ns (x ∷ xs) ys h g = (h.0, append_out ns xs ys h.1 g)

  pub follows_self : (ns : List Bool) (log : List (ℕ × E)) → Follows ns log log
  follows_self ns log = (([], append-nil log), refl)

  -- what is followed goes on where the wider goes on
  pub follows_on : (ms ns : List Bool) (a b c : List (ℕ × E)) → ((n : ℕ) → has ms n ≡ true → has ns n ≡ true) → Follows ms a b → Follows ns b c → Follows ms a c
  unfolding out_follows
  follows_on ms ns a b c sub f g = (
    (f.0.0 ++ g.0.0, sym (append_assoc a f.0.0 g.0.0) ∙ ap (λ l. l ++ g.0.0) f.0.1 ∙ g.0.1),
    f.1 ∙ (out_follows ms b c g.0 (out_fewer ms ns sub g.0.0 (follows_out ns b c g))).1,
  )

  pub follows_fewer : (ms ns : List Bool) (seen log : List (ℕ × E)) → ((n : ℕ) → has ms n ≡ true → has ns n ≡ true) → Follows ns seen log → Follows ms seen log
  follows_fewer ms ns seen log sub f = out_follows ms seen log f.0 (out_fewer ms ns sub f.0.0 (follows_out ns seen log f))

  -- a history that grows by an entry of another number
  pub follows_more : (ns : List Bool) (seen log : List (ℕ × E)) (x : ℕ × E) → has ns x.0 ≡ false → Follows ns seen log → Follows ns seen (log ++ x ∷ [])
  follows_more ns seen log x other f =
      out_follows ns seen (log ++ x ∷ []) (f.0.0 ++ x ∷ [], sym (append_assoc seen f.0.0 (x ∷ [])) ∙ ap (λ l. l ++ x ∷ []) f.0.1) (append_out ns f.0.0 (x ∷ []) (follows_out ns seen log f) (other, tt))

  -- what is seen may be more, and the history less
  pub follows_between : (ns : List Bool) (seen more log : List (ℕ × E)) → Follows ns seen log → (s : IsStartOf seen more) → IsStartOf more log → Follows ns seen more × Follows ns more log
  follows_between ns seen more log f s t =
      let whole : s.0 ++ t.0 ≡ f.0.0 = append_cancel_left seen (s.0 ++ t.0) f.0.0 (sym (append_assoc seen s.0 t.0) ∙ ap (λ l. l ++ t.0) s.1 ∙ t.1 ∙ sym f.0.1) in
      let outs = out_append ns s.0 t.0 (subst (Out ns) (sym whole) (follows_out ns seen log f)) in
      (out_follows ns seen more s outs.0, out_follows ns more log t outs.1)

  longer_is : (xs ys : List (ℕ × E)) (F : List (ℕ × E) → Type 0) → (length ys ≤ length xs → F xs) → (length xs ≤ length ys → F ys) → (b : Bool) → nat_lt (length xs) (length ys) ≡ b → F (cond b ys xs)
  longer_is xs ys F h g true is = g (grind (arith, nat_tests))
  longer_is xs ys F h g false is = h (grind (arith, nat_tests))

  pub longer_case : (xs ys : List (ℕ × E)) (F : List (ℕ × E) → Type 0) → (length ys ≤ length xs → F xs) → (length xs ≤ length ys → F ys) → F (longer xs ys)
  longer_case xs ys F h g = longer_is xs ys F h g (nat_lt (length xs) (length ys)) refl

  start_self : (xs : List (ℕ × E)) → IsStartOf xs xs
  start_self xs = ([], append-nil xs)

  -- what two passes have seen, joined
  pub longer_follows : (ms ns : List Bool) (xs ys log : List (ℕ × E)) → Follows ms xs log → Follows ns ys log → Follows ms xs (longer xs ys) × Follows ns ys (longer xs ys) × Follows (united ms ns) (longer xs ys) log
  unfolding follows_between out_follows
  longer_follows ms ns xs ys log f g =
      longer_case xs ys (λ l. Follows ms xs l × Follows ns ys l × Follows (united ms ns) l log)
      (λ h. let s = shorter_starts ys xs log g.0 f.0 h in let b = follows_between ns ys xs log g s f.0 in
      (follows_self ms xs, b.0, out_follows (united ms ns) xs log f.0 (out_united ms ns f.0.0 (follows_out ms xs log f) (follows_out ns xs log b.1))))
      (λ h. let s = shorter_starts xs ys log f.0 g.0 h in let b = follows_between ms xs ys log f s g.0 in
      (b.0, follows_self ns ys, out_follows (united ms ns) ys log g.0 (out_united ms ns g.0.0 (follows_out ms ys log b.1) (follows_out ns ys log g))))

  pub same_length : (log : List (ℕ × E)) → length (entries log) ≡ length log
  same_length [] = refl
  same_length (x ∷ xs) = ap suc (same_length xs)

  pub entries_more : (log : List (ℕ × E)) (x : ℕ × E) → entries (log ++ x ∷ []) ≡ entries log ++ x.1 ∷ []
  entries_more log x = map-append (λ (y : ℕ × E). y.1) log (x ∷ [])

  pub of_none : (log : List (ℕ × E)) → of_numbers [] log ≡ []
  of_none [] = refl
  of_none (x ∷ xs) = of_none xs

  pub of_mine : (ns : List Bool) (log : List (ℕ × E)) (x : ℕ × E) → has ns x.0 ≡ true → of_numbers ns (log ++ x ∷ []) ≡ of_numbers ns log ++ x ∷ []
  of_mine ns log x mine = filter-append (λ y. has ns y.0) log (x ∷ []) ∙ ap (λ b. of_numbers ns log ++ cond b (x ∷ []) []) mine

module _ {E D C A : Type 0} (plays : D → List E → C → A → Option E → Type 0) (d : D) (seats : ℕ) where
  pub legal_more : (before : List E) (log : List (ℕ × E)) (x : ℕ × E) → LegalFrom plays d seats before log → MayFollow plays d seats (before ++ entries log) x → LegalFrom plays d seats before (log ++ x ∷ [])
  legal_more before [] x h m = (subst (λ l. MayFollow plays d seats l x) (append-nil before) m, tt)
  legal_more before (y ∷ ys) x h m = (h.0, legal_more (before ++ y.1 ∷ []) ys x h.1 (subst (λ l. MayFollow plays d seats l x) (sym (append_assoc before (y.1 ∷ []) (entries ys))) m))

  pub all_of : (ns : List Bool) → HasAll seats ns → (before : List E) (log : List (ℕ × E)) → LegalFrom plays d seats before log → of_numbers ns log ≡ log
  all_of ns h before [] l = refl
  all_of ns h before (x ∷ xs) l = ap (λ b. cond b (x ∷ of_numbers ns xs) (of_numbers ns xs)) (h x.0 l.0.1 l.0.2) ∙ (λ k. x ∷ all_of ns h (before ++ x.1 ∷ []) xs l.1 k)
