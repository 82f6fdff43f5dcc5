-- Each step keeps the rule of the turn.
use Rattle.std.proofs.Common.{arith, ◌≡◌, ◌≢◌, ◌==◌, ℕ, zero, suc, ◌+◌, ◌≤◌, ◌<◌, ◌⊎◌, inl, inr, Bool, true, false, List, [], ◌∷◌, ◌++◌, length, cond, slice_index, slice_set, replicate, Option, Some, None, sym, refl, ap, ◌∙◌, subst, ⊎_elim, append-nil, length-append, true≢false, ◌%◌, ◌^◌}
use Rattle.std.proofs.lemmas.List.{append_cancel_left}
use Rattle.std.specs.List.{filter}
use Rattle.std.proofs.lemmas.Bool.Decides.{nat_tests}
use Rattle.std.proofs.Math.Nat.{mod-eq_of_lt}
use mathlib.Core.Option.{some, none, some-injective, some-ne-none}
use mathlib.Core.Logic.{dite}
use native.Mathlib.Decide.{ℕ_discrete}
use lib.ListN.{get_elem?}
use prog.Atomic.{either}
use Rattle.atomic_table.specs.Table.{State, Me, step, Act, takes, keeps, gives, Allows, Splits, Joins, Final, Seen, Valid, stepped, carried_after, opening}
use Rattle.atomic_table.proofs.Lists.{at_set, set_again, set_else, at_longer}
use Rattle.turn_lock.specs.Numbers.{has, greatest, without, only, united, HasAll, HasNoOther}
use Rattle.turn_lock.specs.Histories.{entries, of_numbers, longer, Follows, Legal}
use Rattle.turn_lock.specs.Views.{own, IsPart, with_mark, at_start, left, right, both, spent}
use Rattle.turn_lock.specs.Rule.{Fits, Keeps, Kept, Claimed, Recorded, Released, Looked, Learned}
use Rattle.turn_lock.specs.declared.known.Known.{Known}
use Rattle.turn_lock.proofs.SeatRows.{has_set, has_here, has_none, has_both, has_left, has_right, has_greatest, has_within}
use Rattle.turn_lock.proofs.Histories.{head_same, not_true, follows_self, follows_fewer, follows_more, longer_follows, of_none, same_length, legal_more, all_of}

at_only : {A : Type 0} (P : A → Type 0) (a : A) → P a → (n : ℕ) (b : A) → get_elem? (a ∷ []) n ≡ some b → P b
at_only P a p zero b e = subst P (some-injective a b e) p
at_only P a p (suc n) b e = absurd (some-ne-none b (sym e))

only_place : {A : Type 0} (a : A) → (n : ℕ) (b : A) → get_elem? (a ∷ []) n ≡ some b → n ≡ 0
only_place a zero b e = refl
only_place a (suc n) b e = absurd (some-ne-none b (sym e))

at_none : {A : Type 0} (n : ℕ) (b : A) → get_elem? [] n ≡ some b → ⊥
at_none n b e = some-ne-none b (sym e)

set_only : {A : Type 0} (hs : List A) (a : A) → length hs ≡ 1 → slice_set hs 0 a ≡ a ∷ []
set_only [] a e = absurd (omega arith)
set_only (x ∷ []) a e = refl
set_only (x ∷ y ∷ hs) a e = absurd (omega arith)

set_hit : {A : Type 0} (l : List A) (i : ℕ) (a b : A) → get_elem? l i ≡ some a → get_elem? (slice_set l i b) i ≡ some b
set_hit [] i a b e = absurd (some-ne-none a (sym e))
set_hit (x ∷ xs) zero a b e = refl
set_hit (x ∷ xs) (suc i) a b e = set_hit xs i a b e

-- what stands in a list with one more
at_end : {A : Type 0} (l : List A) (a b : A) (j : ℕ) → get_elem? (l ++ a ∷ []) j ≡ some b → (get_elem? l j ≡ some b) ⊎ ((j ≡ length l) × (a ≡ b))
at_end [] a b zero e = inr (refl, some-injective a b e)
at_end [] a b (suc j) e = absurd (some-ne-none b (sym e))
at_end (x ∷ xs) a b zero e = inl e
at_end (x ∷ xs) a b (suc j) e = ⊎_elim (λ t. inl t) (λ t. inr (ap suc t.0, t.1)) (at_end xs a b j e)

same_at : {A : Type 0} (l : List A) (i j : ℕ) (a b : A) → get_elem? l i ≡ some a → get_elem? l j ≡ some b → i ≡ j → a ≡ b
same_at l i j a b e f is = some-injective a b (sym e ∙ ap (get_elem? l) is ∙ f)

mod_small : (n m : ℕ) → m ≡ n + 1 → m < 2 ^ 64 → (n + 1) % 2 ^ 64 ≡ m
mod_small n m e h = mod-eq_of_lt (subst (λ k. k < 2 ^ 64) e h) ∙ sym e

abbrev pub value_or : {A : Type 0} → A → Option A → A
value_or a None = a
value_or a (Some b) = b

abbrev first_or : {A : Type 0} → A → List (ℕ × Option A) → A
first_or a [] = a
first_or a (x ∷ xs) = value_or a x.1

first_same : {A : Type 0} (a b : A) (xs ys : List (ℕ × Option A)) → (0, Some a) ∷ xs ≡ (0, Some b) ∷ ys → a ≡ b
first_same {A} a b xs ys e = ap (first_or a) e

abbrev replicate_false : List Bool
replicate_false = replicate 256 false

abbrev pub is_there : {A : Type 0} → Option A → Bool
is_there None = false
is_there (Some a) = true

either_of : (a b : Bool) → (a ≡ false → b ≡ true) → (a ≡ true) ⊎ (b ≡ true)
either_of true b h = inl refl
either_of false b h = inr (h refl)

at_two : {A : Type 0} (P : A → Type 0) (a b : A) → P a → P b → (n : ℕ) (c : A) → get_elem? (a ∷ b ∷ []) n ≡ some c → P c
at_two P a b p q zero c e = subst P (some-injective a c e) p
at_two P a b p q (suc zero) c e = subst P (some-injective b c e) q
at_two P a b p q (suc (suc n)) c e = absurd (some-ne-none c (sym e))

filter_if : {A : Type 0} (a : A) (xs ys : List A) (b : Bool) → length ys ≤ length xs → length (cond b (a ∷ ys) ys) ≤ length (a ∷ xs)
filter_if a xs ys true h = omega arith
filter_if a xs ys false h = omega arith

filter_short : {A : Type 0} (p : A → Bool) (xs : List A) → length (filter p xs) ≤ length xs
filter_short p [] = omega arith
filter_short p (x ∷ xs) = filter_if x xs (filter p xs) (p x) (filter_short p xs)

rest_none : {A : Type 0} {n m : ℕ} (rest : List A) → n ≤ m → n ≡ m + length rest → rest ≡ []
rest_none [] h e = refl
rest_none (x ∷ xs) h e = absurd (omega arith)

-- who has every number has seen all
seen_all : {E : Type 0} (ns : List Bool) (seen log : List (ℕ × E)) → Follows ns seen log → of_numbers ns log ≡ log → seen ≡ log
seen_all ns seen log f whole = let r = rest_none f.0.0 (filter_short (λ x. has ns x.0) seen) (ap length (f.1 ∙ whole) ∙ ap length (sym f.0.1) ∙ length-append seen f.0.0) in sym (append-nil seen) ∙ ap (λ l. seen ++ l) (sym r) ∙ f.0.1

module _ {E D : Type 0} where
  -- views after a step of one seat that keeps its numbers
  was_there : (views : List (Known E D)) (id : ℕ) (v w : Known E D) → get_elem? views id ≡ some v → ((n : ℕ) → has w.numbers n ≡ true → has v.numbers n ≡ true)
      → (i : ℕ) (u : Known E D) → get_elem? (slice_set views id w) i ≡ some u → (x : Known E D) × (get_elem? views i ≡ some x) × ((n : ℕ) → has u.numbers n ≡ true → has x.numbers n ≡ true)
  was_there views id v w at fewer i u e =
      ⊎_elim (λ p. (v, ap (get_elem? views) p.0 ∙ at, λ n h. fewer n (ap (λ (y : Known E D). has y.numbers n) p.1 ∙ h))) (λ q. (u, q.1, λ n h. h)) (at_set views id i w u e)

  Apart : List (Known E D) → Type 0
  Apart views = (i j n : ℕ) (u v : Known E D) → get_elem? views i ≡ some u → get_elem? views j ≡ some v → has u.numbers n ≡ true → has v.numbers n ≡ true → i ≡ j

  Each : (ℕ → Known E D → Type 0) → List (Known E D) → Type 0
  Each F views = (i : ℕ) (u : Known E D) → get_elem? views i ≡ some u → F i u

  apart_set : (views : List (Known E D)) (id : ℕ) (v w : Known E D) → get_elem? views id ≡ some v → ((n : ℕ) → has w.numbers n ≡ true → has v.numbers n ≡ true)
      → ((i j n : ℕ) (u v : Known E D) → get_elem? views i ≡ some u → get_elem? views j ≡ some v → has u.numbers n ≡ true → has v.numbers n ≡ true → i ≡ j)
      → (i j n : ℕ) (u v : Known E D) → get_elem? (slice_set views id w) i ≡ some u → get_elem? (slice_set views id w) j ≡ some v → has u.numbers n ≡ true → has v.numbers n ≡ true → i ≡ j
  apart_set views id v w at fewer apart i j n u y e f h g =
      let x = was_there views id v w at fewer i u e in
      let z = was_there views id v w at fewer j y f in
      apart i j n x.0 z.0 x.1 z.1 (x.2 n h) (z.2 n g)

  each_set : (F : Known E D → Type 0) (views : List (Known E D)) (id : ℕ) (w : Known E D) → F w → ((j : ℕ) (u : Known E D) → j ≢ id → get_elem? views j ≡ some u → F u)
      → (i : ℕ) (u : Known E D) → get_elem? (slice_set views id w) i ≡ some u → F u
  each_set F views id w mine others i u e = ⊎_elim (λ p. subst F p.1 mine) (λ q. others i u q.0 q.1) (at_set views id i w u e)

module _ {M E D C A : Type 0} (journal : M → List E) (made : M → D) (plays : D → List E → C → A → Option E → Type 0) where
  pub opens : (m : M) (seats : ℕ) (ns : List Bool) → journal m ≡ [] → HasNoOther seats ns
      → Kept journal made plays m seats (opening (0 ∷ 0 ∷ []) (Some m ∷ []) (at_start (made m) seats ns))
  opens m seats ns fresh range =
      let v : Known E D = at_start (made m) seats ns in
      let P : Known E D → Type 0 = λ u. Fits (made m) seats 0 [] u in
      let mine : P v = record {
        same = λ x e. (sym (ap (value_or (made m)) e), refl);
        follows = follows_self ns [];
        range = range;
        holds = λ h. absurd (h refl);
        parts = λ k p e. absurd (at_none k p e);
      } in (
        0,
        [],
        record {
          words = refl;
          home = λ _. (m, refl, (fresh, refl));
          legal = tt;
          views = λ i u e. at_only P v mine i u e;
          apart = λ i j n u w e f h g. only_place v i u e ∙ sym (only_place v j w f);
          held = λ h. absurd (h refl);
        },
      )

  -- who holds no mark has no number that is the mark
  not_marked : (d : D) (seats mark : ℕ) (log : List (ℕ × E)) (s : State (Option M) (Known E D)) → Keeps journal made plays d seats mark log s
      → (id : ℕ) (v : Known E D) → get_elem? s.views id ≡ some v → v.mark ≡ 0 → mark ≢ 0 → has v.numbers mark ≡ false
  not_marked d seats mark log s k id v at free taken =
      let h = k.held taken in
      let theirs = k.views h.0 h.1 h.2 in
      not_true (has v.numbers mark) (λ e.
      let i : id ≡ h.0 = k.apart id h.0 mark v h.1 at h.2 e (theirs.holds (λ z. taken (sym h.3 ∙ z))).1 in
      taken (sym h.3 ∙ sym (ap (λ (y : Known E D). y.mark) (same_at s.views id h.0 v h.1 at h.2 i)) ∙ free))

  -- a mark is a seat's number
  marked_small : (d : D) (seats mark : ℕ) (log : List (ℕ × E)) (s : State (Option M) (Known E D)) → Keeps journal made plays d seats mark log s → mark ≢ 0 → mark ≤ seats
  marked_small d seats mark log s k taken =
      let h = k.held taken in
      let theirs = k.views h.0 h.1 h.2 in
      (theirs.range mark (theirs.holds (λ z. taken (sym h.3 ∙ z))).1).1

  goes : (first : M) (seats slots id number : ℕ) (v : Known E D) → 0 < number → has v.numbers number ≡ true → v.mark ≡ 0 → v.parts ≡ []
      → (s : State (Option M) (Known E D)) (mark : ℕ) (log : List (ℕ × E)) → Keeps journal made plays (made first) seats mark log s → get_elem? s.views id ≡ some v
      → (b : Bool) → (mark == 0) ≡ b
      → (w : Known E D) × (a : Act (Option M)) × Valid s.homes [] a
      × Kept journal made plays first seats (stepped (record { words = mark ∷ length log ∷ []; homes = s.homes; views = s.views }) 0 (either (mark == 0) number mark) id [] w a)
      × Claimed journal made plays (step slots 0 0 number none) (v, []) mark (w, carried_after [] a)
  goes first seats slots id number v some_number mine_number free whole s mark log k at true is =
      let z : mark ≡ 0 = grind (arith, nat_tests) in
      let h = k.home z in
      let w : Known E D = with_mark v number log in
      let seat = k.views id v at in
      let mine : Fits (made first) seats number log w = record {
        same = seat.same;
        follows = follows_self v.numbers log;
        range = seat.range;
        holds = λ _. (refl, mine_number, refl);
        parts = λ n p e. absurd (at_none n p e);
      } in (
        w,
        takes 0 (Some h.0),
        ap (λ hs. get_elem? hs 0) h.1,
        (
          number,
          log,
          record {
            words = rw is refl;
            home = λ e. absurd (omega arith);
            legal = k.legal;
            views = each_set (Fits (made first) seats number log) s.views id w mine (λ j u other e. let old = k.views j u e in record {
              same = old.same;
              follows = old.follows;
              range = old.range;
              holds = λ n. absurd (n ((old.holds n).0 ∙ z));
              parts = old.parts;
            });
            apart = apart_set s.views id v w at (λ n e. e) k.apart;
            held = λ _. (id, w, set_hit s.views id v w at, refl);
          },
        ),
        rw is (refl, seat.follows.0, sym seat.follows.1, λ d e. let q = seat.same d e in subst (λ x. Legal plays x v.seats log) (sym q.0) (subst (λ n. Legal plays (made first) n log) (sym q.1) k.legal), (h.0, refl, h.2.0, λ d e. h.2.1 ∙ sym (seat.same d e).0)),
      )
  goes first seats slots id number v some_number mine_number free whole s mark log k at false is = (
    v,
    keeps,
    tt,
    (
      mark,
      log,
      record {
        words = rw is refl;
        home = k.home;
        legal = k.legal;
        views = λ i u e. k.views i u (subst (λ vs. get_elem? vs i ≡ some u) (set_again s.views id v at) e);
        apart = λ i j n u w e f. k.apart i j n u w (subst (λ vs. get_elem? vs i ≡ some u) (set_again s.views id v at) e) (subst (λ vs. get_elem? vs j ≡ some w) (set_again s.views id v at) f);
        held = λ n. let h = k.held n in (h.0, h.1, subst (λ vs. get_elem? vs h.0 ≡ some h.1) (sym (set_again s.views id v at)) h.2, h.3);
      },
    ),
    rw is (refl, not_marked (made first) seats mark log s k id v at free (grind (arith, nat_tests)), λ d e. subst (λ n. mark ≤ n) (sym ((k.views id v at).same d e).1) (marked_small (made first) seats mark log s k (grind (arith, nat_tests)))),
  )

  pub claims : (first : M) (seats slots id number : ℕ) (me : Me (Option M) (Known E D)) → me.1 ≡ [] → 0 < number → has me.0.numbers number ≡ true → me.0.mark ≡ 0 → me.0.parts ≡ []
      → Allows (Kept journal made plays first seats) slots id me 0 (λ n. either (n == 0) number n) (Claimed journal made plays (step slots 0 0 number none) me)
  claims first seats slots id number me none_held some_number mine free whole =
      let P : List (ℕ × Option M) → Type 0 = λ c. Allows (Kept journal made plays first seats) slots id (me.0, c) 0 (λ n. either (n == 0) number n) (Claimed journal made plays (step slots 0 0 number none) (me.0, c)) in
      subst P (sym none_held) (λ s kept len at small.
      let k = kept.2 in
      let Q : List ℕ → Type 0 = λ ws. (w : Known E D) × (a : Act (Option M)) × Valid s.homes [] a
      × Kept journal made plays first seats (stepped (record { words = ws; homes = s.homes; views = s.views }) 0 (either (slice_index ws 0 == 0) number (slice_index ws 0)) id [] w a)
      × Claimed journal made plays (step slots 0 0 number none) (me.0, []) (slice_index ws 0) (w, carried_after [] a) in
      subst Q (sym k.words) (goes first seats slots id number me.0 some_number mine free whole s kept.0 kept.1 k at (kept.0 == 0) refl))

  goes_on : (first : M) (seats slots id : ℕ) (v : Known E D) (m : M) (call : C) (answer : A) (e : E) → v.mark ≢ 0 → v.made ≡ Some (made first) → v.parts ≡ [] → journal m ≡ entries v.seen ++ e ∷ [] → plays (made first) (entries v.seen) call answer (Some e) → length (journal m) < 2 ^ 64
      → (s : State (Option M) (Known E D)) (mark : ℕ) (log : List (ℕ × E)) → Keeps journal made plays (made first) seats mark log s → get_elem? s.views id ≡ some v
      → (w : Known E D) × (a : Act (Option M)) × Valid s.homes ((0, Some m) ∷ []) a
      × Kept journal made plays first seats (stepped (record { words = mark ∷ length log ∷ []; homes = s.homes; views = s.views }) 1 ((length log + 1) % 2 ^ 64) id ((0, Some m) ∷ []) w a)
      × Recorded journal made plays (step slots 1 1 0 none) (v, (0, Some m) ∷ []) (length log) (w, carried_after ((0, Some m) ∷ []) a)
  goes_on first seats slots id v m call answer e taken is_made whole new played few s mark log k at =
      let seat = k.views id v at in
      let hold = seat.holds taken in
      let all : v.seen ≡ log = hold.2 in
      let x : ℕ × E = (v.mark, e) in
      let log' : List (ℕ × E) = log ++ x ∷ [] in
      let w : Known E D = with_mark v v.mark log' in
      let number : has v.numbers v.mark ≡ true = ap (has v.numbers) hold.0 ∙ hold.1 in
      let range = seat.range v.mark number in
      let legal : Legal plays (made first) seats log' = legal_more plays (made first) seats [] log x k.legal ((call, answer, subst (λ l. plays (made first) (entries l) call answer (Some e)) all played), range.0, range.1) in
      let mine : Fits (made first) seats mark log' w = record {
        same = seat.same;
        follows = follows_self v.numbers log';
        range = seat.range;
        holds = λ _. (hold.0, hold.1, refl);
        parts = λ n p f. absurd (at_none n p f);
      } in
      let count : length (journal m) ≡ length log + 1 = ap length new ∙ length-append (entries v.seen) (e ∷ []) ∙ ap (λ l. length (entries l) + 1) all ∙ ap (λ n. n + 1) (same_length log) in
      let longer : length log' ≡ length log + 1 = length-append log (x ∷ []) in (
        w,
        keeps,
        tt,
        (
          mark,
          log',
          record {
            words = ap (λ n. mark ∷ n ∷ []) (mod_small (length log) (length (journal m)) count few ∙ count ∙ sym longer);
            home = λ z. absurd (taken (hold.0 ∙ z));
            legal = legal;
            views = each_set (Fits (made first) seats mark log') s.views id w mine (λ j u other f. let old = k.views j u f in record {
              same = old.same;
              follows = follows_more u.numbers u.seen log x (not_true (has u.numbers v.mark) (λ h. other (k.apart j id v.mark u v f at h number))) old.follows;
              range = old.range;
              holds = λ n. absurd (other (k.apart j id mark u v f at (old.holds n).1 hold.1));
              parts = old.parts;
            });
            apart = apart_set s.views id v w at (λ n h. h) k.apart;
            held = λ _. (id, w, set_hit s.views id v w at, hold.0);
          },
        ),
        (
          refl,
          refl,
          (λ d f. let q = seat.same d f in subst (λ y. Legal plays y v.seats log') (sym q.0) (subst (λ n. Legal plays (made first) n log') (sym q.1) legal)),
          λ n rest f is is'. let same : m ≡ n = first_same m n [] rest is in
              let one : e ∷ [] ≡ f ∷ [] = append_cancel_left (entries v.seen) (e ∷ []) (f ∷ []) (sym new ∙ ap journal same ∙ is') in
              let back : log ≡ v.seen = sym all in λ i. back i ++ (v.mark, head_same e f [] [] one i) ∷ [],
        ),
      )

  pub records : (first : M) (seats slots id : ℕ) (me : Me (Option M) (Known E D)) (m : M) (call : C) (answer : A) (e : E) → me.1 ≡ (0, Some m) ∷ [] → me.0.mark ≢ 0 → me.0.made ≡ Some (made first) → me.0.parts ≡ []
      → journal m ≡ entries me.0.seen ++ e ∷ [] → plays (made first) (entries me.0.seen) call answer (Some e) → length (journal m) < 2 ^ 64
      → Allows (Kept journal made plays first seats) slots id me 1 (λ n. (n + 1) % 2 ^ 64) (Recorded journal made plays (step slots 1 1 0 none) me)
  records first seats slots id me m call answer e held taken is_made whole new played few =
      let P : List (ℕ × Option M) → Type 0 = λ c. Allows (Kept journal made plays first seats) slots id (me.0, c) 1 (λ n. (n + 1) % 2 ^ 64) (Recorded journal made plays (step slots 1 1 0 none) (me.0, c)) in
      subst P (sym held) (λ s kept len at small.
      let k = kept.2 in
      let Q : List ℕ → Type 0 = λ ws. (w : Known E D) × (a : Act (Option M)) × Valid s.homes ((0, Some m) ∷ []) a
      × Kept journal made plays first seats (stepped (record { words = ws; homes = s.homes; views = s.views }) 1 ((slice_index ws 1 + 1) % 2 ^ 64) id ((0, Some m) ∷ []) w a)
      × Recorded journal made plays (step slots 1 1 0 none) (me.0, (0, Some m) ∷ []) (slice_index ws 1) (w, carried_after ((0, Some m) ∷ []) a) in
      subst Q (sym k.words) (goes_on first seats slots id me.0 m call answer e taken is_made whole new played few s kept.0 kept.1 k at))

  -- a step that leaves all as it was but the view's mark and parts
  stays : (d : D) (seats mark : ℕ) (log : List (ℕ × E)) (s : State (Option M) (Known E D)) → Keeps journal made plays d seats mark log s
      → (id : ℕ) (v : Known E D) → get_elem? s.views id ≡ some v → (ws : List ℕ) → ws ≡ s.words
      → Keeps journal made plays d seats mark log record { words = ws; homes = s.homes; views = slice_set s.views id (with_mark v v.mark v.seen) }
  stays d seats mark log s k id v at ws is =
      let w : Known E D = with_mark v v.mark v.seen in
      let seat = k.views id v at in
      let mine : Fits d seats mark log w = record { same = seat.same; follows = seat.follows; range = seat.range; holds = seat.holds; parts = λ n p f. absurd (at_none n p f) } in
      record {
        words = is ∙ k.words;
        home = k.home;
        legal = k.legal;
        views = each_set (Fits d seats mark log) s.views id w mine (λ j u other e. k.views j u e);
        apart = apart_set s.views id v w at (λ n e. e) k.apart;
        held = λ n. let h = k.held n in
            dite (ℕ_discrete h.0 id) (λ is. (id, w, set_hit s.views id v w at, ap (λ (y : Known E D). y.mark) (sym (same_at s.views h.0 id h.1 v h.2 at is)) ∙ h.3))
            (λ other. (h.0, h.1, set_else s.views id h.0 w other ∙ h.2, h.3));
      }

  pub looks : (first : M) (seats slots id : ℕ) (me : Me (Option M) (Known E D)) → me.0.mark ≢ 0
      → Allows (Kept journal made plays first seats) slots id me 1 (λ n. n) (Looked journal made plays (step slots 1 0 0 none) me)
  looks first seats slots id me taken s kept len at small =
      let k = kept.2 in
      let v = me.0 in
      let hold = (k.views id v at).holds taken in
      let same = set_again s.views id v at in (
        v,
        keeps,
        tt,
        (
          kept.0,
          kept.1,
          record {
            words = ap (λ ws. slice_set ws 1 (slice_index ws 1)) k.words;
            home = k.home;
            legal = k.legal;
            views = λ i u e. k.views i u (subst (λ vs. get_elem? vs i ≡ some u) same e);
            apart = λ i j n u w e f. k.apart i j n u w (subst (λ vs. get_elem? vs i ≡ some u) same e) (subst (λ vs. get_elem? vs j ≡ some w) same f);
            held = λ n. let h = k.held n in (h.0, h.1, subst (λ vs. get_elem? vs h.0 ≡ some h.1) (sym same) h.2, h.3);
          },
        ),
        (refl, ap (λ ws. slice_index ws 1) k.words ∙ ap length (sym hold.2)),
      )

  pub learns : (first : M) (seats slots id : ℕ) (me : Me (Option M) (Known E D))
      → Allows (Kept journal made plays first seats) slots id me 0 (λ n. n) (Learned journal made plays (step slots 0 0 0 none) me)
  learns first seats slots id me s kept len at small =
      let k = kept.2 in
      let v = me.0 in
      (with_mark v v.mark v.seen, keeps, tt, (kept.0, kept.1, stays (made first) seats kept.0 kept.1 s k id v at (slice_set s.words 0 (slice_index s.words 0)) (ap (λ ws. slice_set ws 0 (slice_index ws 0)) k.words ∙ sym k.words)), (refl, refl, (k.views id v at).parts))

  pub releases : (first : M) (seats slots id : ℕ) (me : Me (Option M) (Known E D)) (m : M) → slots ≡ 1 → me.1 ≡ (0, Some m) ∷ [] → me.0.mark ≢ 0 → journal m ≡ entries me.0.seen → made m ≡ made first
      → Allows (Kept journal made plays first seats) slots id me 0 (λ _. 0) (λ _. Released journal made plays (step slots 0 0 0 none) me 0)
  releases first seats slots id me m one_slot held taken whole same =
      let v : Known E D = me.0 in
      let P : List (ℕ × Option M) → Type 0 = λ c. Allows (Kept journal made plays first seats) slots id (v, c) 0 (λ _. 0) (λ _. Released journal made plays (step slots 0 0 0 none) (v, c) 0) in
      subst P (sym held) (λ s kept len at small.
      let k = kept.2 in
      let log = kept.1 in
      let seat = k.views id v at in
      let hold = seat.holds taken in
      let w : Known E D = with_mark v 0 v.seen in
      let mine : Fits (made first) seats 0 log w = record { same = seat.same; follows = seat.follows; range = seat.range; holds = λ n. absurd (n refl); parts = λ n p f. absurd (at_none n p f) } in (
        w,
        gives,
        tt,
        (
          0,
          log,
          record {
            words = ap (λ ws. slice_set ws 0 0) k.words;
            home = λ _. (m, set_only s.homes (some (Some m)) (len ∙ one_slot), (whole ∙ ap entries hold.2, same));
            legal = k.legal;
            views = each_set (Fits (made first) seats 0 log) s.views id w mine (λ j u other e. let old = k.views j u e in record {
              same = old.same;
              follows = old.follows;
              range = old.range;
              holds = λ n. absurd (other (k.apart j id kept.0 u v e at (old.holds n).1 hold.1));
              parts = old.parts;
            });
            apart = apart_set s.views id v w at (λ n e. e) k.apart;
            held = λ n. absurd (n refl);
          },
        ),
        refl,
      ))

  pub splits : (first : M) (seats id : ℕ) (v : Known E D) (n : ℕ) → has v.numbers n ≡ true → length v.numbers ≡ 256 → v.mark ≡ 0 → v.parts ≡ []
      → Splits (Kept journal made plays first seats) id v (left v) (right v)
  splits first seats id v n some_number long free whole s kept at =
      let k = kept.2 in
      let d = made first in
      let mark = kept.0 in
      let log = kept.1 in
      let g : ℕ = greatest v.numbers in
      let top : has v.numbers g ≡ true = has_greatest v.numbers n some_number in
      let within : g < 256 = subst (λ l. g < l) long (has_within v.numbers g top) in
      let seat = k.views id v at in
      let fewer : (i : ℕ) → has (without g v.numbers) i ≡ true → has v.numbers i ≡ true = λ i h. dite (ℕ_discrete i g) (λ e. ap (has v.numbers) e ∙ top) (λ ne. sym (has_set v.numbers g i false ne) ∙ h) in
      let out : has (without g v.numbers) g ≡ false = has_here v.numbers g false (has_within v.numbers g top) in
      let single : (i : ℕ) → has (only g) i ≡ true → i ≡ g = λ i h. dite (ℕ_discrete i g) (λ e. e) (λ ne. absurd (true≢false (sym h ∙ has_set (replicate_false) g i true ne ∙ has_none 256 i))) in
      let lower : (i : ℕ) → has (only g) i ≡ true → has v.numbers i ≡ true = λ i h. ap (has v.numbers) (single i h) ∙ top in
      let l : Known E D = left v in
      let r : Known E D = right v in
      let vs : List (Known E D) = slice_set s.views id l in
      let part : (ns : List Bool) → ((i : ℕ) → has ns i ≡ true → has v.numbers i ≡ true) → Fits d seats mark log record { made = v.made; seats = v.seats; numbers = ns; mark = 0; seen = v.seen; parts = [] } =
      λ ns sub. record {
        same = seat.same;
        follows = follows_fewer ns v.numbers v.seen log sub seat.follows;
        range = λ i h. seat.range i (sub i h);
        holds = λ z. absurd (z refl);
        parts = λ i p f. absurd (at_none i p f);
      } in
      let olds = each_set (Fits d seats mark log) s.views id l (part l.numbers fewer) (λ j u other e. k.views j u e) in
      let news : Fits d seats mark log r = part r.numbers lower in
      let alone : (i j : ℕ) (u : Known E D) → get_elem? vs i ≡ some u → has u.numbers j ≡ true → has (only g) j ≡ true → ⊥ =
      λ i j u e h f. let is = single j f in ⊎_elim
      (λ p. true≢false (sym h ∙ ap (λ (y : Known E D). has y.numbers j) (sym p.1) ∙ ap (has (without g v.numbers)) is ∙ out))
      (λ q. q.0 (k.apart i id j u v q.1 at h (ap (has v.numbers) is ∙ top)))
      (at_set s.views id i l u e) in (
        mark,
        log,
        record {
          words = k.words;
          home = k.home;
          legal = k.legal;
          views = λ i u e. ⊎_elim (λ q. olds i u q) (λ q. subst (Fits d seats mark log) q.1 news) (at_end vs r u i e);
          apart = λ i j c u w e f h hh. ⊎_elim
              (λ p. ⊎_elim (λ q. apart_set s.views id v l at fewer k.apart i j c u w p q h hh) (λ q. absurd (alone i c u p h (ap (λ (y : Known E D). has y.numbers c) q.1 ∙ hh))) (at_end vs r w j f))
              (λ p. ⊎_elim (λ q. absurd (alone j c w q hh (ap (λ (y : Known E D). has y.numbers c) p.1 ∙ h))) (λ q. p.0 ∙ sym q.0) (at_end vs r w j f))
              (at_end vs r u i e);
          held = λ z. let h = k.held z in (h.0, h.1, at_longer vs (r ∷ []) h.0 h.1 (set_else s.views id h.0 l (λ is. z (sym h.3 ∙ ap (λ (y : Known E D). y.mark) (same_at s.views h.0 id h.1 v h.2 at is) ∙ free)) ∙ h.2), h.3);
        },
      )

  pub joins : (first : M) (seats id : ℕ) (v : Known E D) (other : ℕ) (w : Known E D) → length v.numbers ≡ length w.numbers → v.mark ≡ 0 → w.mark ≡ 0
      → Joins (Kept journal made plays first seats) id v other w (both v w) spent
  joins first seats id v other w long free free' s kept at two at' =
      let k = kept.2 in
      let d = made first in
      let mark = kept.0 in
      let log = kept.1 in
      let b : Known E D = both v w in
      let vs : List (Known E D) = slice_set s.views id b in
      let there : get_elem? s.views other ≡ some w = sym (set_else s.views id other b two) ∙ at' in
      let seat = k.views id v at in
      let theirs = k.views other w there in
      let ns : List Bool = united v.numbers w.numbers in
      let l = longer_follows v.numbers w.numbers v.seen w.seen log seat.follows theirs.follows in
      let whose : (c : ℕ) → has ns c ≡ true → (has v.numbers c ≡ true) ⊎ (has w.numbers c ≡ true) = λ c h. either_of (has v.numbers c) (has w.numbers c) (has_both v.numbers w.numbers c h) in
      let mine : Fits d seats mark log b = record {
        same = seat.same;
        follows = l.2;
        range = λ c h. ⊎_elim (λ x. seat.range c x) (λ x. theirs.range c x) (whose c h);
        holds = λ z. absurd (z refl);
        parts = λ i p e. at_two (IsPart ns (longer v.seen w.seen)) record { numbers = v.numbers; seen = v.seen } record { numbers = w.numbers; seen = w.seen }
            (l.0, λ c h. has_left v.numbers w.numbers c h) (l.1, λ c h. has_right v.numbers w.numbers c long h) i p e;
      } in
      let gone : Fits d seats mark log spent = record {
        same = λ x e. absurd (true≢false (ap is_there (sym e)));
        follows = ((log, refl), sym (of_none log));
        range = λ c h. absurd (true≢false (sym h));
        holds = λ z. absurd (z refl);
        parts = λ i p e. absurd (at_none i p e);
      } in
      let else_in : (i c : ℕ) (u : Known E D) → get_elem? s.views i ≡ some u → has u.numbers c ≡ true → i ≢ id → i ≢ other → has ns c ≡ true → ⊥ =
      λ i c u e h n m f. ⊎_elim (λ x. n (k.apart i id c u v e at h x)) (λ x. m (k.apart i other c u w e there h x)) (whose c f) in
      let hit : (i j c : ℕ) (u y : Known E D) → get_elem? vs i ≡ some u → get_elem? vs j ≡ some y → i ≢ other → j ≢ other → has u.numbers c ≡ true → has y.numbers c ≡ true → i ≡ j =
      λ i j c u y e f n m h g. ⊎_elim
      (λ p. ⊎_elim (λ q. p.0 ∙ sym q.0) (λ q. absurd (else_in j c y q.1 g q.0 m (ap (λ (z : Known E D). has z.numbers c) p.1 ∙ h))) (at_set s.views id j b y f))
      (λ p. ⊎_elim (λ q. absurd (else_in i c u p.1 h p.0 n (ap (λ (z : Known E D). has z.numbers c) q.1 ∙ g))) (λ q. k.apart i j c u y p.1 q.1 h g) (at_set s.views id j b y f))
      (at_set s.views id i b u e) in
      let empty : (c : ℕ) (u : Known E D) → spent ≡ u → has u.numbers c ≡ true → ⊥ = λ c u is h. true≢false (sym h ∙ ap (λ (z : Known E D). has z.numbers c) (sym is)) in (
        mark,
        log,
        record {
          words = k.words;
          home = k.home;
          legal = k.legal;
          views = each_set (Fits d seats mark log) vs other spent gone (λ j u n e. each_set (Fits d seats mark log) s.views id b mine (λ i x m f. k.views i x f) j u e);
          apart = λ i j c u y e f h g. ⊎_elim (λ p. absurd (empty c u p.1 h)) (λ p. ⊎_elim (λ q. absurd (empty c y q.1 g)) (λ q. hit i j c u y p.1 q.1 p.0 q.0 h g) (at_set vs other j spent y f)) (at_set vs other i spent u e);
          held = λ z. let h = k.held z in
              let n : h.0 ≢ id = λ is. z (sym h.3 ∙ ap (λ (y : Known E D). y.mark) (same_at s.views h.0 id h.1 v h.2 at is) ∙ free) in
              let m : h.0 ≢ other = λ is. z (sym h.3 ∙ ap (λ (y : Known E D). y.mark) (same_at s.views h.0 other h.1 w h.2 there is) ∙ free') in
              (h.0, h.1, set_else vs other h.0 spent m ∙ set_else s.views id h.0 b n ∙ h.2, h.3);
        },
      )

  -- the end, seen by a pass that has every number
  pub ends : (first : M) (seats id : ℕ) (v : Known E D) → HasAll seats v.numbers → v.made ≡ Some (made first) → v.mark ≡ 0
      → (ws : List ℕ) (xs : List (Option M)) → Final (Seen (Kept journal made plays first seats) id v) ws xs
      → (m : M) × (get_elem? xs 0 ≡ some (Some m)) × (journal m ≡ entries v.seen) × (made m ≡ made first) × (v.seen ≡ own v) × Legal plays (made first) seats v.seen
  ends first seats id v every is_made free ws xs f =
      let s = f.0 in
      let k = f.1.0.2 in
      let at = f.1.1 in
      let mark = f.1.0.0 in
      let log = f.1.0.1 in
      let seat = k.views id v at in
      let whole : of_numbers v.numbers log ≡ log = all_of plays (made first) seats v.numbers every [] log k.legal in
      let at_home : mark ≡ 0 = dite (ℕ_discrete mark 0) (λ z. z) (λ n.
      let h = k.held n in
      let theirs = k.views h.0 h.1 h.2 in
      let r = theirs.range mark (theirs.holds (λ z. n (sym h.3 ∙ z))).1 in
      absurd (true≢false (sym (every mark r.0 r.1) ∙ not_marked (made first) seats mark log s k id v at free n))) in
      let h = k.home at_home in
      let seen : v.seen ≡ log = seen_all v.numbers v.seen log seat.follows whole in
      (h.0, f.4 0 (Some h.0) (ap (λ hs. get_elem? hs 0) h.1), h.2.0 ∙ ap entries (sym seen), h.2.1, seen ∙ sym whole ∙ sym seat.follows.1, subst (Legal plays (made first) seats) (sym seen) k.legal)
