-- What a whole call tells.
use Rattle.std.proofs.Common.{arith, ◌≡◌, ◌≢◌, ℕ, ◌<◌, ⊎_elim, Bool, true, false, List, [], ◌∷◌, ◌++◌, length, length-append, Option, Some, None, sym, refl, ap, ◌∙◌, subst}
use Rattle.turn_lock.specs.Numbers.{has, least, greatest, without, only, united}
use Rattle.turn_lock.proofs.SeatRows.{has_least, has_set, has_within, has_greatest, has_both, has_left, without_fewer, only_one, has_only, either_of}
use Rattle.turn_lock.specs.Histories.{IsStartOf, entries, of_numbers, with_entry, longer, Legal}
use Rattle.turn_lock.specs.Views.{own, with_mark, left, right, both, Knows, Acted, IsWhole}
use Rattle.turn_lock.specs.declared.known.Known.{Known}
use Rattle.turn_lock.proofs.Histories.{of_mine, all_of, longer_case}

pub grown : {E : Type 0} (old new : List E) (e : Option E) → new ≡ with_entry old e → ¬ (length new ≡ length old) → (x : E) × (e ≡ Some x) × (new ≡ old ++ x ∷ [])
grown old new None h ne = absurd (ne (ap length h))
grown old new (Some x) h ne = (x, refl, h)

pub not_grown : {E : Type 0} (old new : List E) (e : Option E) → new ≡ with_entry old e → length new ≡ length old → (e ≡ None) × (new ≡ old)
not_grown old new None h ne = (refl, h)
not_grown old new (Some x) h ne = absurd (let l = ap length h ∙ length-append old (x ∷ []) in omega arith)

module _ {E D C A : Type 0} (plays : D → List E → C → A → Option E → Type 0) where
  pub number_of : (d : D) (seats : ℕ) (ns : List Bool) (v : Known E D) → Knows plays d seats ns v → (0 < least ns) × (has v.numbers (least ns) ≡ true)
  number_of d seats ns v k = let h = has_least ns k.some_number.0 k.some_number.1 in ((k.range (least ns) h).0, ap (λ l. has l (least ns)) k.numbers_are ∙ h)

  pub whole : (d : D) (seats : ℕ) (ns : List Bool) (v : Known E D) → Knows plays d seats ns v → IsWhole seats v
  whole d seats ns v k every = sym (all_of plays d seats v.numbers every [] v.seen k.legal)

  knows_on : (d : D) (seats : ℕ) (ns : List Bool) (v : Known E D) (log : List (ℕ × E)) → Knows plays d seats ns v → Legal plays d seats log → Knows plays d seats ns (with_mark v 0 log)
  knows_on d seats ns v log k l = record { made = k.made; seats_are = k.seats_are; numbers_are = k.numbers_are; free = refl; no_parts = refl; legal = l; range = k.range; some_number = k.some_number }

  pub knows_again : (d : D) (seats n : ℕ) (ns : List Bool) (v u w : Known E D) → Knows plays d seats ns v → u ≡ with_mark v n u.seen → w ≡ with_mark u 0 w.seen → Legal plays d v.seats w.seen → Knows plays d seats ns w
  knows_again d seats n ns v u w k e f l =
      let is : w ≡ with_mark v 0 w.seen = f ∙ ap (λ (x : Known E D). with_mark x 0 w.seen) e in
      subst (Knows plays d seats ns) (sym is) (knows_on d seats ns v w.seen k (subst (λ s. Legal plays d s w.seen) k.seats_are l))

  numbers_again : (n : ℕ) (v u w : Known E D) → u ≡ with_mark v n u.seen → w ≡ with_mark u 0 w.seen → w.numbers ≡ v.numbers
  numbers_again n v u w e f = ap (λ (x : Known E D). x.numbers) f ∙ ap (λ (x : Known E D). x.numbers) e

  -- u is the view while the machine is out, and w the one after
  pub acted_plain : (d : D) (n : ℕ) (v u w : Known E D) (call : C) (answer : A) → u ≡ with_mark v n u.seen → w ≡ with_mark u 0 u.seen → IsStartOf v.seen u.seen → own u ≡ own v → plays d (entries u.seen) call answer None
      → Acted plays d v call answer w
  acted_plain d n v u w call answer e f start mine played =
      let seen : w.seen ≡ u.seen = ap (λ (x : Known E D). x.seen) f in
      (u.seen, None, start, played, seen, ap own f ∙ mine)

  pub acted_grown : (d : D) (n : ℕ) (v u w : Known E D) (call : C) (answer : A) (x : E) → u ≡ with_mark v n u.seen → w ≡ with_mark u 0 w.seen → IsStartOf v.seen u.seen → own u ≡ own v → has v.numbers n ≡ true → n ≡ least v.numbers
      → plays d (entries u.seen) call answer (Some x) → w.seen ≡ u.seen ++ (n, x) ∷ [] → Acted plays d v call answer w
  acted_grown d n v u w call answer x e f start mine number least_one played seen =
      let numbers : u.numbers ≡ v.numbers = ap (λ (y : Known E D). y.numbers) e in
      let w_own : own w ≡ of_numbers u.numbers w.seen = ap (λ (y : Known E D). of_numbers y.numbers w.seen) f in
      let grown_own : own w ≡ own v ++ (n, x) ∷ [] = w_own ∙ ap (of_numbers u.numbers) seen ∙ of_mine u.numbers u.seen (n, x) (ap (λ l. has l n) numbers ∙ number) ∙ ap (λ l. l ++ (n, x) ∷ []) mine in
      (u.seen, Some x, start, played, seen ∙ ap (λ k. u.seen ++ (k, x) ∷ []) least_one, grown_own ∙ ap (λ k. own v ++ (k, x) ∷ []) least_one)

  pub played_by : {d f : D} {xs ys : List E} {e g : Option E} (call : C) (answer : A) → d ≡ f → xs ≡ ys → e ≡ g → plays d xs call answer e → plays f ys call answer g
  played_by call answer p q r h = subst (λ (x : D × List E × Option E). plays x.0 x.1 call answer x.2) (λ i. (p i, q i, r i)) h

module _ {E D C A : Type 0} (plays : D → List E → C → A → Option E → Type 0) (d : D) (seats : ℕ) where
  pub knows_left : (ns : List Bool) (v : Known E D) (n : ℕ) → Knows plays d seats ns v → length ns ≡ 256 → n ≢ greatest ns → has ns n ≡ true → Knows plays d seats (without (greatest ns) ns) (left v)
  knows_left ns v n k long other h = record {
    made = k.made;
    seats_are = k.seats_are;
    numbers_are = ap (λ l. without (greatest l) l) k.numbers_are;
    free = refl;
    no_parts = refl;
    legal = k.legal;
    range = λ i e. k.range i (without_fewer ns i e);
    some_number = (n, has_set ns (greatest ns) n false other ∙ h);
  }

  pub knows_right : (ns : List Bool) (v : Known E D) → Knows plays d seats ns v → length ns ≡ 256 → Knows plays d seats (only (greatest ns)) (right v)
  knows_right ns v k long =
      let n = k.some_number in
      let top = has_greatest ns n.0 n.1 in
      record {
        made = k.made;
        seats_are = k.seats_are;
        numbers_are = ap (λ l. only (greatest l)) k.numbers_are;
        free = refl;
        no_parts = refl;
        legal = k.legal;
        range = λ i e. k.range i (ap (has ns) (only_one (greatest ns) i e) ∙ top);
        some_number = (greatest ns, has_only (greatest ns) (subst (λ l. greatest ns < l) long (has_within ns (greatest ns) top)));
      }

  pub knows_both : (ns ms : List Bool) (v w : Known E D) → Knows plays d seats ns v → Knows plays d seats ms w → length ns ≡ length ms → Knows plays d seats (united ns ms) (with_mark (both v w) 0 (longer v.seen w.seen))
  knows_both ns ms v w k l long = record {
    made = k.made;
    seats_are = k.seats_are;
    numbers_are = (λ i. united (k.numbers_are i) (l.numbers_are i));
    free = refl;
    no_parts = refl;
    legal = longer_case v.seen w.seen (Legal plays d seats) (λ _. k.legal) (λ _. l.legal);
    range = λ i e. ⊎_elim (λ x. k.range i x) (λ x. l.range i x) (either_of (has ns i) (has ms i) (has_both ns ms i e));
    some_number = (k.some_number.0, has_left ns ms k.some_number.0 k.some_number.1);
  }
