-- What a consumer took is what it took of each producer.
use Rattle.std.proofs.Common.{◌≡◌, ◌==◌, ℕ, ◌+◌, Bool, true, false, cond, List, [], ◌∷◌, ◌++◌, map, refl, sym, ap, subst, arith, inl, inr, sum_by}
use Rattle.std.proofs.lemmas.List.Sums.{sum_by-append, sum_by-cons}
use Rattle.std.proofs.lemmas.Bool.Decides.{nat_tests}
use Rattle.fab_rules.specs.Lists.{In}
use Rattle.turn_lock.specs.Histories.{of_numbers}
use Rattle.stage_link.specs.Producers.{of}
use Rattle.turn_laws.specs.Doings.{hearings}
use Rattle.turn_laws.proofs.Seats.{heard_all}
use Rattle.run_words.specs.Lawful.{Test, heard_once, heard_counted}
use Rattle.run_words.specs.declared.logs.Entry.{Entry}
use Rattle.turn_laws.specs.Takings.{IsNoneOf, AreDistinct, item_of, TakenLaw, Producer, number_of, all_queued, unheard_of, HeardEndLaw}

self_is : (n : ℕ) → (n == n) ≡ true
self_is n = grind (arith, nat_tests)

turned : (m n : ℕ) → (m == n) ≡ false → (n == m) ≡ false
turned m n h = grind (arith, nat_tests)

same_is : (m n : ℕ) → (m == n) ≡ true → m ≡ n
same_is m n h = grind (arith, nat_tests)

other_in : (m n : ℕ) (ns : List ℕ) → IsNoneOf m ns → In n ns → (m == n) ≡ false
other_in m n [] a h = absurd h
other_in m n (x ∷ ns) a (inl e) = subst (λ k. (m == k) ≡ false) e a.0
other_in m n (x ∷ ns) a (inr h) = other_in m n ns a.1 h

same_sum : (f g : ℕ → ℕ) (ns : List ℕ) → ((n : ℕ) → In n ns → g n ≡ f n) → sum_by g ns ≡ sum_by f ns
same_sum f g [] h = refl
same_sum f g (x ∷ rest) h =
    let a = sum_by-cons f x rest in
    let b = sum_by-cons g x rest in
    let r = same_sum f g rest (λ n i. h n (inr i)) in
    let here = h x (inl refl) in
    omega arith

one_more : (f g : ℕ → ℕ) (m d : ℕ) (ns : List ℕ) → AreDistinct ns → In m ns → g m ≡ f m + d → ((n : ℕ) → (m == n) ≡ false → g n ≡ f n)
    → sum_by g ns ≡ sum_by f ns + d
one_more f g m d [] a h e k = absurd h
one_more f g m d (x ∷ rest) a (inl q) e k =
    let here : g x ≡ f x + d = subst (λ y. g y ≡ f y + d) (sym q) e in
    let r = same_sum f g rest (λ n i. k n (subst (λ y. (y == n) ≡ false) q (other_in x n rest a.0 i))) in
    let u = sum_by-cons f x rest in
    let v = sum_by-cons g x rest in
    omega arith
one_more f g m d (x ∷ rest) a (inr h) e k =
    let r = one_more f g m d rest a.1 h e k in
    let here = k x (turned x m (other_in x m rest a.0 h)) in
    let u = sum_by-cons f x rest in
    let v = sum_by-cons g x rest in
    omega arith

no_sum : (f : ℕ → ℕ) (ns : List ℕ) → ((n : ℕ) → f n ≡ 0) → sum_by f ns ≡ 0
no_sum f [] h = refl
no_sum f (x ∷ rest) h = let a = sum_by-cons f x rest in let b = no_sum f rest h in let c = h x in omega arith

of_first : {T : Type 0} (f : T → ℕ) (n : ℕ) (x : ℕ × T) (rest : List (ℕ × T)) (b : Bool) → (x.0 == n) ≡ b
    → sum_by f (of n (x ∷ rest)) ≡ sum_by f (cond b (x.1 ∷ of n rest) (of n rest))
of_first f n x rest b e = ap (λ c. sum_by f (cond c (x.1 ∷ of n rest) (of n rest))) e

pub taken : TakenLaw
taken f producers [] a h = no_sum (λ n. sum_by f (of n [])) producers (λ n. refl)
taken f producers (x ∷ rest) a h =
    let later = taken f producers rest a (λ y i. h y (inr i)) in
    let first = sum_by-cons f x.1 (map item_of rest) in
    let grown = of_first f x.0 x rest true (self_is x.0) in
    let here = sum_by-cons f x.1 (of x.0 rest) in
    let mine : sum_by f (of x.0 (x ∷ rest)) ≡ sum_by f (of x.0 rest) + f x.1 = omega (arith, grown, here) in
    let sum = one_more (λ n. sum_by f (of n rest)) (λ n. sum_by f (of n (x ∷ rest))) x.0 (f x.1) producers a (h x (inl refl)) mine
    (λ n d. of_first f n x rest false d) in
    omega (arith, later, first, sum)

-- ---- what was heard

counted_both : (p : Test) (a b : List Entry) → heard_counted p (a ++ b) ≡ heard_counted p a + heard_counted p b
counted_both p a b = sum_by-append (λ (e : Entry). heard_once p e) a b

put_sums : (p : Test) (all : List (ℕ × Entry)) (producers : List Producer) → ((j : Producer) → In j producers → of j.number all ++ j.queued ≡ j.put)
    → sum_by (λ (j : Producer). heard_counted p j.put) producers
    ≡ sum_by (λ n. heard_counted p (of n all)) (map number_of producers) + sum_by (λ (j : Producer). heard_counted p j.queued) producers
put_sums p all [] h = refl
put_sums p all (j ∷ rest) h =
    let later = put_sums p all rest (λ x i. h x (inr i)) in
    let a = sum_by-cons (λ (j : Producer). heard_counted p j.put) j rest in
    let b = sum_by-cons (λ n. heard_counted p (of n all)) j.number (map number_of rest) in
    let c = sum_by-cons (λ (j : Producer). heard_counted p j.queued) j rest in
    let here : heard_counted p j.put ≡ heard_counted p (of j.number all ++ j.queued) = ap (heard_counted p) (sym (h j (inl refl))) in
    let both = counted_both p (of j.number all) j.queued in
    omega (arith, later, a, b, c, here, both)

queued_sums : (p : Test) (producers : List Producer)
    → heard_counted p (all_queued producers) ≡ sum_by (λ (j : Producer). heard_counted p j.queued) producers
queued_sums p [] = refl
queued_sums p (j ∷ rest) =
    let later = queued_sums p rest in
    let a = sum_by-cons (λ (j : Producer). heard_counted p j.queued) j rest in
    let b = counted_both p j.queued (all_queued rest) in
    omega (arith, later, a, b)

unheard_sums : (p : Test) (in_order : List Entry) (producers : List Producer) (in_input : List Entry)
    → heard_counted p (unheard_of in_order producers in_input)
    ≡ heard_counted p in_order + (sum_by (λ (j : Producer). heard_counted p j.queued) producers + heard_counted p in_input)
unheard_sums p in_order producers in_input =
    let a = counted_both p in_order (all_queued producers ++ in_input) in
    let b = counted_both p (all_queued producers) in_input in
    let c = queued_sums p producers in
    omega (arith, a, b, c)

pub heard_end : HeardEndLaw
heard_end m order log all producers took in_order in_input by hears apart known starts puts p =
    let a = heard_all p order log by in
    let b : heard_counted p (hearings (of_numbers order log) ++ in_order) ≡ heard_counted p (map item_of all) = ap (heard_counted p) hears in
    let c = counted_both p (hearings (of_numbers order log)) in_order in
    let d = taken (λ (e : Entry). heard_once p e) (map number_of producers) all apart known in
    let e = put_sums p all producers starts in
    let f = puts p in
    let g = unheard_sums p in_order producers in_input in
    omega (arith, a, b, c, d, e, f, g)
