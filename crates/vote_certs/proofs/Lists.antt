-- The senders below a number, one more at a time.
use Rattle.std.proofs.Common.{◌≡◌, ℕ, zero, suc, refl, ◌+◌, ◌<◌, ◌≤◌, Bool, true, false, cond, List, [], ◌∷◌, ◌++◌, length, take, Option, sym, ap, ◌∙◌, arith, length-append}
use Rattle.std.specs.List.{filter, range_with_len}
use Rattle.std.proofs.lemmas.List.{append-nil, map-id, take_all, take-append-le, length-take}
use Rattle.std.proofs.lemmas.List.FromFn.{filter_of_map_range_with_len_more, length-range_with_len}
use Rattle.std.proofs.lemmas.List.Sums.{length-filter, count_by-le-length}
use Rattle.vote_certs.specs.Counting.{value_of, is_this, senders_below}

-- a filter of the numbers below n + 1
pub filter_more : (p : ℕ → Bool) (n : ℕ) → filter p (range_with_len 0 (n + 1)) ≡ filter p (range_with_len 0 n) ++ cond (p n) (n ∷ []) []
filter_more p n =
    let e = filter_of_map_range_with_len_more p (λ x. x) 0 n n (omega arith) in
    let whole = ap (filter p) (map-id (range_with_len 0 (n + 1))) in
    let part = ap (λ xs. filter p xs ++ cond (p n) (n ∷ []) []) (map-id (range_with_len 0 n)) in
    sym whole ∙ (e ∙ part)

pub below_more : {V : Type 0} (eq : V → V → Bool) (votes : List (Option V)) (value : V) (n : ℕ) → senders_below eq votes value (n + 1) ≡ senders_below eq votes value n ++ cond (is_this eq value (value_of votes n)) (n ∷ []) []
unfolding senders_below
below_more eq votes value n = filter_more (λ sender. is_this eq value (value_of votes sender)) n

pub below_holds : {V : Type 0} (eq : V → V → Bool) (votes : List (Option V)) (value : V) (n : ℕ) → is_this eq value (value_of votes n) ≡ true → senders_below eq votes value (n + 1) ≡ senders_below eq votes value n ++ n ∷ []
below_holds eq votes value n h = below_more eq votes value n ∙ ap (λ b. senders_below eq votes value n ++ cond b (n ∷ []) []) h

pub below_fails : {V : Type 0} (eq : V → V → Bool) (votes : List (Option V)) (value : V) (n : ℕ) → is_this eq value (value_of votes n) ≡ false → senders_below eq votes value (n + 1) ≡ senders_below eq votes value n
below_fails eq votes value n h = below_more eq votes value n ∙ (ap (λ b. senders_below eq votes value n ++ cond b (n ∷ []) []) h ∙ append-nil (senders_below eq votes value n))

pub length_below : {V : Type 0} (eq : V → V → Bool) (votes : List (Option V)) (value : V) (n : ℕ) → length (senders_below eq votes value n) ≤ n
unfolding senders_below
length_below eq votes value n =
    let p = λ (sender : ℕ). is_this eq value (value_of votes sender) in
    omega (arith, length-filter p (range_with_len 0 n), count_by-le-length p (range_with_len 0 n), length-range_with_len 0 n)

pub front_none : (need : ℕ) → take need (let none : List ℕ = [] in none) ≡ []
front_none zero = refl
front_none (suc need) = refl

-- the front of a list that grows at the end
pub front_more : (need n : ℕ) (xs ys : List ℕ) → ys ≡ take need xs → length ys < need → ys ++ n ∷ [] ≡ take need (xs ++ n ∷ [])
front_more need n xs ys e short =
    let few : length xs < need = omega (arith, ap length e, length-take need xs) in
    let whole = take_all need xs (omega arith) in
    let more = take_all need (xs ++ n ∷ []) (omega (arith, length-append xs (n ∷ []))) in
    ap (λ l. l ++ n ∷ []) (e ∙ whole) ∙ sym more

pub front_full : (need : ℕ) (xs ys more : List ℕ) → ys ≡ take need xs → need ≤ length ys → ys ≡ take need (xs ++ more)
front_full need xs ys more e full = e ∙ sym (take-append-le need xs more (omega (arith, ap length e, length-take need xs)))

pub front_short : (need n : ℕ) (xs ys : List ℕ) → ys ≡ take need xs → length xs ≤ n → length ys ≤ n
front_short need n xs ys e short = omega (arith, ap length e, length-take need xs)
