-- Sums over clients, and stamps that go on.
use Rattle.std.proofs.Common.{◌≡◌, ℕ, zero, suc, ◌+◌, ◌<◌, ◌≤◌, Bool, true, false, cond, nat_eq, List, [], ◌∷◌, filter, length, inl, inr, refl, ap, arith}
use Rattle.std.proofs.lemmas.Bool.{cases_lt}
use Rattle.std.proofs.lemmas.Bool.Decides.{nat_tests}
use Rattle.std.proofs.lemmas.List.{length-map}
use Rattle.fab_base.specs.declared.requests.Request.{Request}
use Rattle.fab_rules.specs.Lists.{In}
use Rattle.fab_machine.specs.Proposing.{stamps_of}
use Rattle.fault_script.specs.declared.scripts.Wish.{Wish}
use Rattle.fault_script.specs.Scripts.{count_of}
use Rattle.heed_laws.specs.Fronts.{GoOn}

-- ---- a sum of numbers below one

abbrev total : (ℕ → ℕ) → ℕ → ℕ
total f zero = 0
total f (suc n) = total f n + f n

total_upto : (f g : ℕ → ℕ) (n : ℕ) → ((k : ℕ) → k < n → f k ≤ g k) → total f n ≤ total g n
total_upto f g zero h = omega arith
total_upto f g (suc n) h = let rest = total_upto f g n (λ k l. h k (omega (arith, l))) in let here = h n (omega arith) in omega (arith, rest, here)

total_same : (f g : ℕ → ℕ) (n : ℕ) → ((k : ℕ) → k < n → f k ≡ g k) → total f n ≡ total g n
total_same f g n h =
    omega (arith, total_upto f g n (λ k l. let e = h k l in omega (arith, e)), total_upto g f n (λ k l. let e = h k l in omega (arith, e)))

total_both : (f g : ℕ → ℕ) (n : ℕ) → total (λ k. f k + g k) n ≡ total f n + total g n
total_both f g zero = omega arith
total_both f g (suc n) = let rest = total_both f g n in omega (arith, rest)

total_none : (n : ℕ) → total (λ k. 0) n ≡ 0
total_none zero = refl
total_none (suc n) = let rest = total_none n in omega (arith, rest)

abbrev one_at : ℕ → ℕ → ℕ
one_at a k = cond (nat_eq a k) 1 0

one_here : (a k : ℕ) → a ≡ k → one_at a k ≡ 1
one_here a k e = ap (λ b. cond b 1 0) (let t : nat_eq a k ≡ true = grind (arith, nat_tests) in t)

one_else : (a k : ℕ) → (a ≡ k → ⊥) → one_at a k ≡ 0
one_else a k h = go (nat_eq a k) refl
  where
    go : (b : Bool) → nat_eq a k ≡ b → (let it : ℕ = cond b 1 0 in it ≡ 0)
    go true e = absurd (h (let t : a ≡ k = grind (arith, nat_tests) in t))
    go false e = refl

total_above : (a n : ℕ) → n ≤ a → total (one_at a) n ≡ 0
total_above a zero h = refl
total_above a (suc n) h = let rest = total_above a n (omega (arith, h)) in let here = one_else a n (λ e. omega (arith, e, h)) in omega (arith, rest, here)

total_one : (a n : ℕ) → a < n → total (one_at a) n ≡ 1
total_one a zero h = absurd (omega (arith, h))
total_one a (suc n) h = elim (cases_lt a n) [
  | inl lower ↦ (let rest = total_one a n lower in omega (arith, rest, one_else a n (λ is. omega (arith, is, lower))))
  | inr over ↦ (let is : a ≡ n = omega (arith, h, over) in omega (arith, total_above a n over, one_here a n is))
]

-- ---- how many have each key

abbrev with_key : {X : Type 0} → (X → ℕ) → ℕ → List X → ℕ
with_key key k xs = length (filter (λ x. nat_eq (key x) k) xs)

key_more : {X : Type 0} (key : X → ℕ) (k : ℕ) (x : X) (xs : List X) → with_key key k (x ∷ xs) ≡ one_at (key x) k + with_key key k xs
key_more key k x xs = go (nat_eq (key x) k)
  where
    go : (b : Bool) → length (cond b (x ∷ filter (λ y. nat_eq (key y) k) xs) (filter (λ y. nat_eq (key y) k) xs)) ≡ cond b 1 0 + with_key key k xs
    go true = omega arith
    go false = omega arith

-- each item has one key
by_keys : {X : Type 0} (key : X → ℕ) (n : ℕ) (xs : List X) → ((x : X) → In x xs → key x < n) → total (λ k. with_key key k xs) n ≡ length xs
by_keys key n [] h = total_none n
by_keys key n (x ∷ xs) h =
    let rest = by_keys key n xs (λ y i. h y (inr i)) in
    let each = total_same (λ k. with_key key k (x ∷ xs)) (λ k. one_at (key x) k + with_key key k xs) n (λ k l. key_more key k x xs) in
    let both = total_both (one_at (key x)) (λ k. with_key key k xs) n in
    omega (arith, rest, each, both, total_one (key x) n (h x (inl refl)))

-- ---- by clients

stamps_length : (client : ℕ) (requests : List Request) → length (stamps_of client requests) ≡ with_key (λ x. x.client.number) client requests
stamps_length client requests = length-map (filter (λ x. nat_eq x.client.number client) requests) (λ x. x.stamp)

module _ (n : ℕ) (requests : List Request) (wishes : List Wish) (ours : (x : Request) → In x requests → x.client.number < n)
    (theirs : (w : Wish) → In w wishes → w.client.number < n) where
  -- where each client has no more requests than wishes, there are no more requests than wishes
  pub no_more : ((c : ℕ) → c < n → length (stamps_of c requests) ≤ count_of c wishes) → length requests ≤ length wishes
  no_more each =
      let a = by_keys (λ (x : Request). x.client.number) n requests ours in
      let b = by_keys (λ (w : Wish). w.client.number) n wishes theirs in
      let upto = total_upto (λ c. with_key (λ (x : Request). x.client.number) c requests) (λ c. count_of c wishes) n
      (λ c l. let e = each c l in omega (arith, e, stamps_length c requests)) in
      omega (arith, a, b, upto)

  -- and where each has as many, there are as many
  pub no_fewer : ((c : ℕ) → c < n → count_of c wishes ≤ length (stamps_of c requests)) → length wishes ≤ length requests
  no_fewer each =
      let a = by_keys (λ (x : Request). x.client.number) n requests ours in
      let b = by_keys (λ (w : Wish). w.client.number) n wishes theirs in
      let upto = total_upto (λ c. count_of c wishes) (λ c. with_key (λ (x : Request). x.client.number) c requests) n
      (λ c l. let e = each c l in omega (arith, e, stamps_length c requests)) in
      omega (arith, a, b, upto)

-- ---- numbers that go on from one

-- each is below the end
pub go_below : (from : ℕ) (xs : List ℕ) (s : ℕ) → GoOn from xs → In s xs → s < from + length xs
go_below from [] s g h = absurd h
go_below from (x ∷ xs) s g (inl e) = omega (arith, e, g.0)
go_below from (x ∷ xs) s g (inr h) = let rest = go_below (from + 1) xs s g.1 h in omega (arith, rest)

-- the last one is there
pub go_last : (from last : ℕ) (xs : List ℕ) → GoOn from xs → from ≤ last → last + 1 ≡ from + length xs → In last xs
go_last from last [] g l e = absurd (omega (arith, l, e))
go_last from last (x ∷ xs) g l e = elim (cases_lt from last) [
  | inl later ↦ inr (go_last (from + 1) last xs g.1 (omega (arith, later)) (omega (arith, e)))
  | inr here ↦ inl (omega (arith, g.0, here, l))
]
