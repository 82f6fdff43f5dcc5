-- Lists of stamps and of proposals: what goes on, what is numbered, and what stands where.
use Rattle.std.proofs.Common.{◌≡◌, ◌≢◌, ℕ, zero, suc, ◌+◌, ◌≤◌, ◌<◌, Bool, true, false, cond, max, nat_eq, nat_le, nat_lt, List, [], ◌∷◌, ◌++◌, map, filter, length, inl, inr, refl, sym, ap, subst, ◌∙◌, arith}
use Rattle.std.specs.Prelude.{slice_index}
use Rattle.std.specs.List.{flat_map}
use Rattle.std.proofs.lemmas.Bool.{cases_lt}
use Rattle.std.proofs.lemmas.Bool.Decides.{nat_tests}
use Rattle.std.proofs.lemmas.Grind.{flat_map-append}
use Rattle.std.proofs.lemmas.List.{map-append}
use Rattle.std.proofs.lemmas.List.Elements.{filter-append}
use Rattle.fab_base.specs.Table.{State, last_of, with_stamp, entries_after, state_after, state_after_all}
use Rattle.fab_base.specs.declared.requests.Request.{Request}
use Rattle.fab_base.proofs.Stamps.{slice_index-with_stamp}
use Rattle.fab_base.proofs.Tests.{same, is_below}
use Rattle.fab_rules.specs.Lists.{In, greatest}
use Rattle.fab_rules.proofs.Lists.{in_append_left, in_append_right, in_append_cases, le_greatest}
use Rattle.fab_machine.specs.State.{Proposed}
use Rattle.fab_machine.specs.Proposing.{stamps_of}
use Rattle.heed_laws.specs.Fronts.{GoOn}

-- ---- stamps that go on

pub goes_first : (from : ℕ) (xs ys : List ℕ) → GoOn from (xs ++ ys) → GoOn from xs
goes_first from [] ys h = tt
goes_first from (x ∷ xs) ys h = (h.0, goes_first (from + 1) xs ys h.1)

pub goes_then : (from : ℕ) (xs ys : List ℕ) → GoOn from (xs ++ ys) → GoOn (from + length xs) ys
goes_then from [] ys h = subst (λ k. GoOn k ys) (let e : from ≡ from + 0 = omega arith in e) h
goes_then from (x ∷ xs) ys h =
    subst (λ k. GoOn k ys) (let e : from + 1 + length xs ≡ from + suc (length xs) = omega arith in e) (goes_then (from + 1) xs ys h.1)

pub goes_both : (from : ℕ) (xs ys : List ℕ) → GoOn from xs → GoOn (from + length xs) ys → GoOn from (xs ++ ys)
goes_both from [] ys a b = subst (λ k. GoOn k ys) (let e : from + 0 ≡ from = omega arith in e) b
goes_both from (x ∷ xs) ys a b =
    (a.0, goes_both (from + 1) xs ys a.1 (subst (λ k. GoOn k ys) (let e : from + suc (length xs) ≡ from + 1 + length xs = omega arith in e) b))

-- each is below the end
goes_below : (from : ℕ) (xs : List ℕ) (x : ℕ) → GoOn from xs → In x xs → x < from + length xs
goes_below from [] x g h = absurd h
goes_below from (y ∷ xs) x g (inl e) = omega (arith, e, g.0)
goes_below from (y ∷ xs) x g (inr h) = omega (arith, goes_below (from + 1) xs x g.1 h)

-- and the last stands just there
goes_last : (from : ℕ) (xs : List ℕ) (k : ℕ) → GoOn from xs → 1 ≤ length xs → k + 1 ≡ from + length xs → In k xs
goes_last from [] k g some e = absurd (omega (arith, some))
goes_last from (x ∷ []) k g some e = inl (omega (arith, g.0, e))
goes_last from (x ∷ y ∷ xs) k g some e = inr (goes_last (from + 1) (y ∷ xs) k g.1 (omega arith) (omega (arith, e)))

greatest_upto : (xs : List ℕ) (n : ℕ) → ((x : ℕ) → In x xs → x ≤ n) → greatest xs ≤ n
greatest_upto [] n h = omega arith
greatest_upto (x ∷ xs) n h = omega (arith, h x (inl refl), greatest_upto xs n (λ y k. h y (inr k)))

-- the greatest in work or done is the last of all, where some go on and the others aren't beyond
pub greatest_is : (m : ℕ) (xs ys : List ℕ) → GoOn (m + 1) xs → ((y : ℕ) → In y ys → y ≤ m + length xs) → max (greatest (xs ++ ys)) m ≡ m + length xs
greatest_is m xs ys g upto =
    let most = greatest_upto (xs ++ ys) (m + length xs) (λ x h. (elim (in_append_cases x xs ys h) [
      | inl here ↦ (let b = goes_below (m + 1) xs x g here in omega (arith, b))
      | inr there ↦ upto x there
    ])) in
    elim (cases_lt 0 (length xs)) [
      | inr none ↦ omega (arith, none, most)
      | inl some ↦ (let l = goes_last (m + 1) xs (m + length xs) g (omega (arith, some)) (omega arith) in
          let le = le_greatest (m + length xs) (xs ++ ys) (in_append_left (m + length xs) xs ys l) in
          omega (arith, le, most))
    ]

-- ---- the stamps of a client

pub stamps-append : (client : ℕ) (xs ys : List Request) → stamps_of client (xs ++ ys) ≡ stamps_of client xs ++ stamps_of client ys
stamps-append client xs ys =
    ap (map (λ x. x.stamp)) (filter-append (λ x. nat_eq x.client.number client) xs ys)
    ∙ map-append (λ x. x.stamp) (filter (λ x. nat_eq x.client.number client) xs) (filter (λ x. nat_eq x.client.number client) ys)

-- of all requests of some batches
abbrev pub stamps_in : ℕ → List (List Request) → List ℕ
stamps_in client batches = stamps_of client (flat_map (λ b. b) batches)

pub stamps_in-append : (client : ℕ) (cs bs : List (List Request)) → stamps_in client (cs ++ bs) ≡ stamps_in client cs ++ stamps_in client bs
stamps_in-append client cs bs =
    ap (stamps_of client) (flat_map-append (λ b. b) cs bs) ∙ stamps-append client (flat_map (λ b. b) cs) (flat_map (λ b. b) bs)

pub stamps_in-one : (client : ℕ) (b : List Request) (bs : List (List Request)) → stamps_in client (b ∷ bs) ≡ stamps_of client b ++ stamps_in client bs
stamps_in-one client b bs = stamps-append client b (flat_map (λ x. x) bs)

pub stamp_inside : (client x : ℕ) (b : List Request) (bs : List (List Request)) → In b bs → In x (stamps_of client b) → In x (stamps_in client bs)
stamp_inside client x b [] h k = absurd h
stamp_inside client x b (c ∷ bs) (inl e) k =
    subst (In x) (sym (stamps_in-one client c bs)) (in_append_left x (stamps_of client c) (stamps_in client bs) (subst (λ y. In x (stamps_of client y)) (sym e) k))
stamp_inside client x b (c ∷ bs) (inr h) k =
    subst (In x) (sym (stamps_in-one client c bs)) (in_append_right x (stamps_of client c) (stamps_in client bs) (stamp_inside client x b bs h k))

-- each is at most their number, where they go on from 1
pub stamp_upto : (client x : ℕ) (b : List Request) (bs : List (List Request)) → GoOn 1 (stamps_in client bs) → In b bs → In x (stamps_of client b)
    → x ≤ length (stamps_in client bs)
stamp_upto client x b bs g h k = let l = goes_below 1 (stamps_in client bs) x g (stamp_inside client x b bs h k) in omega (arith, l)

-- ---- numbered batches

-- the batches of the slots behind this one
abbrev pub numbered : ℕ → List (List Request) → List Proposed
numbered k [] = []
numbered k (b ∷ bs) = record { slot = k + 1; batch = b } ∷ numbered (k + 1) bs

pub numbered-append : (k : ℕ) (cs bs : List (List Request)) → numbered k (cs ++ bs) ≡ numbered k cs ++ numbered (k + length cs) bs
numbered-append k [] bs = ap (λ j. numbered j bs) (let e : k ≡ k + 0 = omega arith in e)
numbered-append k (a ∷ cs) bs =
    ap (λ l. record { slot = k + 1; batch = a } ∷ l) (numbered-append (k + 1) cs bs
    ∙ ap (λ j. numbered (k + 1) cs ++ numbered j bs) (let e : k + 1 + length cs ≡ k + suc (length cs) = omega arith in e))

pub batches_numbered : (k : ℕ) (bs : List (List Request)) → map (λ p. p.batch) (numbered k bs) ≡ bs
batches_numbered k [] = refl
batches_numbered k (b ∷ bs) = ap (λ l. b ∷ l) (batches_numbered (k + 1) bs)

numbered_above : (k : ℕ) (bs : List (List Request)) (p : Proposed) → In p (numbered k bs) → k < p.slot
numbered_above k [] p h = absurd h
numbered_above k (b ∷ bs) p (inl e) = omega (arith, ap (λ (x : Proposed). x.slot) e)
numbered_above k (b ∷ bs) p (inr h) = omega (arith, numbered_above (k + 1) bs p h)

pub batch_numbered : (k : ℕ) (bs : List (List Request)) (p : Proposed) → In p (numbered k bs) → In p.batch bs
batch_numbered k [] p h = absurd h
batch_numbered k (b ∷ bs) p (inl e) = inl (ap (λ (x : Proposed). x.batch) e)
batch_numbered k (b ∷ bs) p (inr h) = inr (batch_numbered (k + 1) bs p h)

-- the one of the next slot is the first
pub first_numbered : (k : ℕ) (bs : List (List Request)) (p : Proposed) → In p (numbered k bs) → p.slot ≡ k + 1
    → (rest : List (List Request)) × (bs ≡ p.batch ∷ rest)
first_numbered k [] p h e = absurd h
first_numbered k (b ∷ bs) p (inl same) e = (bs, ap (λ (x : Proposed). x.batch ∷ bs) same)
first_numbered k (b ∷ bs) p (inr h) e = absurd (omega (arith, numbered_above (k + 1) bs p h, e))

-- behind those before it
pub next_numbered : (k : ℕ) (done bs : List (List Request)) (p : Proposed) → In p (numbered k (done ++ bs)) → p.slot ≡ k + length done + 1
    → (rest : List (List Request)) × (bs ≡ p.batch ∷ rest)
next_numbered k [] bs p h e = first_numbered k bs p h (omega (arith, e))
next_numbered k (d ∷ done) bs p (inl same) e = absurd (omega (arith, ap (λ (x : Proposed). x.slot) same, e))
next_numbered k (d ∷ done) bs p (inr h) e = next_numbered (k + 1) done bs p h (omega (arith, e))

above_true : (a b : ℕ) → a < b → nat_lt a b ≡ true
above_true a b h = is_below a b h

not_above : (a b : ℕ) → b ≤ a → nat_lt a b ≡ false
not_above a b h = grind (arith, nat_tests)

pub all_above : (e k : ℕ) (bs : List (List Request)) → e ≤ k → filter (λ p. nat_lt e p.slot) (numbered k bs) ≡ numbered k bs
all_above e k [] h = refl
all_above e k (b ∷ bs) h =
    let p : Proposed = record { slot = k + 1; batch = b } in
    ap (λ c. cond c (p ∷ filter (λ q. nat_lt e q.slot) (numbered (k + 1) bs)) (filter (λ q. nat_lt e q.slot) (numbered (k + 1) bs))) (above_true e (k + 1) (omega (arith, h)))
    ∙ ap (λ l. p ∷ l) (all_above e (k + 1) bs (omega (arith, h)))

-- the first one is dropped
pub rest_above : (k : ℕ) (b : List Request) (bs : List (List Request)) → filter (λ p. nat_lt (k + 1) p.slot) (numbered k (b ∷ bs)) ≡ numbered (k + 1) bs
rest_above k b bs =
    let p : Proposed = record { slot = k + 1; batch = b } in
    ap (λ c. cond c (p ∷ filter (λ q. nat_lt (k + 1) q.slot) (numbered (k + 1) bs)) (filter (λ q. nat_lt (k + 1) q.slot) (numbered (k + 1) bs))) (not_above (k + 1) (k + 1) (omega arith))
    ∙ all_above (k + 1) (k + 1) bs (omega arith)

pub stamps_numbered : (client k : ℕ) (bs : List (List Request)) → flat_map (λ p. stamps_of client p.batch) (numbered k bs) ≡ stamps_in client bs
stamps_numbered client k [] = refl
stamps_numbered client k (b ∷ bs) = ap (λ l. stamps_of client b ++ l) (stamps_numbered client (k + 1) bs) ∙ sym (stamps_in-one client b bs)

-- ---- requests that take effect

other_stamp : (stamps : List ℕ) (client stamp n : ℕ) → n ≢ client → slice_index (with_stamp stamps client stamp) n ≡ slice_index stamps n
other_stamp [] zero stamp zero h = absurd (h refl)
other_stamp [] zero stamp (suc n) h = refl
other_stamp [] (suc client) stamp zero h = refl
other_stamp [] (suc client) stamp (suc n) h = other_stamp [] client stamp n (λ e. h (ap suc e))
other_stamp (s ∷ rest) zero stamp zero h = absurd (h refl)
other_stamp (s ∷ rest) zero stamp (suc n) h = refl
other_stamp (s ∷ rest) (suc client) stamp zero h = refl
other_stamp (s ∷ rest) (suc client) stamp (suc n) h = other_stamp rest client stamp n (λ e. h (ap suc e))

-- another client's request leaves a client's stamp
other_after : (state : State) (x : Request) (client : ℕ) → client ≢ x.client.number → last_of (state_after state x) client ≡ last_of state client
other_after state x client other = go (nat_le x.stamp (last_of state x.client.number)) (nat_eq x.stamp (last_of state x.client.number + 1))
  where
    go : (old next : Bool) → last_of (cond old state (cond next (record { entries = entries_after state.entries x.op; stamps = with_stamp state.stamps x.client.number x.stamp }) state)) client
        ≡ last_of state client
    go true next = refl
    go false true = other_stamp state.stamps x.client.number x.stamp client other
    go false false = refl

-- the next request of a client takes effect
own_after : (state : State) (x : Request) → x.stamp ≡ last_of state x.client.number + 1 → last_of (state_after state x) x.client.number ≡ x.stamp
own_after state x e = go (nat_le x.stamp (last_of state x.client.number)) (nat_eq x.stamp (last_of state x.client.number + 1)) (late x.stamp _ e) (hit x.stamp _ e)
  where
    late : (a b : ℕ) → a ≡ b + 1 → nat_le a b ≡ false
    late a b h = grind (arith, nat_tests)

    hit : (a b : ℕ) → a ≡ b + 1 → nat_eq a (b + 1) ≡ true
    hit a b h = grind (arith, nat_tests)

    go : (old next : Bool) → old ≡ false → next ≡ true
        → last_of (cond old state (cond next (record { entries = entries_after state.entries x.op; stamps = with_stamp state.stamps x.client.number x.stamp }) state)) x.client.number ≡ x.stamp
    go true next p q = cc
    go false true p q = slice_index-with_stamp state.stamps x.client.number x.stamp
    go false false p q = cc

-- so a batch whose stamps of a client go on from its last one raises that by their number
pub effects : (state : State) (batch : List Request) (client : ℕ) → GoOn (last_of state client + 1) (stamps_of client batch)
    → last_of (state_after_all state batch) client ≡ last_of state client + length (stamps_of client batch)
effects state [] client g = omega arith
effects state (x ∷ rest) client g = go (λ h. effects (state_after state x) rest client h) (nat_eq x.client.number client) refl g
  where
    own : List Request → List Request
    own ys = filter (λ y. nat_eq y.client.number client) ys

    go : (GoOn (last_of (state_after state x) client + 1) (stamps_of client rest)
        → last_of (state_after_all (state_after state x) rest) client ≡ last_of (state_after state x) client + length (stamps_of client rest))
        → (b : Bool) → nat_eq x.client.number client ≡ b → GoOn (last_of state client + 1) (map (λ y. y.stamp) (cond b (x ∷ own rest) (own rest)))
        → last_of (state_after_all (state_after state x) rest) client ≡ last_of state client + length (map (λ y. y.stamp) (cond b (x ∷ own rest) (own rest)))
    go later true mine h =
        let is = same x.client.number client mine in
        let next : x.stamp ≡ last_of state x.client.number + 1 = h.0 ∙ ap (λ c. last_of state c + 1) (sym is) in
        let now : last_of (state_after state x) client ≡ last_of state client + 1 =
        ap (last_of (state_after state x)) (sym is) ∙ (own_after state x next ∙ h.0) in
        let all = later (subst (λ k. GoOn (k + 1) (stamps_of client rest)) (sym now) h.1) in
        omega (arith, all, now)
    go later false far h =
        let other : client ≢ x.client.number = λ e. apart x.client.number client far (sym e) in
        let now = other_after state x client other in
        let all = later (subst (λ k. GoOn (k + 1) (stamps_of client rest)) (sym now) h) in
        omega (arith, all, now)
      where
        apart : (a b : ℕ) → nat_eq a b ≡ false → a ≡ b → ⊥
        apart a b p q = grind (arith, nat_tests)
