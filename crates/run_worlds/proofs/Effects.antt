-- A request takes effect in the run of a ledger exactly where its stamp is at most the last one of its client in the table that the run leaves.
use Rattle.std.proofs.Common.{◌≡◌, ◌≢◌, ℕ, zero, suc, ◌+◌, ◌≤◌, ◌<◌, Bool, true, false, cond, ◌&&◌, ◌||◌, nat_eq, nat_le, List, [], ◌∷◌, ◌++◌, length, replicate, slice_index, refl, sym, ap, subst, ◌∙◌, arith}
use Rattle.std.specs.List.{flat_map, list_any}
use Rattle.std.proofs.lemmas.Bool.Decides.{nat_tests}
use Rattle.fab_base.specs.Limits.{Roster}
use Rattle.fab_base.specs.declared.requests.Outcome.TheVariants.{Done, Again, Early}
use Rattle.fab_base.specs.declared.requests.Request.{Request}
use Rattle.fab_base.specs.declared.messages.NoteLine.{NoteLine}
use Rattle.fab_base.specs.Table.{State, last_of, with_stamp, by_stamp, entries_after, reply_at, value_of, key_of, outcome_of, outcomes_of, state_after, state_after_all}
use Rattle.fab_base.proofs.Stamps.{slice_index-with_stamp, last_of-state_after}
use Rattle.fab_rules.specs.declared.blocks.Block.{Block}
use Rattle.fab_rules.specs.Ledger.{start_of, state_after_blocks, run_from, lines_with, all_lines}
use Rattle.fault_script.specs.declared.scripts.Wish.{Wish}
use Rattle.run_worlds.specs.Endings.{is_done, is_effect_of, has_effect}

-- ---- the requests of all blocks

abbrev pub requests_in : List Block → List Request
requests_in blocks = flat_map (λ b. b.batch) blocks

after_both : (s : State) (xs ys : List Request) → state_after_all s (xs ++ ys) ≡ state_after_all (state_after_all s xs) ys
after_both s [] ys = refl
after_both s (x ∷ xs) ys = after_both (state_after s x) xs ys

pub after_requests : (s : State) (blocks : List Block) → state_after_blocks s blocks ≡ state_after_all s (requests_in blocks)
after_requests s [] = refl
after_requests s (b ∷ rest) = after_requests (state_after_all s b.batch) rest ∙ sym (after_both s b.batch (requests_in rest))

-- ---- one request

other_stamp : (stamps : List ℕ) (client stamp other : ℕ) → other ≢ client
    → slice_index (with_stamp stamps client stamp) other ≡ slice_index stamps other
other_stamp [] zero stamp zero h = absurd (h refl)
other_stamp [] zero stamp (suc other) h = refl
other_stamp [] (suc client) stamp zero h = refl
other_stamp [] (suc client) stamp (suc other) h = other_stamp [] client stamp other (λ e. h (ap suc e))
other_stamp (s ∷ rest) zero stamp zero h = absurd (h refl)
other_stamp (s ∷ rest) zero stamp (suc other) h = refl
other_stamp (s ∷ rest) (suc client) stamp zero h = refl
other_stamp (s ∷ rest) (suc client) stamp (suc other) h = other_stamp rest client stamp other (λ e. h (ap suc e))

-- what is read off where a request takes effect, or not
pub read_off : {X : Type 0} (f : X → ℕ) (stamp last : ℕ) (again effect : X)
    → f (by_stamp stamp last again effect again) ≡ by_stamp stamp last (f again) (f effect) (f again)
read_off f stamp last again effect = go (nat_le stamp last) (nat_eq stamp (last + 1))
  where
    go : (a b : Bool) → f (cond a again (cond b effect again)) ≡ cond a (f again) (cond b (f effect) (f again))
    go true b = refl
    go false true = refl
    go false false = refl

pub the_same : (stamp last k : ℕ) → by_stamp stamp last k k k ≡ k
the_same stamp last k = go (nat_le stamp last) (nat_eq stamp (last + 1))
  where
    go : (a b : Bool) → cond a k (cond b k k) ≡ k
    go true b = refl
    go false true = refl
    go false false = refl

abbrev taken : State → Request → State
taken s x = record { entries = entries_after s.entries x.op; stamps = with_stamp s.stamps x.client.number x.stamp }

pub other_after : (s : State) (x : Request) (c : ℕ) → c ≢ x.client.number → last_of (state_after s x) c ≡ last_of s c
other_after s x c h =
    let k = last_of s x.client.number in
    read_off (λ (t : State). last_of t c) x.stamp k s (taken s x)
    ∙ ap (λ n. by_stamp x.stamp k (last_of s c) n (last_of s c)) (other_stamp s.stamps x.client.number x.stamp c h)
    ∙ the_same x.stamp k (last_of s c)

pub own_after : (s : State) (x : Request)
    → last_of (state_after s x) x.client.number
    ≡ by_stamp x.stamp (last_of s x.client.number) (last_of s x.client.number) x.stamp (last_of s x.client.number)
own_after s x =
    let k = last_of s x.client.number in
    read_off (λ (t : State). last_of t x.client.number) x.stamp k s (taken s x)
    ∙ ap (λ n. by_stamp x.stamp k k n k) (slice_index-with_stamp s.stamps x.client.number x.stamp)

pub zeros : (n c : ℕ) → slice_index (replicate n 0) c ≡ 0
zeros zero c = refl
zeros (suc n) zero = refl
zeros (suc n) (suc c) = zeros n c

-- ---- the lines of all blocks

abbrev lines_after : State → List Request → List NoteLine
lines_after s xs = lines_with xs (outcomes_of s xs)

abbrev line_of : State → Request → NoteLine
line_of s x = record { client = x.client; stamp = x.stamp; outcome = outcome_of s x }

lines_both : (s : State) (xs ys : List Request) → lines_after s (xs ++ ys) ≡ lines_after s xs ++ lines_after (state_after_all s xs) ys
lines_both s [] ys = refl
lines_both s (x ∷ xs) ys = ap (λ l. line_of s x ∷ l) (lines_both (state_after s x) xs ys)

lines_requests : (s : State) (blocks : List Block) → all_lines (run_from s blocks) ≡ lines_after s (requests_in blocks)
lines_requests s [] = refl
lines_requests s (b ∷ rest) =
    ap (λ l. lines_after s b.batch ++ l) (lines_requests (state_after_all s b.batch) rest) ∙ sym (lines_both s b.batch (requests_in rest))

-- ---- a client's last stamp never falls

rises : (s : State) (xs : List Request) (client : ℕ) → last_of s client ≤ last_of (state_after_all s xs) client
rises s [] client = omega arith
rises s (x ∷ xs) client = omega (arith, last_of-state_after s x client, rises (state_after s x) xs client)

-- ---- one request: it takes effect where it has the next stamp of its client

abbrev is_next : State → Request → Bool
is_next s x = by_stamp x.stamp (last_of s x.client.number) false true false

done_is : (s : State) (x : Request) → is_done (outcome_of s x) ≡ is_next s x
done_is s x = go (nat_le x.stamp (last_of s x.client.number)) (nat_eq x.stamp (last_of s x.client.number + 1))
  where
    go : (a b : Bool) → is_done (cond a Again (cond b (Done (reply_at (value_of s (key_of x.op)) x.op)) Early)) ≡ cond a false (cond b true false)
    go true b = refl
    go false true = refl
    go false false = refl

-- where the request is the wanted one, its client's last stamp is the wanted one; where it isn't, the last stamp stays below
abbrev IsStep : ℕ → ℕ → ℕ → Bool → Type 0
IsStep stamp last now true = stamp ≤ now
IsStep stamp last now false = now < stamp

by_number : (stamp last other : ℕ) → last < stamp
    → IsStep stamp last (by_stamp other last last other last) (nat_eq other stamp && by_stamp other last false true false)
by_number stamp last other lt = go (nat_eq other stamp) refl (nat_le other last) refl (nat_eq other (last + 1)) refl
  where
    go : (a : Bool) → nat_eq other stamp ≡ a → (b : Bool) → nat_le other last ≡ b → (c : Bool) → nat_eq other (last + 1) ≡ c
        → IsStep stamp last (cond b last (cond c other last)) (a && cond b false (cond c true false))
    go true p true q c r = lt
    go true p false q true r = let same : other ≡ stamp = grind (arith, nat_tests) in omega arith
    go true p false q false r = lt
    go false p true q c r = lt
    go false p false q true r = let is : other ≡ last + 1 = grind (arith, nat_tests) in let other_one : other ≢ stamp = grind (arith, nat_tests) in omega arith
    go false p false q false r = lt

one_step : (w : Wish) (s : State) (x : Request) → last_of s w.client.number < w.stamp
    → IsStep w.stamp (last_of s w.client.number) (last_of (state_after s x) w.client.number) (is_effect_of w (line_of s x))
one_step w s x lt = go (nat_eq x.client.number w.client.number) refl
  where
    go : (b : Bool) → nat_eq x.client.number w.client.number ≡ b
        → IsStep w.stamp (last_of s w.client.number) (last_of (state_after s x) w.client.number)
        (b && (nat_eq x.stamp w.stamp && is_done (outcome_of s x)))
    go true e =
        let is : x.client.number ≡ w.client.number = grind (arith, nat_tests) in
        let below : last_of s x.client.number < w.stamp = omega (arith, lt, ap (last_of s) is) in
        subst (λ n. IsStep w.stamp (last_of s n) (last_of (state_after s x) n) (nat_eq x.stamp w.stamp && is_done (outcome_of s x))) is
        (subst (λ (b : Bool). IsStep w.stamp (last_of s x.client.number) (last_of (state_after s x) x.client.number) (nat_eq x.stamp w.stamp && b)) (sym (done_is s x))
        (subst (λ n. IsStep w.stamp (last_of s x.client.number) n (nat_eq x.stamp w.stamp && is_next s x)) (sym (own_after s x))
        (by_number w.stamp (last_of s x.client.number) x.stamp below)))
    go false e =
        let other : w.client.number ≢ x.client.number = grind (arith, nat_tests) in
        omega (arith, lt, other_after s x w.client.number other)

-- ---- many

any_line : (w : Wish) (s : State) (xs : List Request) → last_of s w.client.number < w.stamp
    → list_any (is_effect_of w) (lines_after s xs) ≡ nat_le w.stamp (last_of (state_after_all s xs) w.client.number)
any_line w s [] lt = grind (arith, nat_tests)
any_line w s (x ∷ xs) lt = go (is_effect_of w (line_of s x)) (one_step w s x lt) (any_line w (state_after s x) xs)
  where
    go : (b : Bool) → IsStep w.stamp (last_of s w.client.number) (last_of (state_after s x) w.client.number) b
        → (last_of (state_after s x) w.client.number < w.stamp → list_any (is_effect_of w) (lines_after (state_after s x) xs)
        ≡ nat_le w.stamp (last_of (state_after_all (state_after s x) xs) w.client.number))
        → (b || list_any (is_effect_of w) (lines_after (state_after s x) xs))
        ≡ nat_le w.stamp (last_of (state_after_all (state_after s x) xs) w.client.number)
    go true h later =
        let above : w.stamp ≤ last_of (state_after_all (state_after s x) xs) w.client.number =
        omega (arith, h, rises (state_after s x) xs w.client.number) in
        grind (arith, nat_tests)
    go false h later = later h

pub effect_is : (r : Roster) (w : Wish) (blocks : List Block) → 1 ≤ w.stamp
    → nat_le w.stamp (last_of (state_after_blocks (start_of r) blocks) w.client.number) ≡ has_effect r w blocks
effect_is r w blocks some =
    let below : last_of (start_of r) w.client.number < w.stamp = omega (arith, some, zeros (length r.homes) w.client.number) in
    ap (λ (s : State). nat_le w.stamp (last_of s w.client.number)) (after_requests (start_of r) blocks)
    ∙ sym (any_line w (start_of r) (requests_in blocks) below)
    ∙ ap (list_any (is_effect_of w)) (sym (lines_requests (start_of r) blocks))
