-- The last stamps that are counted are those of the table that a ledger's run leaves, so they tell what took effect.
use Rattle.std.proofs.Common.{◌≡◌, ◌≢◌, ℕ, ◌<◌, ◌≤◌, Bool, true, false, nat_eq, nat_le, List, [], ◌∷◌, length, replicate, slice_index, slice_set, refl, sym, ap, subst, ◌∙◌, arith}
use Rattle.std.specs.List.{fold}
use Rattle.std.proofs.lemmas.List.{get_or-set_same, get_or-set_other, length-set, length-replicate}
use Rattle.std.proofs.lemmas.List.Sums.{fold-append}
use Rattle.std.proofs.lemmas.Bool.Decides.{nat_tests}
use Rattle.fab_base.specs.Limits.{Roster}
use Rattle.fab_base.specs.declared.requests.Request.{Request}
use Rattle.fab_base.specs.Table.{State, last_of, by_stamp, state_after, state_after_all}
use Rattle.fab_rules.specs.declared.blocks.Block.{Block}
use Rattle.fab_rules.specs.Ledger.{start_of, state_after_blocks}
use Rattle.fault_script.specs.declared.scripts.Wish.{Wish}
use Rattle.run_worlds.specs.Endings.{has_effect}
use Rattle.run_worlds.proofs.Effects as effects
use Rattle.run_worlds.proofs.Effects.{requests_in, after_requests, read_off, the_same, other_after, own_after, zeros}
use Rattle.fabric_audit.specs.Stamps.{NUMBERS, counted, counted_all, counted_block, last_stamps, is_served}

-- ---- the requests of all blocks

counted_requests : (last : List ℕ) (blocks : List Block) → fold counted_block last blocks ≡ counted_all last (requests_in blocks)
counted_requests last [] = refl
counted_requests last (b ∷ rest) =
    counted_requests (counted_all last b.batch) rest ∙ sym (fold-append counted last b.batch (requests_in rest))

-- ---- one request

other_counted : (last : List ℕ) (x : Request) (c : ℕ) → c ≢ x.client.number → slice_index (counted last x) c ≡ slice_index last c
other_counted last x c h =
    let k = slice_index last x.client.number in
    read_off (λ (l : List ℕ). slice_index l c) x.stamp k last (slice_set last x.client.number x.stamp)
    ∙ ap (λ n. by_stamp x.stamp k (slice_index last c) n (slice_index last c)) (get_or-set_other last x.client.number c x.stamp 0 h)
    ∙ the_same x.stamp k (slice_index last c)

own_counted : (last : List ℕ) (x : Request) → x.client.number < length last
    → slice_index (counted last x) x.client.number
    ≡ by_stamp x.stamp (slice_index last x.client.number) (slice_index last x.client.number) x.stamp (slice_index last x.client.number)
own_counted last x lt =
    let k = slice_index last x.client.number in
    read_off (λ (l : List ℕ). slice_index l x.client.number) x.stamp k last (slice_set last x.client.number x.stamp)
    ∙ ap (λ n. by_stamp x.stamp k k n k) (get_or-set_same last x.client.number x.stamp 0 lt)

long_counted : (last : List ℕ) (x : Request) → length (counted last x) ≡ length last
long_counted last x =
    let k = slice_index last x.client.number in
    read_off (λ (l : List ℕ). length l) x.stamp k last (slice_set last x.client.number x.stamp)
    ∙ ap (λ n. by_stamp x.stamp k (length last) n (length last)) (length-set last x.client.number x.stamp)
    ∙ the_same x.stamp k (length last)

-- ---- many

-- the stamps of the clients that are counted
abbrev AreLast : List ℕ → State → Type 0
AreLast last s = (c : ℕ) → c < length last → slice_index last c ≡ last_of s c

last_more : (last : List ℕ) (s : State) (x : Request) → AreLast last s → AreLast (counted last x) (state_after s x)
last_more last s x h c lt = go (nat_eq c x.client.number) refl
  where
    within : c < length last
    within = omega (arith, lt, long_counted last x)

    go : (b : Bool) → nat_eq c x.client.number ≡ b → slice_index (counted last x) c ≡ last_of (state_after s x) c
    go true e =
        let is : x.client.number ≡ c = grind (arith, nat_tests) in
        let same : slice_index last x.client.number ≡ last_of s x.client.number = ap (slice_index last) is ∙ h c within ∙ ap (last_of s) (sym is) in
        subst (λ n. slice_index (counted last x) n ≡ last_of (state_after s x) n) is
        (own_counted last x (omega (arith, is, within))
        ∙ ap (λ n. by_stamp x.stamp n n x.stamp n) same
        ∙ sym (own_after s x))
    go false e =
        let other : c ≢ x.client.number = grind (arith, nat_tests) in
        other_counted last x c other ∙ h c within ∙ sym (other_after s x c other)

last_all : (last : List ℕ) (s : State) (xs : List Request) → AreLast last s → AreLast (counted_all last xs) (state_after_all s xs)
last_all last s [] h = h
last_all last s (x ∷ xs) h = last_all (counted last x) (state_after s x) xs (last_more last s x h)

long_all : (last : List ℕ) (xs : List Request) → length (counted_all last xs) ≡ length last
long_all last [] = refl
long_all last (x ∷ xs) = long_all (counted last x) xs ∙ long_counted last x

-- the last stamps of a ledger
pub last_is : (r : Roster) (blocks : List Block) (c : ℕ) → c < NUMBERS
    → slice_index (last_stamps blocks) c ≡ last_of (state_after_blocks (start_of r) blocks) c
last_is r blocks c lt =
    let none : ℕ = 0 in
    let start : List ℕ = replicate NUMBERS none in
    let long : c < length (counted_all start (requests_in blocks)) =
    omega (arith, lt, long_all start (requests_in blocks), length-replicate NUMBERS none) in
    ap (λ (l : List ℕ). slice_index l c) (counted_requests start blocks)
    ∙ last_all start (start_of r) (requests_in blocks) (λ k h. zeros NUMBERS k ∙ sym (zeros (length r.homes) k)) c long
    ∙ ap (λ (s : State). last_of s c) (sym (after_requests (start_of r) blocks))

-- what took effect, told by them
pub effect_is : (r : Roster) (w : Wish) (blocks : List Block) → 1 ≤ w.stamp → w.client.number < NUMBERS
    → is_served (last_stamps blocks) w ≡ has_effect r w blocks
effect_is r w blocks some known = ap (nat_le w.stamp) (last_is r blocks w.client.number known) ∙ effects.effect_is r w blocks some
