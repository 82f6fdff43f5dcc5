-- The stamps of a script run from 1, as it grows.
use Rattle.std.proofs.Common.{◌≡◌, ℕ, ◌+◌, ◌<◌, ◌≢◌, Bool, true, false, cond, ◌&&◌, nat_eq, nat_lt, List, [], ◌∷◌, ◌++◌, length, filter, slice_index, slice_set, refl, ap, sym, subst, ◌∙◌, arith, length-append, append_assoc}
use Rattle.std.specs.List.{list_all}
use Rattle.std.proofs.lemmas.Bool.Decides.{nat_tests}
use Rattle.std.proofs.lemmas.List.{get_or_append_left, get_or-set_same, get_or-set_other, length-set, append-nil}
use Rattle.std.proofs.Math.Seq.{get_or-append_seam}
use Rattle.std.proofs.lemmas.List.Elements.{filter-append}
use Rattle.fab_base.specs.declared.limits.TheConstants.{MOST_STAMPS}
use Rattle.fab_base.specs.Fields.{op_fits}
use Rattle.fab_base.proofs.Tests.{and_left, and_right, and_both, below, are_same, is_same}
use Rattle.fault_script.specs.declared.scripts.Wish.{Wish}
use Rattle.fault_script.specs.Fields.{is_within}
use Rattle.fault_script.specs.Scripts.{is_wish, count_of, stamps_run, are_wishes, AreCounts}
use Rattle.fault_script.proofs.Declared.{all_and_one}

-- ---- one request more is counted for its client alone

pub count_and_one : (client : ℕ) (wishes : List Wish) (wish : Wish) (b : Bool) → nat_eq wish.client.number client ≡ b
    → count_of client (wishes ++ wish ∷ []) ≡ count_of client wishes + length (cond b (wish ∷ []) [])
count_and_one client wishes wish b e =
    let mine = λ (w : Wish). nat_eq w.client.number client in
    ap length (filter-append mine wishes (wish ∷ []))
    ∙ length-append (filter mine wishes) (filter mine (wish ∷ []))
    ∙ ap (λ t. length (filter mine wishes) + length (cond t (wish ∷ []) [])) e

-- a client that isn't one of these has no request
none_of : (n : ℕ) (wishes : List Wish) → list_all (is_wish n) wishes ≡ true → count_of n wishes ≡ 0
none_of n [] h = refl
none_of n (wish ∷ wishes) h =
    let number = wish.client.number in
    let declared : nat_lt number n ≡ true = and_left (nat_lt number n) (is_within 1 MOST_STAMPS wish.stamp && op_fits wish.op) (and_left (is_wish n wish) (list_all (is_wish n) wishes) h) in
    let other : nat_eq number n ≡ false = grind (arith, nat_tests, below number n declared) in
    ap (λ t. length (cond t (wish ∷ filter (λ (w : Wish). nat_eq w.client.number n) wishes) (filter (λ (w : Wish). nat_eq w.client.number n) wishes))) other
    ∙ none_of n wishes (and_right (is_wish n wish) (list_all (is_wish n) wishes) h)

-- ---- the stamps of the requests

run_and_one : (before wishes : List Wish) (wish : Wish) → stamps_run before wishes ≡ true → wish.stamp ≡ count_of wish.client.number (before ++ wishes) + 1
    → stamps_run before (wishes ++ wish ∷ []) ≡ true
run_and_one before [] wish h e =
    let here : wish.stamp ≡ count_of wish.client.number before + 1 = e ∙ ap (λ l. count_of wish.client.number l + 1) (append-nil before) in
    and_both (nat_eq wish.stamp (count_of wish.client.number before + 1)) true (are_same wish.stamp (count_of wish.client.number before + 1) here) refl
run_and_one before (first ∷ rest) wish h e =
    let test = nat_eq first.stamp (count_of first.client.number before + 1) in
    let next = before ++ first ∷ [] in
    let same : before ++ first ∷ rest ≡ next ++ rest = sym (append_assoc before (first ∷ []) rest) in
    and_both test (stamps_run next (rest ++ wish ∷ []))
    (and_left test (stamps_run next rest) h)
    (run_and_one next rest wish (and_right test (stamps_run next rest) h) (e ∙ ap (λ l. count_of wish.client.number l + 1) same))

-- a request more, whose stamp is the next of its client
pub wishes_and_one : (n : ℕ) (stamps : List ℕ) (wishes : List Wish) (wish : Wish) → length stamps ≡ n → AreCounts stamps wishes → are_wishes n wishes ≡ true
    → is_wish n wish ≡ true → wish.stamp ≡ slice_index stamps wish.client.number + 1 → are_wishes n (wishes ++ wish ∷ []) ≡ true
wishes_and_one n stamps wishes wish size counts h fits e =
    let number = wish.client.number in
    let each = list_all (is_wish n) wishes in
    let declared : number < n = below number n (and_left (nat_lt number n) (is_within 1 MOST_STAMPS wish.stamp && op_fits wish.op) fits) in
    let counted : slice_index stamps number ≡ count_of number wishes = counts number (omega (arith, declared, size)) in
    and_both (list_all (is_wish n) (wishes ++ wish ∷ [])) (stamps_run [] (wishes ++ wish ∷ []))
    (all_and_one (is_wish n) wishes wish (and_left each (stamps_run [] wishes) h) fits)
    (run_and_one [] wishes wish (and_right each (stamps_run [] wishes) h) (e ∙ ap (λ k. k + 1) counted))

-- ---- the counts

-- a client more
pub counts_and_client : (stamps : List ℕ) (wishes : List Wish) → AreCounts stamps wishes → list_all (is_wish (length stamps)) wishes ≡ true → AreCounts (stamps ++ 0 ∷ []) wishes
counts_and_client stamps wishes counts h client inside = go (nat_lt client (length stamps)) refl
  where
    go : (b : Bool) → nat_lt client (length stamps) ≡ b → slice_index (stamps ++ 0 ∷ []) client ≡ count_of client wishes
    go true e =
        let old : client < length stamps = below client (length stamps) e in
        get_or_append_left stamps (0 ∷ []) 0 client old ∙ counts client old
    go false e =
        let last : length stamps ≡ client = grind (arith, nat_tests, inside, length-append stamps (0 ∷ [])) in
        subst (λ n. slice_index (stamps ++ 0 ∷ []) n ≡ count_of n wishes) last
        (get_or-append_seam stamps 0 [] 0 ∙ sym (none_of (length stamps) wishes h))

-- a request more, of this client
pub counts_and_wish : (stamps : List ℕ) (wishes : List Wish) (wish : Wish) → AreCounts stamps wishes → wish.client.number < length stamps
    → AreCounts (slice_set stamps wish.client.number (slice_index stamps wish.client.number + 1)) (wishes ++ wish ∷ [])
counts_and_wish stamps wishes wish counts declared client inside = go (nat_eq wish.client.number client) refl
  where
    go : (b : Bool) → nat_eq wish.client.number client ≡ b → slice_index (slice_set stamps wish.client.number (slice_index stamps wish.client.number + 1)) client ≡ count_of client (wishes ++ wish ∷ [])
    go true e =
        let same : wish.client.number ≡ client = grind (arith, nat_tests) in
        subst (λ n. slice_index (slice_set stamps wish.client.number (slice_index stamps wish.client.number + 1)) n ≡ count_of n (wishes ++ wish ∷ [])) same
        (get_or-set_same stamps wish.client.number (slice_index stamps wish.client.number + 1) 0 declared
        ∙ ap (λ n. n + 1) (counts wish.client.number declared)
        ∙ sym (count_and_one wish.client.number wishes wish true (is_same wish.client.number)))
    go false e =
        let other : client ≢ wish.client.number = grind (arith, nat_tests) in
        let old : client < length stamps = omega (arith, inside, length-set stamps wish.client.number (slice_index stamps wish.client.number + 1)) in
        let same : count_of client (wishes ++ wish ∷ []) ≡ count_of client wishes = omega (arith, count_and_one client wishes wish false e) in
        get_or-set_other stamps wish.client.number client (slice_index stamps wish.client.number + 1) 0 other
        ∙ counts client old
        ∙ sym same
