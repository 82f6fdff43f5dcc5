-- How many slots the primary of the one run of a script opens: each batch is full, but for one at a quiet moment at which all that the script
-- asks is proposed.
use Rattle.std.proofs.Common.{◌≡◌, ℕ, zero, suc, ◌+◌, ◌*◌, ◌/◌, ◌^◌, ◌<◌, ◌≤◌, Bool, true, false, cond, ◌||◌, nat_eq, nat_le, nat_lt, List, [], ◌∷◌, ◌++◌, filter, take, length, ◌⊎◌, inl, inr, refl, sym, ap, subst, ◌∙◌, arith, length-append, append-nil}
use Rattle.std.specs.Prelude.{slice_index}
use Rattle.std.specs.List.{flat_map, sum_by, range_with_len}
use Rattle.std.proofs.Math.Nat.{add-mul, one-mul, zero-mul, le-div_iff_mul-le}
use Rattle.std.proofs.lemmas.Bool.{cases_lt}
use Rattle.std.proofs.lemmas.Grind.{flat_map-append}
use Rattle.std.proofs.lemmas.List.{length-take-le, take_all}
use Rattle.std.proofs.lemmas.List.Sums.{sum_by-cons, length-filter}
use Rattle.fab_base.specs.Roster.{size_of}
use Rattle.fab_base.specs.declared.ids.ClientId.{ClientId}
use Rattle.fab_base.specs.declared.ids.Who.{Who}
use Rattle.fab_base.specs.declared.ids.ReplicaId.{ReplicaId}
use Rattle.fab_base.specs.declared.limits.TheConstants.{MOST_REQUESTS, MOST_SLOTS}
use Rattle.fault_script.specs.declared.settings.TheConstants.{MOST_TURNS, MOST_PATIENCE}
use Rattle.lms_tree.specs.Heights.{leaf_count}
use Rattle.fab_base.specs.declared.requests.Request.{Request}
use Rattle.fab_base.proofs.Tests.{and_left, and_right, at_most, same, are_same}
use Rattle.fab_rules.specs.Lists.{In}
use Rattle.fab_rules.proofs.Lists.{in_append_left, in_append_right, in_map}
use Rattle.fab_machine.specs.State.{Local}
use Rattle.fab_machine.specs.Relation.{full_of}
use Rattle.fab_machine.specs.Proposing.{expected, eligible}
use Rattle.fault_script.specs.declared.scripts.Script.{Script}
use Rattle.fault_script.specs.declared.scripts.Wish.{Wish}
use Rattle.fault_script.specs.Fields.{is_within}
use Rattle.fault_script.specs.Settings.{are_settings, is_height}
use Rattle.fault_script.specs.Scripts.{are_sizes, are_homes, are_wishes, are_timeouts, count_of, keeps_limits}
use Rattle.world_laws.specs.World.{NoClash}
use Rattle.heed_laws.specs.Resting.{member}
use Rattle.run_words.specs.Journal.{Maker, state, diary, IsMade as IsReplayed}
use Rattle.run_words.specs.Runs.{Rules, journal_in, after}
use Rattle.run_words.specs.Lawful.{AreEach}
use Rattle.run_words.specs.declared.logs.Entry.{Entry}
use Rattle.run_words.specs.declared.logs.Transcript.{Transcript}
use Rattle.run_words.proofs.Keeping.{AreStill, IsWell, is_in, after_well}
use Rattle.run_words.proofs.Replays.{fresh_is}
use Rattle.script_keys.specs.Keys.{leaves_of, replicas_of, height_of}
use Rattle.script_keys.proofs.Wishes.{asked_in}
use Rattle.run_worlds.specs.Scripts.{roster_of, maker_of, makers_of, script_rules}
use Rattle.run_worlds.specs.Worlds.{world_of}
use Rattle.run_worlds.specs.Endings.{IsRunOf}
use Rattle.audit_laws.proofs.Members.{is_listed}
use Rattle.audit_laws.proofs.Sanity.{sane}
use Rattle.plain_laws.specs.Plain.{IsUnspent, HasTimedOut}
use Rattle.plain_laws.proofs.Prefixes.{at_step, run_of, clean_prefix, still_prefix, journal_there, diary_there, no_clash_before}
use Rattle.plain_laws.proofs.Timely.{spent_or_not, untimed_told, timely_step}
use Rattle.plain_laws.proofs.Untimed.{start_untimed}
use Rattle.budget_laws.specs.Budgets.{requests_at, rounds_of}
use Rattle.budget_laws.specs.Opened.{state_at, full_at, slots_opened}
use Rattle.budget_laws.specs.Proposals.{proposals_said, requests_said, stamps_said, IsThrifty}
use Rattle.budget_laws.proofs.Asked.{stamps_among, member_known, home_is, requests_few, requests_all, last_eligible}
use Rattle.budget_laws.proofs.Journals.{first_of_all, batches_by, HasBatch, one_step}
use Rattle.budget_laws.proofs.Moments.{step_of}
use Rattle.budget_laws.proofs.Prefixes.{IsClear, plain_journal, thrifty}
use Rattle.budget_laws.proofs.Sums.{go_below, go_last}
use Rattle.budget_laws.proofs.Voicing.{next_opened, spent_opened}

-- ---- numbers

-- so many batches of this size: all are full, or all but one, and then all is proposed
abbrev Fills : ℕ → ℕ → ℕ → ℕ → Type 0
Fills m b l q = (m * b ≤ l) ⊎ ((l ≡ q) × (m * b ≤ l + b))

one_more : (m b : ℕ) → (m + 1) * b ≡ m * b + b
one_more m b = omega (arith, add-mul m 1 b, one-mul b)

full_more : (m b l q : ℕ) → Fills m b l q → l + b ≤ q → 1 ≤ b → Fills (m + 1) b (l + b) q
full_more m b l q (inl all) few some = inl (omega (arith, all, one_more m b))
full_more m b l q (inr h) few some = absurd (omega (arith, h.0, few, some))

last_more : (m b l k q : ℕ) → Fills m b l q → 1 ≤ k → l + k ≤ q → q ≤ l + k → Fills (m + 1) b (l + k) q
last_more m b l k q (inl all) some few whole = inr (omega (arith, few, whole), omega (arith, all, one_more m b))
last_more m b l k q (inr h) some few whole = absurd (omega (arith, h.0, few, some))

fills_at : (m n b l k q : ℕ) → m ≡ n → l ≡ k → Fills m b l q → Fills n b k q
fills_at m n b l k q e f h = subst (λ x. Fills x b k q) e (subst (λ x. Fills m b x q) f h)

few_batches : (m b l q : ℕ) → Fills m b l q → l ≤ q → 0 < b → m ≤ 1 + q / b
few_batches m b l q (inl all) few some = let d : m ≤ q / b = (le-div_iff_mul-le some).1 (omega (arith, all, few)) in omega (arith, d)
few_batches zero b l q (inr h) few some = omega arith
few_batches (suc m) b l q (inr h) few some =
    let d : m ≤ q / b = (le-div_iff_mul-le some).1 (let same_one : suc m ≡ m + 1 = omega arith in let e = subst (λ k. k * b ≤ l + b) same_one h.1 in omega (arith, e, one_more m b, few)) in omega (arith, d)

-- ---- the figures of a script

settings : (script : Script) → keeps_limits script ≡ true → are_settings script.batch script.window script.interval script.seed script.turns script.patience script.height ≡ true
settings script limits =
    and_right (are_timeouts script.sizes script.timeouts) _
    (and_right (are_wishes (length script.homes) script.requests) _
    (and_right (are_homes (length script.sizes) script.homes) _ (and_right (are_sizes script.sizes) _ limits)))

some_batch : (script : Script) → keeps_limits script ≡ true → 1 ≤ script.batch
some_batch script limits = at_most 1 script.batch (and_left (nat_le 1 script.batch) _ (and_left (is_within 1 MOST_REQUESTS script.batch) _ (settings script limits)))

all_pass : {X : Type 0} (p : X → Bool) (xs : List X) → ((x : X) → In x xs → p x ≡ true) → filter p xs ≡ xs
all_pass p [] h = refl
all_pass p (x ∷ xs) h = ap (λ b. cond b (x ∷ filter p xs) (filter p xs)) (h x (inl refl)) ∙ ap (λ ys. x ∷ ys) (all_pass p xs (λ y k. h y (inr k)))

rounds_are : (script : Script) → length script.sizes ≡ 1 → ((w : Wish) → In w script.requests → slice_index script.homes w.client.number ≡ 1)
    → rounds_of script ≡ 1 + length script.requests / script.batch
rounds_are script one home =
    let p : Wish → Bool = λ wish. nat_eq (slice_index script.homes wish.client.number) 1 in
    let all = ap length (all_pass p script.requests (λ w h. are_same (slice_index script.homes w.client.number) 1 (home w h))) in
    let counted : requests_at script 1 ≡ length script.requests = omega (arith, all, length-filter p script.requests) in
    let sum = ap (λ n. sum_by (λ c. requests_at script c / script.batch) (range_with_len 1 n)) one in
    let only = sum_by-cons (λ c. requests_at script c / script.batch) 1 [] in
    let quotient = ap (λ q. q / script.batch) counted in
    omega (arith, sum, only, quotient)

height_is : (script : Script) → keeps_limits script ≡ true → (script.height ≡ 5) ⊎ (script.height ≡ 10)
height_is script limits = by (nat_eq script.height 5) refl (nat_eq script.height 10) refl test
  where
    test : is_height script.height ≡ true
    test =
        and_right (nat_le script.patience MOST_PATIENCE) _
        (and_right (is_within 1 MOST_TURNS script.turns) _
        (and_right (nat_lt script.seed (2 ^ 64)) _
        (and_right (is_within 1 script.window script.interval) _
        (and_right (is_within 1 MOST_SLOTS script.window) _
        (and_right (is_within 1 MOST_REQUESTS script.batch) _ (settings script limits))))))

    by : (a : Bool) → nat_eq script.height 5 ≡ a → (b : Bool) → nat_eq script.height 10 ≡ b → (a || b) ≡ true → (script.height ≡ 5) ⊎ (script.height ≡ 10)
    by true e b f h = inl (same script.height 5 e)
    by false e true f h = inr (same script.height 10 f)
    by false e false f h = absurd cc

-- a key of a replica has as many leaves
pub leaves_are : (script : Script) (i : ReplicaId) → keeps_limits script ≡ true → leaves_of script (Who.Replica i) ≡ 2 ^ script.height
leaves_are script i limits = elim (height_is script limits) [ inl e ↦ by script.height (inl e) | inr e ↦ by script.height (inr e) ]
  where
    by : (h : ℕ) → (h ≡ 5) ⊎ (h ≡ 10) → leaf_count (height_of h) ≡ 2 ^ h
    by h (inl e) = subst (λ k. leaf_count (height_of k) ≡ 2 ^ k) (sym e) refl
    by h (inr e) = subst (λ k. leaf_count (height_of k) ≡ 2 ^ k) (sym e) refl

-- ---- along the run

none_yet : (m : Maker) → batches_by m [] ≡ []
unfolding diary
none_yet m = ap (λ s. proposals_said (full_of m.id s [])) (fresh_is m)

-- of the batches that were proposed
abbrev pub AreFilled : Script → List (List Request) → Type 0
AreFilled script batches = Fills (length batches) script.batch (length (flat_map (λ b. b) batches)) (length script.requests)

-- a batch more
length_more : (batches : List (List Request)) (b : List Request) → length (flat_map (λ x. x) (batches ++ b ∷ [])) ≡ length (flat_map (λ x. x) batches) + length b
length_more batches b =
    ap length (flat_map-append (λ x. x) batches (b ∷ []))
    ∙ length-append (flat_map (λ x. x) batches) (b ++ [])
    ∙ ap (λ l. length (flat_map (λ x. x) batches) + length l) (append-nil b)

requests_more : (batches : List (List Request)) (b : List Request) (x : Request) → In x (flat_map (λ y. y) batches) ⊎ In x b → In x (flat_map (λ y. y) (batches ++ b ∷ []))
requests_more batches b x h =
    subst (In x) (sym (flat_map-append (λ y. y) batches (b ∷ []) ∙ ap (λ l. flat_map (λ y. y) batches ++ l) (append-nil b)))
    (elim h as (λ _. In x (flat_map (λ y. y) batches ++ b)) [ inl old ↦ in_append_left x (flat_map (λ y. y) batches) b old | inr new ↦ in_append_right x (flat_map (λ y. y) batches) b new ])

filled_full : (script : Script) (batches now : List (List Request)) (b : List Request) → now ≡ batches ++ b ∷ [] → length b ≡ script.batch
    → length (flat_map (λ x. x) now) ≤ length script.requests → 1 ≤ script.batch → AreFilled script batches → AreFilled script now
filled_full script batches now b e size few some h =
    let l = length_more batches b in
    let n = length-append batches (b ∷ []) in
    let few_here : length (flat_map (λ x. x) batches) + script.batch ≤ length script.requests = omega (arith, few, ap (λ bs. length (flat_map (λ x. x) bs)) e, l, size) in
    let more = full_more (length batches) script.batch (length (flat_map (λ x. x) batches)) (length script.requests) h few_here some in
    let count : length now ≡ length batches + 1 = omega (arith, ap length e, n) in
    let requests : length (flat_map (λ x. x) now) ≡ length (flat_map (λ x. x) batches) + script.batch = omega (arith, ap (λ bs. length (flat_map (λ x. x) bs)) e, l, size) in
    fills_at (length batches + 1) (length now) script.batch (length (flat_map (λ x. x) batches) + script.batch) (length (flat_map (λ x. x) now)) (length script.requests)
    (sym count) (sym requests) more

filled_last : (script : Script) (batches now : List (List Request)) (b : List Request) → now ≡ batches ++ b ∷ [] → 1 ≤ length b
    → length (flat_map (λ x. x) now) ≤ length script.requests → length script.requests ≤ length (flat_map (λ x. x) now) → AreFilled script batches → AreFilled script now
filled_last script batches now b e some few whole h =
    let l = length_more batches b in
    let n = length-append batches (b ∷ []) in
    let requests : length (flat_map (λ x. x) now) ≡ length (flat_map (λ x. x) batches) + length b = omega (arith, ap (λ bs. length (flat_map (λ x. x) bs)) e, l) in
    let more = last_more (length batches) script.batch (length (flat_map (λ x. x) batches)) (length b) (length script.requests) h some (omega (arith, few, requests)) (omega (arith, whole, requests)) in
    let count : length now ≡ length batches + 1 = omega (arith, ap length e, n) in
    fills_at (length batches + 1) (length now) script.batch (length (flat_map (λ x. x) batches) + length b) (length (flat_map (λ x. x) now)) (length script.requests)
    (sym count) (sym requests) more

module _ (script : Script) (limits : keeps_limits script ≡ true) (one : length script.sizes ≡ 1) (some : 0 < size_of (roster_of script) 1)
    (lines : script.timeouts ≡ []) (fits : 5 * rounds_of script + 8 ≤ 2 ^ script.height) where
  abbrev rules : Rules
  rules = script_rules script

  abbrev t : ℕ → Transcript
  t n = at_step script n

  abbrev primary : Maker
  primary = maker_of script (member 0)

  abbrev journal : ℕ → List Entry
  journal n = journal_in (after (script_rules script) n) (maker_of script (member 0))

  abbrev batches : ℕ → List (List Request)
  batches n = proposals_said (full_at (at_step script n) 0)

  run : (n : ℕ) → IsRunOf script (at_step script n)
  run n = run_of script n limits

  wastes_nothing : (n : ℕ) → IsClear script n → IsThrifty (roster_of script) (state_at (at_step script n) 0).local (full_at (at_step script n) 0)
  wastes_nothing n none = thrifty script n limits one some none

  listed : In (member 0) (replicas_of script)
  listed = is_listed script (member 0) (member_known (t 0) (run 0) one some)

  state_is : (n : ℕ) → state_at (at_step script n) 0 ≡ state (maker_of script (member 0)) (journal n)
  state_is n = ap (state primary) (journal_there script (after rules n) (replicas_of script) (member 0) listed)

  batches_are : (n : ℕ) → proposals_said (full_at (at_step script n) 0) ≡ batches_by (maker_of script (member 0)) (journal n)
  batches_are n =
      ap (λ s. proposals_said (full_of (member 0) s ((world_of (t n)).diary (member 0)))) (state_is n)
      ∙ ap (λ d. proposals_said (full_of (member 0) (state primary (journal n)) d)) (diary_there script (after rules n) (replicas_of script) (member 0) listed)

  well : (n : ℕ) → IsWell (script_rules script) (after (script_rules script) n)
  well n = after_well rules n (sane script limits)

  replays : (n : ℕ) → IsReplayed (maker_of script (member 0)) (journal n)
  replays n = ((well n).fair.logs primary (is_in primary (makers_of script) (in_map (maker_of script) (member 0) (replicas_of script) listed))).0

  stepped : (n : ℕ) → (HasTimedOut (at_step script (suc n)) → ⊥) → (batches_by (maker_of script (member 0)) (journal (suc n)) ≡ batches_by (maker_of script (member 0)) (journal n))
      ⊎ HasBatch (AreStill (script_rules script) (after (script_rules script) n)) (maker_of script (member 0)) (journal n) (journal (suc n))
  stepped n untimed =
      let first = first_of_all script some in
      one_step (AreStill rules (after rules n)) primary (journal n) (journal (suc n)) (replays n) (replays (suc n)) (plain_journal script limits one some (suc n) untimed)
      (step_of rules primary first.others first.makers_are (sane script limits) n)

  few : (n : ℕ) → IsClear script n → length (requests_said (full_at (at_step script n) 0)) ≤ length script.requests
  few n none = requests_few (t n) (run n) none.1 one some (wastes_nothing n none)

  -- the slots that were opened
  pub opened_few : (n : ℕ) → IsClear script n → AreFilled script (proposals_said (full_at (at_step script n) 0))
      → length (slots_opened (at_step script n)) ≤ rounds_of script
  opened_few n none filled =
      let bound = few_batches (length (batches n)) script.batch (length (requests_said (full_at (t n) 0))) (length script.requests) filled (few n none) (some_batch script limits) in
      let next_is = (wastes_nothing n none).next_is in
      let rounds = rounds_are script one (λ w h. home_is (t n) (run n) one some w.client.number (asked_in script w limits h).declared) in
      omega (arith, bound, next_is, next_opened (t n) one (run n) none.1 some, rounds)

  unspent : (n : ℕ) → IsClear script n → AreFilled script (proposals_said (full_at (at_step script n) 0))
      → AreEach IsUnspent (makers_of script) (at_step script n).traces
  unspent n none filled = elim (spent_or_not (t n) (replicas_of script) (t n).traces (λ y k. k) (run n).lawful.kept) [
    | inl fine ↦ fine
    | inr spent ↦ absurd (let upto = spent_opened (t n) (omega (arith, one)) (run n) none.1 spent in
        omega (arith, upto, opened_few n none filled, leaves_are script spent.trace.id limits, fits))
  ]

  -- where all that is eligible is proposed at a quiet moment, all that the script asks was proposed
  proposes_all : (n : ℕ) → IsClear script n → IsClear script (suc n) → AreFilled script (proposals_said (full_at (at_step script n) 0))
      → AreStill (script_rules script) (after (script_rules script) n)
      → proposals_said (full_at (at_step script (suc n)) 0) ≡ proposals_said (full_at (at_step script n) 0) ++ eligible (state_at (at_step script n) 0).local ∷ []
      → length script.requests ≤ length (requests_said (full_at (at_step script (suc n)) 0))
  proposes_all n none later filled still grown = requests_all (t (suc n)) (run (suc n)) later.1 one some each
    where
      among : (x : Request) → In x (requests_said (full_at (at_step script n) 0)) ⊎ In x (eligible (state_at (at_step script n) 0).local)
          → In x (requests_said (full_at (at_step script (suc n)) 0))
      among x h = subst (λ bs. In x (flat_map (λ b. b) bs)) (sym grown) (requests_more (batches n) (eligible (state_at (t n) 0).local) x h)

      each : (c : ℕ) → c < length script.homes → count_of c script.requests ≤ length (stamps_said c (full_at (at_step script (suc n)) 0))
      each c lt =
          let client : ClientId = record { number = c } in
          let home = home_is (t n) (run n) one some c lt in
          let goes = (wastes_nothing n none).stamps client home in
          let goes_on = (wastes_nothing (suc n) later).stamps client home in
          let next_is = (wastes_nothing n none).expected_is client home in
          let now = stamps_said c (full_at (t (suc n)) 0) in
          let before = stamps_said c (full_at (t n) 0) in
          elim (cases_lt (count_of c script.requests) (expected (state_at (t n) 0).local c)) [
            | inl done ↦ elim (cases_lt 0 (length before)) [
              | inr none_yet ↦ omega (arith, done, next_is, none_yet)
              | inl lives ↦ (let last = go_last 1 (length before) before goes (omega (arith, lives)) (omega arith) in
                  let there = stamps_among c (length before) (requests_said (full_at (t n) 0)) (requests_said (full_at (t (suc n)) 0)) (λ x h. among x (inl h)) last in
                  omega (arith, done, next_is, go_below 1 now (length before) goes_on there))
            ]
            | inr left ↦ (let quiet = still_prefix script n limits still in
                let last = last_eligible (t n) (run n) none.1 one some quiet (unspent n none filled) (clean_prefix script n limits none.0) c lt left in
                let there = stamps_among c (count_of c script.requests) (eligible (state_at (t n) 0).local) (requests_said (full_at (t (suc n)) 0)) (λ x h. among x (inr h)) last in
                omega (arith, go_below 1 now (count_of c script.requests) goes_on there))
          ]

  filled_step : (n : ℕ) → IsClear script n → IsClear script (suc n) → AreFilled script (proposals_said (full_at (at_step script n) 0))
      → AreFilled script (proposals_said (full_at (at_step script (suc n)) 0))
  filled_step n none later filled = elim (stepped n later.1) [
    | inl same_batches ↦ subst (AreFilled script) (sym (batches_are (suc n) ∙ (same_batches ∙ sym (batches_are n)))) filled
    | inr h ↦ (let l : Local = (state primary (journal n)).local in
        let grown : batches (suc n) ≡ batches n ++ take script.batch (eligible (state primary (journal n)).local) ∷ [] =
        batches_are (suc n) ∙ (h.one_more ∙ ap (λ bs. bs ++ take script.batch (eligible (state primary (journal n)).local) ∷ []) (sym (batches_are n))) in
        by grown h.full)
  ]
    where
      full_batch : proposals_said (full_at (at_step script (suc n)) 0)
          ≡ proposals_said (full_at (at_step script n) 0) ++ take script.batch (eligible (state (maker_of script (member 0)) (journal n)).local) ∷ []
          → script.batch ≤ length (eligible (state (maker_of script (member 0)) (journal n)).local) → AreFilled script (proposals_said (full_at (at_step script (suc n)) 0))
      full_batch grown enough =
          filled_full script (batches n) (batches (suc n)) (take script.batch (eligible (state primary (journal n)).local)) grown
          (length-take-le script.batch (eligible (state primary (journal n)).local) enough) (few (suc n) later) (some_batch script limits) filled

      by : proposals_said (full_at (at_step script (suc n)) 0)
          ≡ proposals_said (full_at (at_step script n) 0) ++ take script.batch (eligible (state (maker_of script (member 0)) (journal n)).local) ∷ []
          → (script.batch ≤ length (eligible (state (maker_of script (member 0)) (journal n)).local))
          ⊎ (AreStill (script_rules script) (after (script_rules script) n) × (1 ≤ length (eligible (state (maker_of script (member 0)) (journal n)).local)))
          → AreFilled script (proposals_said (full_at (at_step script (suc n)) 0))
      by grown (inl enough) = full_batch grown enough
      by grown (inr h) = elim (cases_lt (length (eligible (state primary (journal n)).local)) script.batch) [
        | inr enough ↦ full_batch grown enough
        | inl short ↦ (let whole = take_all script.batch (eligible (state primary (journal n)).local) (omega (arith, short)) in
            let all_of : batches (suc n) ≡ batches n ++ eligible (state primary (journal n)).local ∷ [] = grown ∙ ap (λ b. batches n ++ b ∷ []) whole in
            let here : batches (suc n) ≡ batches n ++ eligible (state_at (t n) 0).local ∷ [] = all_of ∙ ap (λ s. batches n ++ eligible s.local ∷ []) (sym (state_is n)) in
            filled_last script (batches n) (batches (suc n)) (eligible (state primary (journal n)).local) all_of h.1 (few (suc n) later)
            (proposes_all n none later filled h.0 here) filled)
      ]

  -- so nobody times out: before the primary opens too many slots no key is used up
  filled_at : (n : ℕ) → NoClash (world_of (at_step script n)) → (HasTimedOut (at_step script n) → ⊥) × AreFilled script (proposals_said (full_at (at_step script n) 0))
  filled_at zero none = (
    untimed_told script 0 (start_untimed (script_rules script)),
    subst (AreFilled script) (sym (batches_are 0 ∙ none_yet primary)) (inl (omega (arith, zero-mul script.batch))),
  )
  filled_at (suc n) later = by (filled_at n before)
    where
      before : NoClash (world_of (at_step script n))
      before = no_clash_before script n 1 limits (subst (λ k. NoClash (world_of (at_step script k))) (let e : suc n ≡ n + 1 = omega arith in e) later)

      by : (HasTimedOut (at_step script n) → ⊥) × AreFilled script (proposals_said (full_at (at_step script n) 0))
          → (HasTimedOut (at_step script (suc n)) → ⊥) × AreFilled script (proposals_said (full_at (at_step script (suc n)) 0))
      by h =
          let clear : IsClear script n = (before, h.0) in
          let untimed = timely_step script limits one lines n h.0 (unspent n clear h.1) before in
          (untimed, filled_step n clear (later, untimed) h.1)

  pub untimed_at : (n : ℕ) → NoClash (world_of (at_step script n)) → HasTimedOut (at_step script n) → ⊥
  untimed_at n none = (filled_at n none).0

  -- so the primary opens no more slots than there are rounds
  pub rounds_few : (n : ℕ) → NoClash (world_of (at_step script n)) → length (slots_opened (at_step script n)) ≤ rounds_of script
  rounds_few n none = let h = filled_at n none in opened_few n (none, h.0) h.1
