-- What a script declares, as it grows.
use Rattle.std.proofs.Common.{◌≡◌, ℕ, ◌+◌, ◌-◌, ◌<◌, ◌≤◌, Bool, true, ◌&&◌, nat_lt, nat_le, List, [], ◌∷◌, ◌++◌, length, sum, slice_index, refl, sym, subst, ◌∙◌, arith, length-append}
use Rattle.std.specs.List.{list_all}
use Rattle.std.proofs.lemmas.List.Folds.{list_all-append}
use Rattle.std.proofs.lemmas.List.{get_or_append_left}
use Rattle.fab_base.specs.declared.limits.TheConstants.{MOST_MEMBERS, MOST_REPLICAS, MOST_CLIENTS, MOST_STAMPS}
use Rattle.fab_base.specs.declared.requests.Op.{Op}
use Rattle.fab_base.specs.Fields.{op_fits}
use Rattle.fab_base.proofs.Tests.{and_left, and_right, and_both, below, is_below, at_most, is_at_most}
use Rattle.fault_script.specs.declared.scripts.TheConstants.{MOST_TIMEOUTS}
use Rattle.fault_script.specs.declared.scripts.Wish.{Wish}
use Rattle.fault_script.specs.declared.settings.TheConstants.{MOST_TURNS}
use Rattle.fault_script.specs.declared.twists.TimeoutLine.{TimeoutLine}
use Rattle.fault_script.specs.Drafts.{is_declared}
use Rattle.fault_script.specs.Fields.{is_within}
use Rattle.fault_script.specs.Scripts.{are_sizes, are_homes, is_wish, is_timeout, are_timeouts}

-- where each that passes one test passes another, all pass the other
module _ {X : Type 0} (p q : X → Bool) where
  all_pass : ((x : X) → p x ≡ true → q x ≡ true) → (xs : List X) → list_all p xs ≡ true → list_all q xs ≡ true
  all_pass each [] h = refl
  all_pass each (x ∷ xs) h =
      and_both (q x) (list_all q xs)
      (each x (and_left (p x) (list_all p xs) h))
      (all_pass each xs (and_right (p x) (list_all p xs) h))

-- one more
pub all_and_one : {X : Type 0} (p : X → Bool) (xs : List X) (x : X) → list_all p xs ≡ true → p x ≡ true → list_all p (xs ++ x ∷ []) ≡ true
all_and_one p xs x h here = list_all-append p xs (x ∷ []) ∙ and_both (list_all p xs) (p x && true) h (and_both (p x) true here refl)

-- a request fits where its parts do
pub wish_fits : (n client stamp : ℕ) (op : Op) → client < n → 1 ≤ stamp → stamp ≤ MOST_STAMPS → op_fits op ≡ true
    → is_wish n (record { client = record { number = client }; stamp = stamp; op = op }) ≡ true
wish_fits n client stamp op declared low high fits =
    and_both (nat_lt client n) (is_within 1 MOST_STAMPS stamp && op_fits op)
    (is_below client n declared)
    (and_both (is_within 1 MOST_STAMPS stamp) (op_fits op)
    (and_both (nat_le 1 stamp) (nat_le stamp MOST_STAMPS) (is_at_most 1 stamp low) (is_at_most stamp MOST_STAMPS high))
    fits)

-- a request of one of n clients is one of n + 1
is_wish_more : (n : ℕ) (wish : Wish) → is_wish n wish ≡ true → is_wish (n + 1) wish ≡ true
is_wish_more n wish h =
    let number = wish.client.number in
    let fits = is_within 1 MOST_STAMPS wish.stamp && op_fits wish.op in
    let here : nat_lt number (n + 1) ≡ true = is_below number (n + 1) (omega (arith, below number n (and_left (nat_lt number n) fits h))) in
    and_both (nat_lt number (n + 1)) fits here (and_right (nat_lt number n) fits h)

pub wishes_more : (n : ℕ) (wishes : List Wish) → list_all (is_wish n) wishes ≡ true → list_all (is_wish (n + 1)) wishes ≡ true
wishes_more n wishes h = all_pass (is_wish n) (is_wish (n + 1)) (is_wish_more n) wishes h

-- one of n clusters is one of n + 1
is_home_more : (n home : ℕ) → is_within 1 n home ≡ true → is_within 1 (n + 1) home ≡ true
is_home_more n home h =
    and_both (nat_le 1 home) (nat_le home (n + 1))
    (and_left (nat_le 1 home) (nat_le home n) h)
    (is_at_most home (n + 1) (omega (arith, at_most home n (and_right (nat_le 1 home) (nat_le home n) h))))

pub homes_more : (n : ℕ) (homes : List ℕ) → list_all (is_within 1 n) homes ≡ true → list_all (is_within 1 (n + 1)) homes ≡ true
homes_more n homes h = all_pass (is_within 1 n) (is_within 1 (n + 1)) (is_home_more n) homes h

-- the first cluster
pub sizes_and_one : (sizes : List ℕ) (size : ℕ) → length sizes ≡ 0 → is_within 1 MOST_MEMBERS size ≡ true → are_sizes (sizes ++ size ∷ []) ≡ true
sizes_and_one [] size none here =
    let few : sum (size ∷ []) ≤ MOST_REPLICAS = omega (arith, at_most size MOST_MEMBERS (and_right (nat_le 1 size) (nat_le size MOST_MEMBERS) here)) in
    and_both (is_within 1 MOST_MEMBERS size && true) (nat_le (sum (size ∷ [])) MOST_REPLICAS)
    (and_both (is_within 1 MOST_MEMBERS size) true here refl)
    (is_at_most (sum (size ∷ [])) MOST_REPLICAS few)
sizes_and_one (first ∷ sizes) size none here = absurd (omega (arith, none))

pub homes_after_one : (sizes homes : List ℕ) (size : ℕ) → are_homes (length sizes) homes ≡ true → are_homes (length (sizes ++ size ∷ [])) homes ≡ true
homes_after_one sizes homes size h =
    let few = nat_le (length homes) MOST_CLIENTS in
    rw (length-append sizes (size ∷ []))
    (and_both few (list_all (is_within 1 (length sizes + 1)) homes)
    (and_left few (list_all (is_within 1 (length sizes)) homes) h)
    (homes_more (length sizes) homes (and_right few (list_all (is_within 1 (length sizes)) homes) h)))

-- one client more
pub homes_and_one : (clusters : ℕ) (homes : List ℕ) (home : ℕ) → length homes < MOST_CLIENTS → are_homes clusters homes ≡ true → is_within 1 clusters home ≡ true
    → are_homes clusters (homes ++ home ∷ []) ≡ true
homes_and_one clusters homes home room h here =
    let more = homes ++ home ∷ [] in
    let few : length more ≤ MOST_CLIENTS = omega (arith, room, length-append homes (home ∷ [])) in
    and_both (nat_le (length more) MOST_CLIENTS) (list_all (is_within 1 clusters) more)
    (is_at_most (length more) MOST_CLIENTS few)
    (all_and_one (is_within 1 clusters) homes home (and_right (nat_le (length homes) MOST_CLIENTS) (list_all (is_within 1 clusters) homes) h) here)

-- ---- timeouts

-- a replica of some clusters is one of these and one more
is_timeout_more : (sizes : List ℕ) (size : ℕ) (line : TimeoutLine) → is_timeout sizes line ≡ true → is_timeout (sizes ++ size ∷ []) line ≡ true
is_timeout_more sizes size line h =
    let more = sizes ++ size ∷ [] in
    let cluster = line.replica.cluster in
    let index = line.replica.index in
    let soon = nat_le line.entries MOST_TURNS in
    let inside = nat_lt index (slice_index sizes (cluster - 1)) in
    let is : is_declared sizes line.replica ≡ true = and_left (is_declared sizes line.replica) soon h in
    let there = and_left (nat_le 1 cluster && nat_le cluster (length sizes)) inside is in
    let low = and_left (nat_le 1 cluster) (nat_le cluster (length sizes)) there in
    let from : 1 ≤ cluster = at_most 1 cluster low in
    let upto : cluster ≤ length sizes = at_most cluster (length sizes) (and_right (nat_le 1 cluster) (nat_le cluster (length sizes)) there) in
    let same : slice_index more (cluster - 1) ≡ slice_index sizes (cluster - 1) =
    get_or_append_left sizes (size ∷ []) 0 (cluster - 1) (omega (arith, from, upto)) in
    let high : nat_le cluster (length more) ≡ true = is_at_most cluster (length more) (omega (arith, upto, length-append sizes (size ∷ []))) in
    and_both (is_declared more line.replica) soon
    (and_both (nat_le 1 cluster && nat_le cluster (length more)) (nat_lt index (slice_index more (cluster - 1)))
    (and_both (nat_le 1 cluster) (nat_le cluster (length more)) low high)
    (subst (λ n. nat_lt index n ≡ true) (sym same) (and_right (nat_le 1 cluster && nat_le cluster (length sizes)) inside is)))
    (and_right (is_declared sizes line.replica) soon h)

pub timeouts_after_one : (sizes : List ℕ) (size : ℕ) (timeouts : List TimeoutLine) → are_timeouts sizes timeouts ≡ true
    → are_timeouts (sizes ++ size ∷ []) timeouts ≡ true
timeouts_after_one sizes size timeouts h =
    let few = nat_le (length timeouts) MOST_TIMEOUTS in
    and_both few (list_all (is_timeout (sizes ++ size ∷ [])) timeouts)
    (and_left few (list_all (is_timeout sizes) timeouts) h)
    (all_pass (is_timeout sizes) (is_timeout (sizes ++ size ∷ [])) (is_timeout_more sizes size) timeouts (and_right few (list_all (is_timeout sizes) timeouts) h))

-- one timeout more
pub timeouts_and_one : (sizes : List ℕ) (timeouts : List TimeoutLine) (line : TimeoutLine) → length timeouts < MOST_TIMEOUTS
    → are_timeouts sizes timeouts ≡ true → is_declared sizes line.replica ≡ true → line.entries ≤ MOST_TURNS → are_timeouts sizes (timeouts ++ line ∷ []) ≡ true
timeouts_and_one sizes timeouts line room h there soon =
    let more = timeouts ++ line ∷ [] in
    let few : length more ≤ MOST_TIMEOUTS = omega (arith, room, length-append timeouts (line ∷ [])) in
    and_both (nat_le (length more) MOST_TIMEOUTS) (list_all (is_timeout sizes) more)
    (is_at_most (length more) MOST_TIMEOUTS few)
    (all_and_one (is_timeout sizes) timeouts line (and_right (nat_le (length timeouts) MOST_TIMEOUTS) (list_all (is_timeout sizes) timeouts) h)
    (and_both (is_declared sizes line.replica) (nat_le line.entries MOST_TURNS) there (is_at_most line.entries MOST_TURNS soon)))
