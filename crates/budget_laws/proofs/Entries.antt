-- How many entries all journals of a run of one cluster have: each hearing is of a copy that was put, and a replica puts one copy at most of an
-- item to each.
use Rattle.std.proofs.Common.{◌≡◌, ℕ, zero, suc, ◌+◌, ◌*◌, ◌-◌, ◌<◌, ◌≤◌, Bool, true, false, cond, ◌&&◌, nat_le, List, [], ◌∷◌, ◌++◌, length, map, Option, None, inl, inr, refl, sym, ap, subst, ◌∙◌, append_assoc, append-nil, zero-add, arith, sum_by}
use Rattle.std.specs.Prelude.{IsTrue, slice_index}
use Rattle.std.specs.List.{range_with_len}
use Rattle.std.proofs.Math.Nat.{mul_comm, mul-add, suc-mul}
use Rattle.std.proofs.lemmas.List.FromFn.{length-map-range_with_len}
use Rattle.std.proofs.lemmas.List.Sums.{sum_by-append, sum_by-cons}
use Rattle.fab_base.specs.Limits.{IsWithinLimits}
use Rattle.fab_base.specs.Roster.{is_replica, is_cluster, size_of}
use Rattle.fab_base.specs.declared.ids.ReplicaId.{ReplicaId}
use Rattle.fab_base.specs.declared.answers.Item.{Item}
use Rattle.fab_base.proofs.Tests.{and_left, and_right, below, at_most}
use Rattle.fab_rules.specs.Lists.{In, first_of}
use Rattle.fault_script.specs.declared.scripts.Script.{Script}
use Rattle.fault_script.specs.declared.scripts.Wish.{Wish}
use Rattle.heed_laws.specs.Heeding.{IsOutgoing}
use Rattle.heed_laws.specs.Resting.{member}
use Rattle.run_words.specs.Keyed.{is_same, of}
use Rattle.run_words.specs.Journal.{Maker, Walk, state, walk, null_beside, copies, added, parcels_of, signed_of, item_by, next_item, IsNext, IsMadeFrom, IsMade as IsReplayed, AreSound}
use Rattle.run_words.specs.Lawful.{AreEach, Kept, Test, IsDelivered, pending_counted, heard_once, heard_counted, parcels_counted}
use Rattle.run_words.specs.declared.logs.Entry.{Entry}
use Rattle.run_words.specs.declared.logs.Parcel.{Parcel}
use Rattle.run_words.specs.declared.logs.Pending.{Pending}
use Rattle.run_words.specs.declared.logs.Trace.{Trace}
use Rattle.run_words.specs.declared.logs.Transcript.{Transcript}
use Rattle.run_words.proofs.Keys.{same_is, same_self, other_turned, of-append}
use Rattle.run_words.proofs.Walks.{parcels_more, made_more, sound_more}
use Rattle.script_keys.specs.Keys.{members_of, replicas_from, replicas_of}
use Rattle.script_keys.specs.Requests.{request_of, pending_of, receivers_of, copies_to}
use Rattle.script_keys.specs.Requests as asking
use Rattle.run_worlds.specs.Scripts.{roster_of, maker_of, script_rules}
use Rattle.run_worlds.specs.Endings.{IsRunOf}
use Rattle.run_worlds.proofs.ScriptLimits.{within_limits}
use Rattle.audit_laws.proofs.Members.{AreDistinct, apart_if, replicas_are_distinct, takes_part}
use Rattle.plain_laws.specs.Plain.{journal_by, HasTimedOut}
use Rattle.plain_laws.proofs.Members.{journal_heedful}
use Rattle.plain_laws.proofs.Plainness.{ArePlainEntries, run_plain}
use Rattle.run_worlds.proofs.Untroubled.{none_faulty, no_losses}
use Rattle.run_words.specs.Twists.{Copy, is_proposal, copy_as, copies_from, passes, shares_of, parcel_of, put}
use Rattle.fault_script.specs.declared.twists.Fault.{Fault}
use Rattle.fault_script.specs.declared.twists.Loss.{Loss}
use Rattle.fab_base.specs.declared.messages.Message.{Message}
use Rattle.fab_rules.proofs.Lists.{in_append_left}
use Rattle.budget_laws.specs.Opened.{slots_opened, number_moved, is_sending, number_sent, EntriesLaw}
use Rattle.budget_laws.proofs.Voicing.{moves_few, sendings_few}

-- every copy counts
abbrev always : Test
always = λ origin load. true

-- ---- a journal has moves, sendings and hearings

parts : (journal : List Entry) → length journal ≡ number_moved journal + number_sent journal + heard_counted always journal
parts [] = refl
parts (Entry.Heard origin x ∷ rest) = omega (arith, parts rest, sum_by-cons (λ e. heard_once always e) (Entry.Heard origin x) rest)
parts (Entry.Sent item ∷ rest) = omega (arith, parts rest, sum_by-cons (λ e. heard_once always e) (Entry.Sent item) rest)
parts (Entry.Proposed ∷ rest) = omega (arith, parts rest, sum_by-cons (λ e. heard_once always e) Entry.Proposed rest)
parts (Entry.Nudged ∷ rest) = omega (arith, parts rest, sum_by-cons (λ e. heard_once always e) Entry.Nudged rest)
parts (Entry.Executed ∷ rest) = omega (arith, parts rest, sum_by-cons (λ e. heard_once always e) Entry.Executed rest)
parts (Entry.TimedOut ∷ rest) = omega (arith, parts rest, sum_by-cons (λ e. heard_once always e) Entry.TimedOut rest)
parts (Entry.Marked ∷ rest) = omega (arith, parts rest, sum_by-cons (λ e. heard_once always e) Entry.Marked rest)

-- ---- how often a replica stands among receivers

abbrev is_to : ReplicaId → ReplicaId → ℕ
is_to to i = cond (is_same to i && true) 1 0

-- how often a parcel passes to it
abbrev passing : ReplicaId → Parcel → ℕ
passing to q = cond (is_same to q.to && true) q.passes 0

abbrev times : ReplicaId → List ReplicaId → ℕ
times to ids = sum_by (λ i. is_to to i) ids

abbrev member_in : ℕ → ℕ → ReplicaId
member_in cluster index = record { cluster = cluster; index = index }

-- the test decides whether it counts
is_to_by : (to i : ReplicaId) (b : Bool) → is_same to i ≡ b → is_to to i ≡ cond (b && true) 1 0
is_to_by to i b e = ap (λ x. cond (x && true) 1 0) e

-- it isn't among later members
none_later : (to : ReplicaId) (cluster a n : ℕ) → to.index < a → times to (map (member_in cluster) (range_with_len a n)) ≡ 0
none_later to cluster a zero l = refl
none_later to cluster a (suc n) l =
    let other : (to ≡ member_in cluster a) → ⊥ = λ e. (let same : to.index ≡ a = ap (λ (i : ReplicaId). i.index) e in omega (arith, same, l)) in
    let here : is_to to (member_in cluster a) ≡ 0 = is_to_by to (member_in cluster a) false (apart_if to (member_in cluster a) other) in
    omega (
      arith,
      here,
      none_later to cluster (a + 1) n (omega (arith, l)),
      sum_by-cons (λ i. is_to to i) (member_in cluster a) (map (member_in cluster) (range_with_len (a + 1) n)),
    )

-- a cluster has each member once
once : (to : ReplicaId) (cluster a n : ℕ) → times to (map (member_in cluster) (range_with_len a n)) ≤ 1
once to cluster a zero = omega arith
once to cluster a (suc n) = go (once to cluster (a + 1) n) (is_same to (member_in cluster a)) refl
  where
    one : times to (member_in cluster a ∷ map (member_in cluster) (range_with_len (a + 1) n))
        ≡ is_to to (member_in cluster a) + times to (map (member_in cluster) (range_with_len (a + 1) n))
    one = sum_by-cons (λ i. is_to to i) (member_in cluster a) (map (member_in cluster) (range_with_len (a + 1) n))

    go : times to (map (member_in cluster) (range_with_len (a + 1) n)) ≤ 1 → (b : Bool) → is_same to (member_in cluster a) ≡ b
        → times to (member_in cluster a ∷ map (member_in cluster) (range_with_len (a + 1) n)) ≤ 1
    go later true e =
        let here : is_to to (member_in cluster a) ≡ 1 = is_to_by to (member_in cluster a) true e in
        let index : to.index ≡ a = ap (λ (i : ReplicaId). i.index) (same_is to (member_in cluster a) e) in
        omega (arith, one, here, none_later to cluster (a + 1) n (omega (arith, index)))
    go later false e =
        let here : is_to to (member_in cluster a) ≡ 0 = is_to_by to (member_in cluster a) false e in
        omega (arith, one, here, later)

-- ---- the parcels of a journal to a replica

-- where nothing is lost or repeated each copy passes once
passes_once : (from to : ReplicaId) (share : Bool) (a b : ℕ) → passes [] from to share a b ≡ 1
unfolding passes
passes_once from to share a b = refl

-- an item has a parcel for each receiver
put_times : (to from me : ReplicaId) (time : ℕ) (earlier : List Parcel) (shares : List ReplicaId) (proposal : Bool) (beside : Option Message) (x : Message)
    (receivers : List ReplicaId) → parcels_counted always to from (put me [] None time earlier shares (copies_from None proposal beside x receivers)) ≡ times to receivers
put_times to from me time earlier shares proposal beside x [] = refl
put_times to from me time earlier shares proposal beside x (r ∷ rest) =
    let c : Copy = copy_as x r x in
    let p : Parcel = parcel_of me [] None time earlier shares c in
    let later : List Parcel = put me [] None time (earlier ++ p ∷ []) (shares ++ shares_of (c ∷ [])) (copies_from None proposal beside x rest) in
    sum_by-cons (λ (q : Parcel). passing to q) p later
    ∙ (ap (λ k. cond (is_same to r && true) k 0 + parcels_counted always to from later) (passes_once me r c.share _ _)
    ∙ (ap (λ k. is_to to r + k) (put_times to from me time (earlier ++ p ∷ []) (shares ++ shares_of (c ∷ [])) proposal beside x rest)
    ∙ sym (sum_by-cons (λ i. is_to to i) r rest)))

sent_times : (m : Maker) (w : Walk) (item : Item) (to : ReplicaId) → m.fault ≡ None → m.losses ≡ []
    → parcels_counted always to m.id (added m w (Entry.Sent item)) ≡ times to item.to
unfolding added copies
sent_times m w item to plain whole =
    let x = item.message in
    let proposal = is_proposal m.id x in
    let beside = null_beside m (length w.signed) x in
    subst (λ (f : Option Fault). parcels_counted always to m.id (put m.id m.losses f w.clock w.parcels w.shares (copies_from f proposal beside x item.to)) ≡ times to item.to) (sym plain)
    (subst (λ (l : List Loss). parcels_counted always to m.id (put m.id l None w.clock w.parcels w.shares (copies_from None proposal beside x item.to)) ≡ times to item.to) (sym whole)
    (put_times to m.id m.id w.clock w.parcels w.shares proposal beside x item.to))

-- what waits first goes to each once at most
item_once : (m : Maker) (k : ℕ) (to : ReplicaId) (waiting : List Item) → ((i : Item) → In i waiting → IsOutgoing m.roster m.id i)
    → times to (item_by m k (first_of waiting)).to ≤ 1
item_once m k to [] out = omega arith
item_once m k to (i ∷ rest) out = elim (out i (inl refl)).to [
  | inl all ↦ subst (λ ids. times to ids ≤ 1) (sym all) (once to m.id.cluster 0 (size_of m.roster m.id.cluster))
  | inr note ↦ subst (λ ids. times to ids ≤ 1) (sym note.1) (omega arith)
]

module _ (m : Maker) (limits : IsWithinLimits m.roster) (one : length m.roster.sizes ≡ 1) (known : IsTrue (is_replica m.roster m.id))
    (fault : m.fault ≡ None) (losses : m.losses ≡ []) (to : ReplicaId) where
  abbrev counted : List Parcel → ℕ
  counted parcels = parcels_counted always to m.id parcels

  -- an entry puts one parcel to it at most, and only where it is a sending
  added_few : (earlier : List Entry) (e : Entry) → IsReplayed m earlier → AreSound m earlier → ArePlainEntries earlier → IsNext m earlier e
      → counted (added m (walk m earlier) e) ≤ is_sending e
  unfolding added copies next_item
  added_few earlier (Entry.Sent item) made sound plain next =
      let few = item_once m (length (signed_of m earlier)) to (state m earlier).outbox (journal_heedful m earlier limits one known made sound plain).are.outgoing in
      let once : times to item.to ≤ 1 = subst (λ (i : Item). times to i.to ≤ 1) (sym next.1) few in
      subst (λ k. k ≤ 1) (sym (sent_times m (walk m earlier) item to fault losses)) once
  added_few earlier (Entry.Heard origin x) made sound plain next = omega arith
  added_few earlier Entry.Proposed made sound plain next = omega arith
  added_few earlier Entry.Nudged made sound plain next = omega arith
  added_few earlier Entry.Executed made sound plain next = omega arith
  added_few earlier Entry.Marked made sound plain next = omega arith
  added_few earlier Entry.TimedOut made sound plain next = omega arith

  counted_both : (a b : List Parcel) → counted (a ++ b) ≡ counted a + counted b
  counted_both a b = sum_by-append (λ (q : Parcel). passing to q) a b

  -- along the journal
  few_from : (earlier rest : List Entry) → IsReplayed m earlier → AreSound m earlier → IsMadeFrom m earlier rest → AreSound m rest → ArePlainEntries (earlier ++ rest)
      → counted (parcels_of m (earlier ++ rest)) ≤ counted (parcels_of m earlier) + number_sent rest
  few_from earlier [] made sound next heard plain = omega (arith, ap (λ j. counted (parcels_of m j)) (append-nil earlier))
  few_from earlier (e ∷ rest) made sound next heard plain =
      let later = few_from (earlier ++ e ∷ []) rest (made_more m earlier e made next.0) (sound_more m earlier e sound heard.0) next.1 heard.1
      (subst (λ j. ArePlainEntries j) (sym (append_assoc earlier (e ∷ []) rest)) plain) in
      let joined = ap (λ j. counted (parcels_of m j)) (append_assoc earlier (e ∷ []) rest) in
      let more = ap counted (parcels_more m earlier e) ∙ counted_both (parcels_of m earlier) (added m (walk m earlier) e) in
      omega (arith, later, joined, more, added_few earlier e made sound (λ x i. plain x (in_append_left x earlier (e ∷ rest) i)) next.0)

  none_put : parcels_of m [] ≡ []
  unfolding walk
  none_put = refl

  -- they are no more than its sendings
  parcels_few : (journal : List Entry) → IsReplayed m journal → AreSound m journal → ArePlainEntries journal → counted (parcels_of m journal) ≤ number_sent journal
  parcels_few journal made sound plain =
      let none : counted (parcels_of m []) ≡ 0 = ap counted none_put in
      omega (arith, none, few_from [] journal tt tt made sound plain)

-- ---- the copies of requests to a replica

-- a request is on its way to a replica as often as that stands among the receivers
copies_times : (to : ReplicaId) (c : Pending) (ids : List ReplicaId) → pending_counted always (of to (copies_to c ids)) ≡ times to ids
copies_times to c [] = refl
copies_times to c (i ∷ rest) =
    go (is_same to i) ∙ (ap (λ k. is_to to i + k) (copies_times to c rest) ∙ sym (sum_by-cons (λ j. is_to to j) i rest))
  where
    go : (b : Bool) → pending_counted always (cond b (c ∷ of to (copies_to c rest)) (of to (copies_to c rest)))
        ≡ cond (b && true) 1 0 + pending_counted always (of to (copies_to c rest))
    go true = sum_by-cons (λ (x : Pending). cond (always x.origin x.load) 1 0) c (of to (copies_to c rest))
    go false = sym (zero-add (pending_counted always (of to (copies_to c rest))))

-- copies of a request more
one_more : (to : ReplicaId) (here later : List (ReplicaId × Pending)) (n : ℕ) → pending_counted always (of to here) ≤ 1
    → pending_counted always (of to later) ≤ n → pending_counted always (of to (here ++ later)) ≤ suc n
one_more to here later n a b =
    let split = ap (pending_counted always) (of-append to here later)
    ∙ sum_by-append (λ (x : Pending). cond (always x.origin x.load) 1 0) (of to here) (of to later) in
    omega (arith, split, a, b)

-- one of each request at most
requests_few : (script : Script) (to : ReplicaId) (k : ℕ) (wishes : List Wish)
    → pending_counted always (of to (asking.copies_from script k (map (request_of script) wishes))) ≤ length wishes
requests_few script to k [] = omega arith
requests_few script to k (w ∷ wishes) =
    let r = request_of script w in
    let home = slice_index script.homes r.client.number in
    one_more to (copies_to (pending_of k r) (receivers_of script r)) (asking.copies_from script (k + 1) (map (request_of script) wishes)) (length wishes)
    (subst (λ n. n ≤ 1) (sym (copies_times to (pending_of k r) (receivers_of script r))) (once to home 0 (slice_index script.sizes (home - 1))))
    (requests_few script to (k + 1) wishes)

-- ---- the traces

-- a sum of parts that have so much at most
sum_few : {X : Type 0} (f : X → ℕ) (c : ℕ) (xs : List X) → ((x : X) → In x xs → f x ≤ c) → sum_by f xs ≤ length xs * c
sum_few f c [] h = omega arith
sum_few f c (x ∷ xs) h = omega (arith, sum_by-cons f x xs, h x (inl refl), sum_few f c xs (λ y i. h y (inr i)), suc-mul (length xs) c)

-- a trace is that of a replica: its journal, and what holds of it
record IsOf (P : Maker → Trace → Type 0) (script : Script) (ids : List ReplicaId) (traces : List Trace) (trace : Trace) : Type 0 where
  listed : In trace.id ids
  kept : Kept (maker_of script trace.id) trace
  fine : P (maker_of script trace.id) trace
  journal_is : journal_by trace.id traces ≡ trace.journal

-- each trace is
each_is : (P : Maker → Trace → Type 0) (script : Script) (ids : List ReplicaId) (traces : List Trace) → AreDistinct ids
    → AreEach Kept (map (maker_of script) ids) traces → AreEach P (map (maker_of script) ids) traces → (trace : Trace) → In trace traces
    → IsOf P script ids traces trace
each_is P script [] [] distinct kept each trace i = absurd i
each_is P script [] (t ∷ traces) distinct kept each trace i = absurd kept
each_is P script (j ∷ ids) [] distinct kept each trace i = absurd kept
each_is P script (j ∷ ids) (t ∷ traces) distinct kept each trace (inl e) =
    let named : j ≡ t.id = sym kept.0.named in
    let first : IsOf P script (j ∷ ids) (t ∷ traces) t = record {
      listed = inl named;
      kept = subst (λ k. Kept (maker_of script k) t) named kept.0;
      fine = subst (λ k. P (maker_of script k) t) named each.0;
      journal_is = ap (λ b. cond b t.journal (journal_by t.id traces)) (same_self t.id);
    } in
    subst (IsOf P script (j ∷ ids) (t ∷ traces)) e first
each_is P script (j ∷ ids) (t ∷ traces) distinct kept each trace (inr i) =
    let named : j ≡ t.id = sym kept.0.named in
    let later = each_is P script ids traces distinct.1 kept.1 each.1 trace i in
    let other : is_same trace.id t.id ≡ false =
    subst (λ k. is_same trace.id k ≡ false) named (other_turned j trace.id (distinct.0 trace.id later.listed)) in
    record {
      listed = inr later.listed;
      kept = later.kept;
      fine = later.fine;
      journal_is = ap (λ b. cond b t.journal (journal_by trace.id traces)) other ∙ later.journal_is;
    }

-- there is one for each replica
as_many : (script : Script) (ids : List ReplicaId) (traces : List Trace) → AreEach Kept (map (maker_of script) ids) traces → length traces ≡ length ids
as_many script [] [] kept = refl
as_many script [] (t ∷ traces) kept = absurd kept
as_many script (j ∷ ids) [] kept = absurd kept
as_many script (j ∷ ids) (t ∷ traces) kept = ap (λ n. suc n) (as_many script ids traces kept.1)

-- the members of one cluster
members_many : (sizes : List ℕ) → length sizes ≡ 1 → length (replicas_from 1 sizes) ≡ slice_index sizes 0
members_many [] one = absurd (omega (arith, one))
members_many (n ∷ []) one = ap length (append-nil (members_of 1 n)) ∙ length-map-range_with_len (member_in 1) 0 n
members_many (n ∷ k ∷ sizes) one = absurd (omega (arith, one))

-- the product written out
sum_of : (n a b c : ℕ) → n * (a + (b + c)) ≡ a * n + c * n + n * b
sum_of n a b c = omega (arith, mul-add n a (b + c), mul-add n b c, mul_comm n a, mul_comm n c)

written_out : (n opened requests : ℕ)
    → n * (11 * opened + (requests + n * (5 * opened))) ≡ 11 * opened * n + 5 * opened * n * n + n * requests
written_out n opened requests =
    sum_of n (11 * opened) requests (n * (5 * opened)) ∙ ap (λ k. 11 * opened * n + k * n + n * requests) (mul_comm n (5 * opened))

module _ (t : Transcript) (run : IsRunOf t.script t) (untimed : HasTimedOut t → ⊥) (one : length t.script.sizes ≡ 1) where
  abbrev opened : ℕ
  opened = length (slots_opened t)

  abbrev requests : ℕ
  requests = length t.script.requests

  abbrev IsHere : Trace → Type 0
  IsHere trace = IsOf (IsDelivered (script_rules t.script) t.traces) t.script (replicas_of t.script) t.traces trace

  here : (trace : Trace) → In trace t.traces → IsHere trace
  here trace there =
      each_is (IsDelivered (script_rules t.script) t.traces) t.script (replicas_of t.script) t.traces (replicas_are_distinct t.script) run.lawful.kept
      run.lawful.delivered trace there

  -- what holds of the journal of each member holds of the trace's
  of_member : (count : List Entry → ℕ) (most : ℕ) → ((k : ℕ) → k < size_of (roster_of t.script) 1 → count (journal_by (member k) t.traces) ≤ most)
      → (trace : Trace) → In trace t.traces → count trace.journal ≤ most
  of_member count most each trace there =
      let own = here trace there in
      let part = takes_part t.script trace.id own.listed in
      let cluster = and_left (is_cluster (roster_of t.script) trace.id.cluster) _ part in
      let from = at_most 1 trace.id.cluster (and_left (nat_le 1 trace.id.cluster) _ cluster) in
      let upto = at_most trace.id.cluster (length t.script.sizes) (and_right (nat_le 1 trace.id.cluster) _ cluster) in
      let only : trace.id.cluster ≡ 1 = omega (arith, from, upto, one) in
      let named : member trace.id.index ≡ trace.id = ap (λ c. let i : ReplicaId = record { cluster = c; index = trace.id.index } in i) (sym only) in
      let within = subst (λ c. trace.id.index < size_of (roster_of t.script) c) only
      (below trace.id.index (size_of (roster_of t.script) trace.id.cluster) (and_right (is_cluster (roster_of t.script) trace.id.cluster) _ part)) in
      subst (λ j. count j ≤ most) (ap (λ i. journal_by i t.traces) named ∙ own.journal_is) (each trace.id.index within)

  -- so each made six moves and five sendings at most for each of these slots
  moved_few : (trace : Trace) → In trace t.traces → number_moved trace.journal ≤ 6 * opened
  moved_few trace there = of_member number_moved (6 * opened) (moves_few t one run untimed) trace there

  sent_few : (trace : Trace) → In trace t.traces → number_sent trace.journal ≤ 5 * opened
  sent_few trace there = of_member number_sent (5 * opened) (sendings_few t one run untimed) trace there

  -- each put five times as many parcels to a replica at most as the primary opened slots
  put_few : (to : ReplicaId) (trace : Trace) → In trace t.traces → parcels_counted always to trace.id trace.parcels ≤ 5 * opened
  put_few to trace there =
      let own = here trace there in
      let few = parcels_few (maker_of t.script trace.id) (within_limits t.script run.limits) one (takes_part t.script trace.id own.listed)
      (none_faulty t.script trace.id) (no_losses t.script) to trace.journal own.kept.replays own.kept.sound (run_plain t run untimed one trace there) in
      omega (arith, few, ap (parcels_counted always to trace.id) own.kept.parcels, sent_few trace there)

  -- and heard no more than was put to it
  heard_few : (trace : Trace) → In trace t.traces → heard_counted always trace.journal ≤ requests + length t.traces * (5 * opened)
  heard_few trace there =
      omega (
        arith,
        (here trace there).fine always,
        requests_few t.script trace.id 0 t.script.requests,
        sum_few (λ (x : Trace). parcels_counted always trace.id x.id x.parcels) (5 * opened) t.traces (put_few trace.id),
      )

  entries_few : (trace : Trace) → In trace t.traces → length trace.journal ≤ 11 * opened + (requests + length t.traces * (5 * opened))
  entries_few trace there = omega (arith, parts trace.journal, moved_few trace there, sent_few trace there, heard_few trace there)

  traces_many : length t.traces ≡ size_of (roster_of t.script) 1
  traces_many = as_many t.script (replicas_of t.script) t.traces run.lawful.kept ∙ members_many t.script.sizes one

pub few_entries : EntriesLaw
few_entries t one run untimed =
    let opened = length (slots_opened t) in
    let requests = length t.script.requests in
    let all = sum_few (λ (x : Trace). length x.journal) (11 * opened + (requests + length t.traces * (5 * opened))) t.traces (entries_few t run untimed one) in
    subst (λ n. sum_by (λ (x : Trace). length x.journal) t.traces ≤ 11 * opened * n + 5 * opened * n * n + n * requests) (traces_many t run untimed one)
    (subst (λ k. sum_by (λ (x : Trace). length x.journal) t.traces ≤ k) (written_out (length t.traces) opened requests) all)
