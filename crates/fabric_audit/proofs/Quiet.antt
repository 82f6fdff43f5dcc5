-- All that was put is taken at each replica exactly where as many copies were taken in all as were put.
use Rattle.std.proofs.Common.{◌≡◌, ℕ, ◌+◌, ◌≤◌, Bool, true, false, cond, not, ◌&&◌, List, [], ◌∷◌, length, sum_by, count_by, Option, Some, None, refl, sym, ap, ◌∙◌, arith}
use Rattle.std.proofs.lemmas.List.Sums.{sum_by-cons}
use Rattle.fab_base.specs.Roster.{is_replica}
use Rattle.fab_base.specs.declared.ids.ReplicaId.{ReplicaId}
use Rattle.fab_rules.specs.Spelling.{spelling_of}
use Rattle.fault_script.specs.declared.scripts.Script.{Script}
use Rattle.fault_script.specs.Scripts.{keeps_limits}
use Rattle.run_words.specs.Keyed.{is_same, of}
use Rattle.run_words.specs.Journal.{Maker}
use Rattle.run_words.specs.Runs.{Rules}
use Rattle.run_words.specs.Lawful.{AreEach, Test, pending_counted, heard_once, heard_counted, parcels_counted, put_counted, parcel_named, named_counted, refused_counted, used_counted, AreRefused, IsDelivered, IsAllHeard}
use Rattle.run_words.specs.declared.logs.Origin.{Origin}
use Rattle.run_words.specs.declared.logs.Entry.{Entry}
use Rattle.run_words.specs.declared.logs.Parcel.{Parcel}
use Rattle.run_words.specs.declared.logs.Pending.{Pending}
use Rattle.run_words.specs.declared.logs.Trace.{Trace}
use Rattle.run_words.specs.declared.logs.Turned.{Turned}
use Rattle.script_keys.specs.Keys.{replicas_of}
use Rattle.script_keys.specs.Requests.{copies_of}
use Rattle.run_worlds.specs.Scripts.{roster_of, maker_of, makers_of, script_rules}
use Rattle.fabric_audit.specs.Counts.{is_heard, taken_by, sent_by, copies_for, all_taken, all_put}
use Rattle.fabric_audit.proofs.Sums.{sum_same, sum_both, sum_ones, sum_map, sum_swap}
use Rattle.fabric_audit.proofs.Members.{once, named_once, sum_once}
use Rattle.fabric_audit.proofs.Copies.{copies_counted}

-- ---- replicas with their traces

pub each_both : (P Q R : Maker → Trace → Type 0) → ((m : Maker) (t : Trace) → P m t → Q m t → R m t) → (makers : List Maker) (traces : List Trace)
    → AreEach P makers traces → AreEach Q makers traces → AreEach R makers traces
each_both P Q R f [] [] p q = tt
each_both P Q R f [] (t ∷ traces) p q = absurd p
each_both P Q R f (m ∷ makers) [] p q = absurd p
each_both P Q R f (m ∷ makers) (t ∷ traces) p q = (f m t p.0 q.0, each_both P Q R f makers traces p.1 q.1)

pub each_as : (P Q : Maker → Trace → Type 0) → ((m : Maker) (t : Trace) → P m t → Q m t) → (makers : List Maker) (traces : List Trace)
    → AreEach P makers traces → AreEach Q makers traces
each_as P Q f makers traces p = each_both P P Q (λ m t a b. f m t a) makers traces p p

abbrev sum_each : (Maker → Trace → ℕ) → List Maker → List Trace → ℕ
sum_each f [] traces = 0
sum_each f (m ∷ makers) [] = 0
sum_each f (m ∷ makers) (t ∷ traces) = f m t + sum_each f makers traces

most_each : (f g : Maker → Trace → ℕ) (makers : List Maker) (traces : List Trace) → AreEach (λ m t. f m t ≤ g m t) makers traces
    → sum_each f makers traces ≤ sum_each g makers traces
most_each f g [] [] h = omega arith
most_each f g [] (t ∷ traces) h = absurd h
most_each f g (m ∷ makers) [] h = absurd h
most_each f g (m ∷ makers) (t ∷ traces) h =
    let here = h.0 in
    let rest = most_each f g makers traces h.1 in
    omega arith

-- where each is at most its match, equal sums have equal items
equal_each : (f g : Maker → Trace → ℕ) (makers : List Maker) (traces : List Trace) → AreEach (λ m t. f m t ≤ g m t) makers traces
    → sum_each f makers traces ≡ sum_each g makers traces → AreEach (λ m t. f m t ≡ g m t) makers traces
equal_each f g [] [] h e = tt
equal_each f g [] (t ∷ traces) h e = absurd h
equal_each f g (m ∷ makers) [] h e = absurd h
equal_each f g (m ∷ makers) (t ∷ traces) h e =
    let here = h.0 in
    let rest = most_each f g makers traces h.1 in
    (omega (arith, here, rest, e), equal_each f g makers traces h.1 (omega (arith, here, rest, e)))

same_each : (f g : Maker → Trace → ℕ) (makers : List Maker) (traces : List Trace) → AreEach (λ m t. f m t ≡ g m t) makers traces
    → sum_each f makers traces ≡ sum_each g makers traces
same_each f g [] [] h = refl
same_each f g [] (t ∷ traces) h = absurd h
same_each f g (m ∷ makers) [] h = absurd h
same_each f g (m ∷ makers) (t ∷ traces) h = let here = h.0 in let rest = same_each f g makers traces h.1 in omega arith

by_trace : (f : Trace → ℕ) (P : Maker → Trace → Type 0) (makers : List Maker) (traces : List Trace) → AreEach P makers traces
    → sum_each (λ m t. f t) makers traces ≡ sum_by f traces
by_trace f P [] [] h = refl
by_trace f P [] (t ∷ traces) h = absurd h
by_trace f P (m ∷ makers) [] h = absurd h
by_trace f P (m ∷ makers) (t ∷ traces) h =
    let one = sum_by-cons f t traces in
    let rest = by_trace f P makers traces h.1 in
    omega arith

by_maker : (f : Maker → ℕ) (P : Maker → Trace → Type 0) (makers : List Maker) (traces : List Trace) → AreEach P makers traces
    → sum_each (λ m t. f m) makers traces ≡ sum_by f makers
by_maker f P [] [] h = refl
by_maker f P [] (t ∷ traces) h = absurd h
by_maker f P (m ∷ makers) [] h = absurd h
by_maker f P (m ∷ makers) (t ∷ traces) h =
    let one = sum_by-cons f m makers in
    let rest = by_maker f P makers traces h.1 in
    omega arith

-- ---- tests

-- the test that everything passes, and the one that passes what another doesn't
abbrev any : Test
any origin bytes = true

abbrev other : Test → Test
other p origin bytes = not (p origin bytes)

one_of_both : (b : Bool) → once b + once (not b) ≡ 1
one_of_both true = omega arith
one_of_both false = omega arith

heard_both : (p : Test) (journal : List Entry) → heard_counted p journal + heard_counted (other p) journal ≡ heard_counted any journal
heard_both p journal =
    sym (sum_both (λ (e : Entry). heard_once p e) (λ (e : Entry). heard_once (other p) e) journal)
    ∙ sum_same (λ (e : Entry). heard_once p e + heard_once (other p) e) (λ (e : Entry). heard_once any e) journal (λ e i. one e)
  where
    one : (e : Entry) → heard_once p e + heard_once (other p) e ≡ heard_once any e
    one (Entry.Heard origin x) = one_of_both (p origin (spelling_of x))
    one Entry.Proposed = omega arith
    one Entry.Nudged = omega arith
    one (Entry.Sent item) = omega arith
    one Entry.Executed = omega arith
    one Entry.Marked = omega arith
    one Entry.TimedOut = omega arith

named_both : (p : Test) (from : ReplicaId) (o : Option Parcel) → named_counted p from o + named_counted (other p) from o ≡ named_counted any from o
named_both p from None = omega arith
named_both p from (Some q) = one_of_both (p (Origin.Replica from q.time) q.bytes)

refused_both : (p : Test) (traces : List Trace) (to : ReplicaId) (refused : List Turned)
    → refused_counted p traces to refused + refused_counted (other p) traces to refused ≡ refused_counted any traces to refused
refused_both p traces to refused =
    sym (sum_both (λ (x : Turned). named_counted p x.from (parcel_named traces to x)) (λ (x : Turned). named_counted (other p) x.from (parcel_named traces to x)) refused)
    ∙ sum_same (λ (x : Turned). named_counted p x.from (parcel_named traces to x) + named_counted (other p) x.from (parcel_named traces to x))
    (λ (x : Turned). named_counted any x.from (parcel_named traces to x)) refused
    (λ x i. named_both p x.from (parcel_named traces to x))

used_both : (p : Test) (traces : List Trace) (m : Maker) (t : Trace)
    → used_counted p traces m t + used_counted (other p) traces m t ≡ used_counted any traces m t
used_both p traces m t =
    let a = heard_both p t.journal in
    let b = refused_both p traces m.id t.refused in
    omega arith

pending_both : (p : Test) (copies : List Pending) → pending_counted p copies + pending_counted (other p) copies ≡ pending_counted any copies
pending_both p copies =
    sym (sum_both (λ (c : Pending). once (p c.origin c.load)) (λ (c : Pending). once (not (p c.origin c.load))) copies)
    ∙ sum_same (λ (c : Pending). once (p c.origin c.load) + once (not (p c.origin c.load))) (λ (c : Pending). 1) copies (λ c i. one_of_both (p c.origin c.load))

two_of_both : (a b : Bool) (n : ℕ) → cond (a && b) n 0 + cond (a && not b) n 0 ≡ cond (a && true) n 0
two_of_both true true n = omega arith
two_of_both true false n = omega arith
two_of_both false b n = omega arith

parcels_both : (p : Test) (to from : ReplicaId) (parcels : List Parcel)
    → parcels_counted p to from parcels + parcels_counted (other p) to from parcels ≡ parcels_counted any to from parcels
parcels_both p to from parcels =
    let test : Parcel → Bool = λ q. p (Origin.Replica from q.time) q.bytes in
    let passed : Parcel → ℕ = λ q. cond (is_same to q.to && test q) q.passes 0 in
    let others : Parcel → ℕ = λ q. cond (is_same to q.to && not (test q)) q.passes 0 in
    sym (sum_both passed others parcels)
    ∙ sum_same (λ (q : Parcel). passed q + others q) (λ (q : Parcel). cond (is_same to q.to && true) q.passes 0)
    parcels (λ q i. two_of_both (is_same to q.to) (test q) q.passes)

put_both : (p : Test) (r : Rules) (traces : List Trace) (to : ReplicaId)
    → put_counted p r traces to + put_counted (other p) r traces to ≡ put_counted any r traces to
put_both p r traces to =
    let a = pending_both p (of to r.requests) in
    let b = sum_both (λ (t : Trace). parcels_counted p to t.id t.parcels) (λ (t : Trace). parcels_counted (other p) to t.id t.parcels) traces in
    let c = sum_same (λ (t : Trace). parcels_counted p to t.id t.parcels + parcels_counted (other p) to t.id t.parcels)
    (λ (t : Trace). parcels_counted any to t.id t.parcels) traces (λ t i. parcels_both p to t.id t.parcels) in
    omega arith

-- where as much was taken as was put, so it was by every test
pub all_heard_from : (r : Rules) (traces : List Trace) (m : Maker) (t : Trace) → IsDelivered r traces m t
    → used_counted any traces m t ≡ put_counted any r traces m.id → IsAllHeard r traces m t
all_heard_from r traces m t h e p =
    let a = h p in
    let b = h (other p) in
    let c = used_both p traces m t in
    let d = put_both p r traces m.id in
    omega (arith, a, b, c, d, e)

-- ---- what one replica took

refused_all : (traces : List Trace) (m : Maker) (t : Trace) → AreRefused traces m t → refused_counted any traces m.id t.refused ≡ length t.refused
refused_all traces m t h =
    sum_ones (λ (x : Turned). named_counted any x.from (parcel_named traces m.id x)) t.refused
    (λ x i. ap (named_counted any x.from) (h x i).is_named)

heard_all : (journal : List Entry) → heard_counted any journal ≡ count_by is_heard journal
heard_all journal = sum_same (λ (e : Entry). heard_once any e) (λ (e : Entry). once (is_heard e)) journal (λ e i. one e)
  where
    one : (e : Entry) → heard_once any e ≡ once (is_heard e)
    one (Entry.Heard origin x) = refl
    one Entry.Proposed = refl
    one Entry.Nudged = refl
    one (Entry.Sent item) = refl
    one Entry.Executed = refl
    one Entry.Marked = refl
    one Entry.TimedOut = refl

taken_is : (traces : List Trace) (m : Maker) (t : Trace) → AreRefused traces m t → used_counted any traces m t ≡ taken_by t
taken_is traces m t h = let a = heard_all t.journal in let b = refused_all traces m t h in omega arith

-- ---- what was put to all

-- the copies of one receiver
of_counted : (i : ReplicaId) (l : List (ReplicaId × Pending)) → pending_counted any (of i l) ≡ sum_by (λ p. once (is_same i p.0)) l
of_counted i [] = refl
of_counted i (p ∷ l) = go (is_same i p.0) (of_counted i l) ∙ sym (sum_by-cons (λ (q : ReplicaId × Pending). once (is_same i q.0)) p l)
  where
    go : (b : Bool) → pending_counted any (of i l) ≡ sum_by (λ q. once (is_same i q.0)) l
        → pending_counted any (cond b (p.1 ∷ of i l) (of i l)) ≡ once b + sum_by (λ q. once (is_same i q.0)) l
    go true rest = let one = sum_by-cons (λ (c : Pending). 1) p.1 (of i l) in omega arith
    go false rest = omega arith

-- summed over the script's replicas, each so many times
over_replicas : {X : Type 0} (script : Script) (to : X → ReplicaId) (many : X → ℕ) (l : List X)
    → sum_by (λ i. sum_by (λ x. cond (is_same i (to x)) (many x) 0) l) (replicas_of script)
    ≡ sum_by (λ x. cond (is_replica (roster_of script) (to x)) (many x) 0) l
over_replicas script to many l =
    sum_swap (λ (i : ReplicaId) x. cond (is_same i (to x)) (many x) 0) (replicas_of script) l
    ∙ sum_same (λ x. sum_by (λ (i : ReplicaId). cond (is_same i (to x)) (many x) 0) (replicas_of script))
    (λ x. cond (is_replica (roster_of script) (to x)) (many x) 0) l
    (λ x h. sum_once (λ (i : ReplicaId). is_same i (to x)) (many x) (is_replica (roster_of script) (to x)) (replicas_of script) (named_once script (to x)))

and_true : (b : Bool) → (b && true) ≡ b
and_true true = refl
and_true false = refl

-- how often a parcel comes to a replica
abbrev comes_to : ReplicaId → Parcel → ℕ
comes_to i q = cond (is_same i q.to) q.passes 0

parcels_are : (to from : ReplicaId) (parcels : List Parcel) → parcels_counted any to from parcels ≡ sum_by (comes_to to) parcels
parcels_are to from parcels =
    sum_same (λ (q : Parcel). cond (is_same to q.to && true) q.passes 0) (comes_to to) parcels
    (λ q i. ap (λ b. cond b q.passes 0) (and_true (is_same to q.to)))

-- to one receiver
abbrev put_to : Script → List Trace → ReplicaId → ℕ
put_to script traces i =
    sum_by (λ p. once (is_same i p.0)) (copies_of script) + sum_by (λ t. sum_by (comes_to i) t.parcels) traces

put_is : (script : Script) (traces : List Trace) (i : ReplicaId) → put_counted any (script_rules script) traces i ≡ put_to script traces i
put_is script traces i =
    let a = of_counted i (copies_of script) in
    let b = sum_same (λ (t : Trace). parcels_counted any i t.id t.parcels) (λ (t : Trace). sum_by (comes_to i) t.parcels) traces
    (λ t h. parcels_are i t.id t.parcels) in
    omega (arith, a, b)

put_all : (script : Script) (traces : List Trace) → keeps_limits script ≡ true
    → sum_by (λ m. put_counted any (script_rules script) traces m.id) (makers_of script) ≡ all_put script traces
put_all script traces limits =
    let whole = sum_map (λ (m : Maker). put_counted any (script_rules script) traces m.id) (maker_of script) (replicas_of script) in
    let each = sum_same (λ (i : ReplicaId). put_counted any (script_rules script) traces i) (put_to script traces) (replicas_of script)
    (λ i h. put_is script traces i) in
    let both = sum_both (λ (i : ReplicaId). sum_by (λ (p : ReplicaId × Pending). once (is_same i p.0)) (copies_of script))
    (λ (i : ReplicaId). sum_by (λ (t : Trace). sum_by (comes_to i) t.parcels) traces) (replicas_of script) in
    let copies = over_replicas script (λ (p : ReplicaId × Pending). p.0) (λ p. 1) (copies_of script) in
    let known = copies_counted script limits in
    let swapped = sum_swap (λ (i : ReplicaId) (t : Trace). sum_by (comes_to i) t.parcels) (replicas_of script) traces in
    let sent = sum_same (λ (t : Trace). sum_by (λ (i : ReplicaId). sum_by (comes_to i) t.parcels) (replicas_of script))
    (sent_by (roster_of script)) traces (λ t h. over_replicas script (λ (q : Parcel). q.to) (λ q. q.passes) t.parcels) in
    whole ∙ each ∙ both
    ∙ ap (λ n. n + sum_by (λ (i : ReplicaId). sum_by (λ (t : Trace). sum_by (comes_to i) t.parcels) traces) (replicas_of script))
    (copies ∙ known)
    ∙ ap (λ n. sum_by (copies_for (roster_of script)) script.requests + n) (swapped ∙ sent)

-- ---- of a whole run

abbrev used : List Trace → Maker → Trace → ℕ
used traces m t = used_counted any traces m t

abbrev put : Script → List Trace → Maker → Trace → ℕ
put script traces m t = put_counted any (script_rules script) traces m.id

module _ (script : Script) (traces : List Trace) (limits : keeps_limits script ≡ true) (refused : AreEach (AreRefused traces) (makers_of script) traces) where
  used_sum : sum_each (used traces) (makers_of script) traces ≡ all_taken traces
  used_sum =
      same_each (used traces) (λ m t. taken_by t) (makers_of script) traces
      (each_both (AreRefused traces) (AreRefused traces) (λ m t. used traces m t ≡ taken_by t) (λ m t h k. taken_is traces m t h) (makers_of script) traces refused refused)
      ∙ by_trace taken_by (AreRefused traces) (makers_of script) traces refused

  put_sum : sum_each (put script traces) (makers_of script) traces ≡ all_put script traces
  put_sum =
      by_maker (λ m. put_counted any (script_rules script) traces m.id) (AreRefused traces) (makers_of script) traces refused ∙ put_all script traces limits

  pub heard_where : AreEach (IsDelivered (script_rules script) traces) (makers_of script) traces → all_taken traces ≡ all_put script traces
      → AreEach (IsAllHeard (script_rules script) traces) (makers_of script) traces
  heard_where delivered e =
      let most : AreEach (λ m t. used traces m t ≤ put script traces m t) (makers_of script) traces =
      each_both (IsDelivered (script_rules script) traces) (IsDelivered (script_rules script) traces) (λ m t. used traces m t ≤ put script traces m t)
      (λ m t h k. h any) (makers_of script) traces delivered delivered in
      each_both (IsDelivered (script_rules script) traces) (λ m t. used traces m t ≡ put script traces m t) (IsAllHeard (script_rules script) traces)
      (λ m t h k. all_heard_from (script_rules script) traces m t h k) (makers_of script) traces delivered
      (equal_each (used traces) (put script traces) (makers_of script) traces most (used_sum ∙ e ∙ sym put_sum))

  pub taken_where : AreEach (IsAllHeard (script_rules script) traces) (makers_of script) traces → all_taken traces ≡ all_put script traces
  taken_where heard =
      sym used_sum
      ∙ same_each (used traces) (put script traces) (makers_of script) traces
      (each_both (IsAllHeard (script_rules script) traces) (IsAllHeard (script_rules script) traces) (λ m t. used traces m t ≡ put script traces m t)
      (λ m t h k. h any) (makers_of script) traces heard heard)
      ∙ put_sum
