-- What was heard was put: as a client's request or as a parcel.
use Rattle.std.proofs.Common.{◌≡◌, ℕ, zero, suc, ◌≤◌, Bool, true, false, cond, ◌&&◌, ◌⊎◌, nat_eq, List, [], ◌∷◌, Ok, Result, inl, inr, refl, sym, ap, subst, ◌∙◌, arith, sum_by}
use Rattle.std.proofs.lemmas.List.Sums.{sum_by-cons}
use Rattle.std.proofs.lemmas.Slice.Eq.{bytes_eq-Decides}
use Rattle.std.specs.Str.{bytes_eq}
use Rattle.fab_base.specs.declared.ids.ClientId.{ClientId}
use Rattle.fab_base.specs.declared.ids.ReplicaId.{ReplicaId}
use Rattle.fab_base.specs.declared.messages.Message.{Message}
use Rattle.fab_base.proofs.Tests.{and_left, and_right, and_both, same, is_same}
use Rattle.fab_rules.specs.Format.{fits}
use Rattle.fab_rules.specs.Lists.{In}
use Rattle.fab_rules.specs.Spelling.{spelling_of}
use Rattle.fault_script.specs.declared.scripts.Script.{Script}
use Rattle.fault_script.specs.declared.scripts.Wish.{Wish}
use Rattle.msg_read.specs.Reading.{reading_of}
use Rattle.msg_read.proofs.Whole.{is_read}
use Rattle.run_words.specs.Keyed as keyed
use Rattle.run_words.specs.Keyed.{of}
use Rattle.run_words.specs.Journal.{Maker}
use Rattle.run_words.specs.Runs.{Rules}
use Rattle.run_words.specs.Lawful.{Test, heard_once, pending_counted, parcels_counted, put_counted, IsDelivered, IsFromClient}
use Rattle.run_words.specs.declared.logs.Entry.{Entry}
use Rattle.run_words.specs.declared.logs.Origin.{Origin}
use Rattle.run_words.specs.declared.logs.Parcel.{Parcel}
use Rattle.run_words.specs.declared.logs.Pending.{Pending}
use Rattle.run_words.specs.declared.logs.Trace.{Trace}
use Rattle.script_keys.specs.Requests.{request_of, copies_of}
use Rattle.script_keys.proofs.Sounds.{owned, copied}

-- ---- sums

pub record HasSome {X : Type 0} (f : X → ℕ) (xs : List X) : Type 0 where
  pub item : X
  pub is_in : In item xs
  pub counts : 1 ≤ f item

some_later : {X : Type 0} (f : X → ℕ) (x : X) (xs : List X) → HasSome f xs → HasSome f (x ∷ xs)
some_later f x xs h = record { item = h.item; is_in = inr h.is_in; counts = h.counts }

pub some_counts : {X : Type 0} (f : X → ℕ) (xs : List X) → 1 ≤ sum_by f xs → HasSome f xs
some_counts f [] h = absurd (omega (arith, h))
some_counts f (x ∷ xs) h = go (f x) refl (some_counts f xs)
  where
    go : (n : ℕ) → f x ≡ n → (1 ≤ sum_by f xs → HasSome f xs) → HasSome f (x ∷ xs)
    go zero e later = some_later f x xs (later (let one = sum_by-cons f x xs in omega (arith, one, e, h)))
    go (suc n) e later = record { item = x; is_in = inl refl; counts = omega (arith, e) }

pub one_counts : {X : Type 0} (f : X → ℕ) (xs : List X) (x : X) → In x xs → f x ≤ sum_by f xs
one_counts f [] x i = absurd i
one_counts f (y ∷ xs) x (inl e) = let one = sum_by-cons f y xs in let here : f y ≡ f x = ap f e in omega (arith, one, here)
one_counts f (y ∷ xs) x (inr i) = let one = sum_by-cons f y xs in let later = one_counts f xs x i in omega (arith, one, later)

pub tested : (b : Bool) → 1 ≤ cond b 1 0 → b ≡ true
tested true h = refl
tested false h = absurd (omega (arith, h))

passing : (b : Bool) (n : ℕ) → 1 ≤ cond b n 0 → b ≡ true
passing true n h = refl
passing false n h = absurd (omega (arith, h))

-- ---- a copy was put

-- a copy of a request passes the test
record IsAsked (p : Test) (r : Rules) (to : ReplicaId) : Type 0 where
  copy : Pending
  is_in : In copy (of to r.requests)
  passes : p copy.origin copy.load ≡ true

-- a parcel of some trace passes it
pub record IsPosted (p : Test) (traces : List Trace) : Type 0 where
  pub trace : Trace
  pub is_in : In trace traces
  pub parcel : Parcel
  pub posted : In parcel trace.parcels
  pub passes : p (Origin.Replica trace.id parcel.time) parcel.bytes ≡ true

asked_copy : (p : Test) (r : Rules) (to : ReplicaId) → 1 ≤ pending_counted p (of to r.requests) → IsAsked p r to
asked_copy p r to h =
    let s = some_counts (λ (c : Pending). cond (p c.origin c.load) 1 0) (of to r.requests) h in
    record { copy = s.item; is_in = s.is_in; passes = tested (p s.item.origin s.item.load) s.counts }

posted_copy : (p : Test) (traces : List Trace) (to : ReplicaId) → 1 ≤ sum_by (λ (t : Trace). parcels_counted p to t.id t.parcels) traces
    → IsPosted p traces
posted_copy p traces to h =
    let s = some_counts (λ (t : Trace). parcels_counted p to t.id t.parcels) traces h in
    let t = s.item in
    let q = some_counts (λ (x : Parcel). cond (keyed.is_same to x.to && p (Origin.Replica t.id x.time) x.bytes) x.passes 0) t.parcels s.counts in
    let test = p (Origin.Replica t.id q.item.time) q.item.bytes in
    record {
      trace = t;
      is_in = s.is_in;
      parcel = q.item;
      posted = q.is_in;
      passes = and_right (keyed.is_same to q.item.to) test (passing (keyed.is_same to q.item.to && test) q.item.passes q.counts);
    }

put_cases : (p : Test) (r : Rules) (traces : List Trace) (to : ReplicaId) → 1 ≤ put_counted p r traces to
    → IsAsked p r to ⊎ IsPosted p traces
put_cases p r traces to h = go (pending_counted p (of to r.requests)) refl
  where
    go : (n : ℕ) → pending_counted p (of to r.requests) ≡ n → IsAsked p r to ⊎ IsPosted p traces
    go zero e = inr (posted_copy p traces to (omega (arith, h, e)))
    go (suc n) e = inl (asked_copy p r to (omega (arith, e)))

-- a heard message that passes the test was put
was_put : (p : Test) (r : Rules) (traces : List Trace) (m : Maker) (t : Trace) (origin : Origin) (x : Message) → IsDelivered r traces m t
    → In (Entry.Heard origin x) t.journal → p origin (spelling_of x) ≡ true → IsAsked p r m.id ⊎ IsPosted p traces
was_put p r traces m t origin x delivered i h =
    let one : heard_once p (Entry.Heard origin x) ≡ 1 = ap (λ b. cond b 1 0) h in
    let all = one_counts (λ (e : Entry). heard_once p e) t.journal (Entry.Heard origin x) i in
    let few = delivered p in
    put_cases p r traces m.id (omega (arith, one, all, few))

-- ---- the copies of a script's requests

-- a client's copy of what the script has it ask
pub record IsCopied (script : Script) (c : Pending) : Type 0 where
  pub wish : Wish
  pub is_in : In wish script.requests
  pub client : IsFromClient c.origin
  pub load : c.load ≡ spelling_of (Message.Request (request_of script wish))

pub is_copied : (script : Script) (i : ReplicaId) (c : Pending) → In c (of i (copies_of script)) → IsCopied script c
is_copied script i c h =
    let from = owned i (copies_of script) c h in
    let o = copied script 0 script.requests from.pair from.is_in in
    subst (IsCopied script) (sym o.is ∙ from.is)
    (record { wish = o.wish; is_in = o.is_in; client = tt; load = refl })

-- ---- by origin

abbrev of_client : List ℕ → Test
of_client bytes (Origin.Client k) load = bytes_eq load bytes
of_client bytes (Origin.Replica from sent) load = false

abbrev pub of_time : ℕ → List ℕ → Test
of_time time bytes (Origin.Client k) load = false
of_time time bytes (Origin.Replica from sent) load = nat_eq sent time && bytes_eq load bytes

pub same_bytes : (a b : List ℕ) → bytes_eq a b ≡ true → a ≡ b
same_bytes a b h = (bytes_eq-Decides a b).0 h

pub self_bytes : (a : List ℕ) → bytes_eq a a ≡ true
self_bytes a = (bytes_eq-Decides a a).1 refl

client_load : (bytes load : List ℕ) (origin : Origin) → of_client bytes origin load ≡ true → load ≡ bytes
client_load bytes load (Origin.Client k) h = same_bytes load bytes h
client_load bytes load (Origin.Replica from sent) h = absurd cc

no_time : (time : ℕ) (bytes load : List ℕ) (origin : Origin) → IsFromClient origin → of_time time bytes origin load ≡ true → ⊥
no_time time bytes load (Origin.Client k) c h = cc
no_time time bytes load (Origin.Replica from sent) c h = c

-- a message that was heard from a client is one that the script has a client ask
pub from_client : (script : Script) (r : Rules) (traces : List Trace) (m : Maker) (t : Trace) (k : ClientId) (x : Message)
    → r.requests ≡ copies_of script → IsDelivered r traces m t → In (Entry.Heard (Origin.Client k) x) t.journal
    → (wish : Wish) × In wish script.requests × (spelling_of (Message.Request (request_of script wish)) ≡ spelling_of x)
from_client script r traces m t k x requests delivered i =
    elim (was_put (of_client (spelling_of x)) r traces m t (Origin.Client k) x delivered i (self_bytes (spelling_of x))) [
      | inl a ↦
          (let c = is_copied script m.id a.copy (subst (λ l. In a.copy (of m.id l)) requests a.is_in) in
          (c.wish, c.is_in, sym c.load ∙ client_load (spelling_of x) a.copy.load a.copy.origin a.passes))
      | inr b ↦ absurd (let none = b.passes in cc)
    ]

-- one that was heard as a parcel was put by some replica, at the same time
pub from_replica : (script : Script) (r : Rules) (traces : List Trace) (m : Maker) (t : Trace) (from : ReplicaId) (time : ℕ) (x : Message)
    → r.requests ≡ copies_of script → IsDelivered r traces m t → In (Entry.Heard (Origin.Replica from time) x) t.journal
    → IsPosted (of_time time (spelling_of x)) traces
from_replica script r traces m t from time x requests delivered i =
    elim (was_put (of_time time (spelling_of x)) r traces m t (Origin.Replica from time) x delivered i
    (and_both (nat_eq time time) (bytes_eq (spelling_of x) (spelling_of x)) (is_same time) (self_bytes (spelling_of x)))) [
      | inl a ↦
          absurd
          (let c = is_copied script m.id a.copy (subst (λ l. In a.copy (of m.id l)) requests a.is_in) in
          no_time time (spelling_of x) a.copy.load a.copy.origin c.client a.passes)
      | inr b ↦ b
    ]

pub posted_is : (time : ℕ) (bytes : List ℕ) (traces : List Trace) (b : IsPosted (of_time time bytes) traces)
    → (b.parcel.time ≡ time) × (b.parcel.bytes ≡ bytes)
posted_is time bytes traces b =
    let q = b.parcel in (
      same q.time time (and_left (nat_eq q.time time) (bytes_eq q.bytes bytes) b.passes),
      same_bytes q.bytes bytes (and_right (nat_eq q.time time) (bytes_eq q.bytes bytes) b.passes),
    )

-- ---- equal spellings are equal messages

one_message : {X : Type 0} (a b : Message) (o : Result Message X) → o ≡ Ok a → o ≡ Ok b → a ≡ b
one_message a b o p q = cc

pub same_message : (a b : Message) → fits a ≡ true → fits b ≡ true → spelling_of a ≡ spelling_of b → a ≡ b
same_message a b f g e =
    one_message a b (reading_of (spelling_of a)) (is_read (spelling_of a) a f refl) (is_read (spelling_of a) b g e)
