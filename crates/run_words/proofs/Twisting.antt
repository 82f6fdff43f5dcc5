-- The parcels that copies become.
use Rattle.std.proofs.Common.{◌≡◌, ℕ, zero, suc, ◌+◌, Bool, true, false, cond, List, [], ◌∷◌, ◌++◌, length, Option, Some, None, ◌≤◌, inl, inr, refl, sym, ap, subst, ◌∙◌, append_assoc, arith}
use Rattle.std.proofs.lemmas.List.Sums.{sum_by-append, sum_by-cons}
use Rattle.fab_base.specs.declared.ids.ReplicaId.{ReplicaId}
use Rattle.fab_base.specs.declared.messages.Message.{Message}
use Rattle.fab_base.specs.declared.answers.Item.{Item}
use Rattle.fab_rules.specs.Lists.{In}
use Rattle.fab_rules.specs.Spelling.{spelling_of}
use Rattle.fault_script.specs.declared.twists.Fault.{Fault}
use Rattle.fault_script.specs.declared.twists.Loss.{Loss}
use Rattle.run_words.specs.declared.logs.Parcel.{Parcel}
use Rattle.run_words.specs.declared.logs.Entry.{Entry}
use Rattle.run_words.specs.Keyed.{is_same, at_place, before}
use Rattle.run_words.specs.Twists.{Copy, is_proposal, copies_from, sent_to, shares_of, spoiled, parcel_of, put}
use Rattle.run_words.specs.Journal.{Maker, Walk, null_beside, copies, added}
use Rattle.run_words.specs.Lawful.{parcel_at}
use Rattle.run_words.proofs.Keys.{same_self}

-- ---- the parcel of a number

-- it stays when parcels are added
pub at_append : (to : ReplicaId) (k : ℕ) (ps qs : List Parcel) (q : Parcel) → parcel_at to k ps ≡ Some q → parcel_at to k (ps ++ qs) ≡ Some q
at_append to k [] qs q h = absurd cc
at_append to k (p ∷ ps) qs q h = go (λ n. at_append to n ps qs q) (is_same to p.to) k h
  where
    go : ((n : ℕ) → parcel_at to n ps ≡ Some q → parcel_at to n (ps ++ qs) ≡ Some q) → (b : Bool) (n : ℕ)
        → cond b (at_place n (Some p) (parcel_at to (before n) ps)) (parcel_at to n ps) ≡ Some q
        → cond b (at_place n (Some p) (parcel_at to (before n) (ps ++ qs))) (parcel_at to n (ps ++ qs)) ≡ Some q
    go later true zero e = e
    go later true (suc n) e = later n e
    go later false n e = later n e

abbrev pub one_if : Bool → ℕ
one_if b = cond b 1 0

-- the next parcel has the number of those before it
pub at_count : (to : ReplicaId) (earlier rest : List Parcel) (p : Parcel) → is_same to p.to ≡ true → (n : ℕ)
    → n ≡ sent_to to earlier
    → parcel_at to n (earlier ++ p ∷ rest) ≡ Some p
at_count to [] rest p s n e =
    let none : n ≡ 0 = e in
    ap (λ k. parcel_at to k (p ∷ rest)) none ∙ ap (λ b. cond b (Some p) (parcel_at to 0 rest)) s
at_count to (x ∷ earlier) rest p s n e = go (λ k. at_count to earlier rest p s k) (is_same to x.to) refl
  where
    count : ℕ
    count = sent_to to earlier

    more : sent_to to (x ∷ earlier) ≡ one_if (is_same to x.to) + count
    more = sum_by-cons (λ (y : Parcel). one_if (is_same to y.to)) x earlier

    go : ((k : ℕ) → k ≡ count → parcel_at to k (earlier ++ p ∷ rest) ≡ Some p) → (b : Bool) → is_same to x.to ≡ b
        → parcel_at to n (x ∷ (earlier ++ p ∷ rest)) ≡ Some p
    go later true q =
        let one : one_if (is_same to x.to) ≡ 1 = ap one_if q in
        let here : n ≡ suc count = omega (arith, e, more, one) in
        ap (λ k. parcel_at to k (x ∷ (earlier ++ p ∷ rest))) here
        ∙ ap (λ b. cond b (parcel_at to count (earlier ++ p ∷ rest)) (parcel_at to (suc count) (earlier ++ p ∷ rest))) q ∙ later count refl
    go later false q =
        let none : one_if (is_same to x.to) ≡ 0 = ap one_if q in
        let here : n ≡ count = omega (arith, e, more, none) in
        ap (λ b. cond b (at_place n (Some x) (parcel_at to (before n) (earlier ++ p ∷ rest))) (parcel_at to n (earlier ++ p ∷ rest))) q
        ∙ later n here

-- ---- what is put

module _ (me : ReplicaId) (losses : List Loss) (fault : Option Fault) (time : ℕ) where
  abbrev new : List Parcel → List ReplicaId → Copy → Parcel
  new earlier shares c = parcel_of me losses fault time earlier shares c

  -- each parcel has its number
  pub put_named : (earlier : List Parcel) (shares : List ReplicaId) (cs : List Copy) (q : Parcel) → In q (put me losses fault time earlier shares cs)
      → parcel_at q.to q.number (earlier ++ put me losses fault time earlier shares cs) ≡ Some q
  put_named earlier shares [] q h = absurd h
  put_named earlier shares (c ∷ rest) q (inl e) =
      let p = new earlier shares c in
      let later = put me losses fault time (earlier ++ p ∷ []) (shares ++ shares_of (c ∷ [])) rest in
      subst (λ (x : Parcel). parcel_at x.to x.number (earlier ++ p ∷ later) ≡ Some x) e (at_count c.to earlier later p (same_self c.to) p.number refl)
  put_named earlier shares (c ∷ rest) q (inr h) =
      let p = new earlier shares c in
      let later = put me losses fault time (earlier ++ p ∷ []) (shares ++ shares_of (c ∷ [])) rest in
      subst (λ (l : List Parcel). parcel_at q.to q.number l ≡ Some q) (append_assoc earlier (p ∷ []) later)
      (put_named (earlier ++ p ∷ []) (shares ++ shares_of (c ∷ [])) rest q h)

  -- it has a number that none before it has
  pub put_later : (earlier : List Parcel) (shares : List ReplicaId) (cs : List Copy) (q : Parcel) → In q (put me losses fault time earlier shares cs)
      → sent_to q.to earlier ≤ q.number
  put_later earlier shares [] q h = absurd h
  put_later earlier shares (c ∷ rest) q (inl e) = subst (λ (x : Parcel). sent_to x.to earlier ≤ x.number) e (omega arith)
  put_later earlier shares (c ∷ rest) q (inr h) =
      let p = new earlier shares c in
      let later = put_later (earlier ++ p ∷ []) (shares ++ shares_of (c ∷ [])) rest q h in
      let more : sent_to q.to (earlier ++ p ∷ []) ≡ sent_to q.to earlier + sent_to q.to (p ∷ []) =
      sum_by-append (λ (y : Parcel). one_if (is_same q.to y.to)) earlier (p ∷ []) in
      omega (arith, later, more)

  pub put_times : (earlier : List Parcel) (shares : List ReplicaId) (cs : List Copy) (q : Parcel) → In q (put me losses fault time earlier shares cs)
      → q.time ≡ time
  put_times earlier shares [] q h = absurd h
  put_times earlier shares (c ∷ rest) q (inl e) = ap (λ (x : Parcel). x.time) (sym e)
  put_times earlier shares (c ∷ rest) q (inr h) =
      put_times (earlier ++ new earlier shares c ∷ []) (shares ++ shares_of (c ∷ [])) rest q h

  -- it is of one of the copies, whose bytes may be spoiled
  pub record IsOfCopy (cs : List Copy) (q : Parcel) : Type 0 where
    pub copy : Copy
    pub is_in : In copy cs
    pub place : ℕ
    pub bytes_are : q.bytes ≡ spoiled fault place copy.bytes

  of_copy_later : (c : Copy) (cs : List Copy) (q : Parcel) → IsOfCopy cs q → IsOfCopy (c ∷ cs) q
  of_copy_later c cs q h = record { copy = h.copy; is_in = inr h.is_in; place = h.place; bytes_are = h.bytes_are }

  pub put_bytes : (earlier : List Parcel) (shares : List ReplicaId) (cs : List Copy) (q : Parcel) → In q (put me losses fault time earlier shares cs)
      → IsOfCopy cs q
  put_bytes earlier shares [] q h = absurd h
  put_bytes earlier shares (c ∷ rest) q (inl e) =
      record { copy = c; is_in = inl refl; place = length earlier + 1; bytes_are = ap (λ (x : Parcel). x.bytes) (sym e) }
  put_bytes earlier shares (c ∷ rest) q (inr h) =
      of_copy_later c rest q (put_bytes (earlier ++ new earlier shares c ∷ []) (shares ++ shares_of (c ∷ [])) rest q h)

-- ---- by an entry

pub added_named : (m : Maker) (w : Walk) (e : Entry) (q : Parcel) → In q (added m w e)
    → parcel_at q.to q.number (w.parcels ++ added m w e) ≡ Some q
unfolding added
added_named m w e q h = put_named m.id m.losses m.fault w.clock w.parcels w.shares (copies m w e) q h

pub added_later : (m : Maker) (w : Walk) (e : Entry) (q : Parcel) → In q (added m w e) → sent_to q.to w.parcels ≤ q.number
unfolding added
added_later m w e q h = put_later m.id m.losses m.fault w.clock w.parcels w.shares (copies m w e) q h

pub added_times : (m : Maker) (w : Walk) (e : Entry) (q : Parcel) → In q (added m w e) → q.time ≡ w.clock
unfolding added
added_times m w e q h = put_times m.id m.losses m.fault w.clock w.parcels w.shares (copies m w e) q h

pub added_bytes : (m : Maker) (w : Walk) (e : Entry) (q : Parcel) → In q (added m w e) → IsOfCopy m.id m.losses m.fault w.clock (copies m w e) q
unfolding added
added_bytes m w e q h = put_bytes m.id m.losses m.fault w.clock w.parcels w.shares (copies m w e) q h

-- ---- the copies of a correct replica

plain_copies : (proposal : Bool) (beside : Option Message) (x : Message) (to : List ReplicaId) (c : Copy) → In c (copies_from None proposal beside x to)
    → c.bytes ≡ spelling_of x
plain_copies proposal beside x [] c h = absurd h
plain_copies proposal beside x (i ∷ to) c (inl e) = ap (λ (y : Copy). y.bytes) (sym e)
plain_copies proposal beside x (i ∷ to) c (inr h) = plain_copies proposal beside x to c h

pub plain_copy : (m : Maker) (w : Walk) (item : Item) (c : Copy) → m.fault ≡ None → In c (copies m w (Entry.Sent item)) → c.bytes ≡ spelling_of item.message
unfolding copies
plain_copy m w item c plain h =
    plain_copies (is_proposal m.id item.message) (null_beside m (length w.signed) item.message) item.message item.to c
    (subst (λ (f : Option Fault). In c (copies_from f (is_proposal m.id item.message) (null_beside m (length w.signed) item.message) item.message item.to)) plain h)

-- only what is sent has copies
pub copies_are_sent : (m : Maker) (w : Walk) (e : Entry) (c : Copy) → In c (copies m w e) → (item : Item) × (e ≡ Entry.Sent item)
unfolding copies
copies_are_sent m w (Entry.Sent item) c h = (item, refl)
copies_are_sent m w (Entry.Heard origin x) c h = absurd h
copies_are_sent m w Entry.Proposed c h = absurd h
copies_are_sent m w Entry.Nudged c h = absurd h
copies_are_sent m w Entry.Executed c h = absurd h
copies_are_sent m w Entry.Marked c h = absurd h
copies_are_sent m w Entry.TimedOut c h = absurd h

-- what a correct replica puts by an item bears its time and its message's bytes
pub put_is : (m : Maker) (w : Walk) (item : Item) (q : Parcel) → m.fault ≡ None → In q (added m w (Entry.Sent item))
    → (q.time ≡ w.clock) × (q.bytes ≡ spelling_of item.message)
put_is m w item q plain i =
    let of = added_bytes m w (Entry.Sent item) q i in (
      added_times m w (Entry.Sent item) q i,
      of.bytes_are ∙ ap (λ (f : Option Fault). spoiled f of.place of.copy.bytes) plain ∙ plain_copy m w item of.copy plain of.is_in,
    )
