-- Parcels that are numbered by counts are those that are put after as many.
use Rattle.std.proofs.Common.{◌≡◌, ℕ, ◌+◌, Bool, true, false, cond, List, [], ◌∷◌, ◌++◌, length, Option, None, refl, sym, ap, subst, ◌∙◌, zero-add, add-zero, append-nil, append_assoc}
use Rattle.std.proofs.lemmas.List.Sums.{sum_by_push}
use Rattle.fab_base.specs.declared.ids.ReplicaId.{ReplicaId}
use Rattle.fab_base.specs.declared.messages.Message.{Message}
use Rattle.fab_base.specs.declared.answers.Item.{Item}
use Rattle.fab_rules.specs.Spelling.{spelling_of}
use Rattle.run_words.specs.Keyed.{is_same}
use Rattle.run_words.specs.Twists.{Copy, passes, is_proposal, is_share, copy_as, copies_from, sent_to, shares_to, shares_of, parcel_of, put}
use Rattle.run_words.specs.Journal.{Maker, Walk, null_beside, copies, added}
use Rattle.run_words.specs.declared.logs.Entry.{Entry}
use Rattle.run_words.specs.declared.logs.Parcel.{Parcel}
use Rattle.run_words.proofs.Keys.{same_is, other_turned}
use Rattle.parcel_post.specs.Posting.{Counts, number_in, raised, raised_by, AreNumbers, numbered, SendsPlainly}

-- ---- one number more

one_more : (n rest : ℕ) (b : Bool) → cond b (n + 1) rest ≡ cond b n rest + cond b 1 0
one_more n rest true = refl
one_more n rest false = sym (add-zero rest)

-- in the row of the receiver itself, and in one of another
row_raised : (i j k : ReplicaId) (n rest : ℕ) → is_same j k ≡ true
    → cond (is_same i k) (n + 1) rest ≡ cond (is_same i k) n rest + cond (is_same i j) 1 0
row_raised i j k n rest e =
    subst (λ (x : ReplicaId). cond (is_same i k) (n + 1) rest ≡ cond (is_same i k) n rest + cond (is_same i x) 1 0) (sym (same_is j k e))
    (one_more n rest (is_same i k))

row_kept : (i j k : ReplicaId) (n rest later : ℕ) → is_same j k ≡ false → later ≡ rest + cond (is_same i j) 1 0
    → cond (is_same i k) n later ≡ cond (is_same i k) n rest + cond (is_same i j) 1 0
row_kept i j k n rest later e h = go (is_same i k) refl
  where
    apart : is_same i k ≡ true → is_same i j ≡ false
    apart t = subst (λ (x : ReplicaId). is_same x j ≡ false) (sym (same_is i k t)) (other_turned j k e)

    go : (b : Bool) → is_same i k ≡ b → cond b n later ≡ cond b n rest + cond (is_same i j) 1 0
    go true t = sym (ap (λ (b : Bool). n + cond b 1 0) (apart t) ∙ add-zero n)
    go false t = h

number_raised : (counts : Counts) (j i : ReplicaId) → number_in (raised counts j) i ≡ number_in counts i + cond (is_same i j) 1 0
number_raised [] j i = sym (zero-add (cond (is_same i j) 1 0))
number_raised (c ∷ rest) j i = go (number_raised rest j i) (is_same j c.0) refl
  where
    go : number_in (raised rest j) i ≡ number_in rest i + cond (is_same i j) 1 0 → (b : Bool) → is_same j c.0 ≡ b
        → number_in (cond b ((c.0, c.1 + 1) ∷ rest) (c ∷ raised rest j)) i ≡ number_in (c ∷ rest) i + cond (is_same i j) 1 0
    go h true e = row_raised i j c.0 c.1 (number_in rest i) e
    go h false e = row_kept i j c.0 c.1 (number_in rest i) (number_in (raised rest j) i) e h

-- ---- the copies of what is sent plainly

-- one for each receiver, in order
abbrev pub copies_to : Bool → List ℕ → List ReplicaId → List Copy
copies_to share bytes [] = []
copies_to share bytes (to ∷ rest) = record { to = to; share = share; bytes = bytes } ∷ copies_to share bytes rest

plain_copies : (proposal : Bool) (beside : Option Message) (x : Message) (to : List ReplicaId)
    → copies_from None proposal beside x to ≡ copies_to (is_share x) (spelling_of x) to
plain_copies proposal beside x [] = refl
plain_copies proposal beside x (to ∷ rest) = ap (λ (l : List Copy). copy_as x to x ∷ l) (plain_copies proposal beside x rest)

passes_once : (from to : ReplicaId) (share : Bool) (all_k share_k : ℕ) → passes [] from to share all_k share_k ≡ 1
unfolding passes
passes_once from to share all_k share_k = refl

-- ---- parcels

pub numbers_more : (counts : Counts) (earlier : List Parcel) (p : Parcel) → AreNumbers counts earlier
    → AreNumbers (raised counts p.to) (earlier ++ p ∷ [])
numbers_more counts earlier p h i =
    number_raised counts p.to i ∙ ap (λ n. n + cond (is_same i p.to) 1 0) (h i)
    ∙ sym (sum_by_push (λ (q : Parcel). cond (is_same i q.to) 1 0) earlier p)

abbrev the_parcel : ℕ → List ℕ → ReplicaId → ℕ → ℕ → Parcel
the_parcel time bytes to number passes = record { to = to; number = number; time = time; bytes = bytes; passes = passes }

-- the parcel of a copy bears the number of its receiver and passes once
the_parcel_is : (me : ReplicaId) (counts : Counts) (time : ℕ) (bytes : List ℕ) (share : Bool) (earlier : List Parcel) (shares : List ReplicaId) (to : ReplicaId)
    → AreNumbers counts earlier
    → the_parcel time bytes to (number_in counts to) 1 ≡ parcel_of me [] None time earlier shares (record { to = to; share = share; bytes = bytes })
the_parcel_is me counts time bytes share earlier shares to h =
    ap (λ (n : ℕ). the_parcel time bytes to n 1) (h to)
    ∙ ap (the_parcel time bytes to (sent_to to earlier))
    (sym (passes_once me to share (sent_to to earlier + 1) (shares_to to shares + cond share 1 0)))

-- under the numbers of what was put before, numbered parcels are those that are put
pub numbered_is_put : (me : ReplicaId) (counts : Counts) (time : ℕ) (bytes : List ℕ) (share : Bool) (earlier : List Parcel) (shares to : List ReplicaId)
    → AreNumbers counts earlier
    → numbered counts time bytes to ≡ put me [] None time earlier shares (copies_to share bytes to)
numbered_is_put me counts time bytes share earlier shares [] h = refl
numbered_is_put me counts time bytes share earlier shares (to ∷ rest) h =
    let c : Copy = record { to = to; share = share; bytes = bytes } in
    let p = the_parcel time bytes to (number_in counts to) 1 in
    let later = shares ++ shares_of (c ∷ []) in
    ap (λ (l : List Parcel). p ∷ l)
    (numbered_is_put me (raised counts to) time bytes share (earlier ++ p ∷ []) later rest (numbers_more counts earlier p h))
    ∙ ap (λ (q : Parcel). q ∷ put me [] None time (earlier ++ q ∷ []) later (copies_to share bytes rest))
    (the_parcel_is me counts time bytes share earlier shares to h)

-- the numbers of all, once they are put
pub numbers_after : (counts : Counts) (time : ℕ) (bytes : List ℕ) (earlier : List Parcel) (to : List ReplicaId) → AreNumbers counts earlier
    → AreNumbers (raised_by counts to) (earlier ++ numbered counts time bytes to)
numbers_after counts time bytes earlier [] h = subst (AreNumbers counts) (sym (append-nil earlier)) h
numbers_after counts time bytes earlier (to ∷ rest) h =
    let p = the_parcel time bytes to (number_in counts to) 1 in
    subst (AreNumbers (raised_by (raised counts to) rest)) (append_assoc earlier (p ∷ []) (numbered (raised counts to) time bytes rest))
    (numbers_after (raised counts to) time bytes (earlier ++ p ∷ []) rest (numbers_more counts earlier p h))

-- ---- the parcels of an entry

sent_plainly : (m : Maker) (w : Walk) (item : Item) → SendsPlainly m
    → added m w (Entry.Sent item)
    ≡ put m.id [] None w.clock w.parcels w.shares (copies_to (is_share item.message) (spelling_of item.message) item.to)
unfolding added copies
sent_plainly m w item h =
    let x = item.message in
    let beside = null_beside m (length w.signed) x in
    ap (λ l. put m.id l m.fault w.clock w.parcels w.shares (copies_from m.fault (is_proposal m.id x) beside x item.to)) h.lossless
    ∙ ap (λ f. put m.id [] f w.clock w.parcels w.shares (copies_from f (is_proposal m.id x) beside x item.to)) h.correct
    ∙ ap (put m.id [] None w.clock w.parcels w.shares) (plain_copies (is_proposal m.id x) beside x item.to)

-- of an item that is sent plainly, a numbered one for each receiver
pub added_is : (m : Maker) (w : Walk) (counts : Counts) (item : Item) → SendsPlainly m → AreNumbers counts w.parcels
    → numbered counts w.clock (spelling_of item.message) item.to ≡ added m w (Entry.Sent item)
added_is m w counts item plain h =
    numbered_is_put m.id counts w.clock (spelling_of item.message) (is_share item.message) w.parcels w.shares item.to h ∙ sym (sent_plainly m w item plain)

-- and the numbers are then those of all that was put
pub numbers_added : (m : Maker) (w : Walk) (counts : Counts) (item : Item) → SendsPlainly m → AreNumbers counts w.parcels
    → AreNumbers (raised_by counts item.to) (w.parcels ++ added m w (Entry.Sent item))
numbers_added m w counts item plain h =
    subst (λ (l : List Parcel). AreNumbers (raised_by counts item.to) (w.parcels ++ l)) (added_is m w counts item plain h)
    (numbers_after counts w.clock (spelling_of item.message) w.parcels item.to h)
