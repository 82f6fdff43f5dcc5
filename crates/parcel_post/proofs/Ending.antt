-- Parcels whose last bytes are written last.
use Rattle.std.proofs.Common.{◌≡◌, ℕ, zero, suc, ◌+◌, ◌-◌, ◌<◌, ◌≤◌, List, [], ◌∷◌, ◌++◌, map, take, drop, length, get_or, set, replicate, inl, inr, refl, sym, ap, subst, ◌∙◌, arith, append-nil, append_assoc, length-append}
use Rattle.std.proofs.lemmas.List.{length-replicate, length-map, length-take-le, map-append, drop_all, drop_more, take_more, set_at}
use Rattle.std.proofs.Math.Seq.{take-append_seam, get_or-append_seam}
use Rattle.fab_base.specs.declared.ids.ReplicaId.{ReplicaId}
use Rattle.fab_rules.specs.Lists.{In}
use Rattle.run_words.specs.declared.logs.Parcel.{Parcel}
use Rattle.parcel_post.specs.Posting.{Counts, number_in, raised, raised_by, numbered, ended, ended_parcel, HaveRoom}

-- bytes with so many open ones at the end
abbrev opened : List ℕ → ℕ → List ℕ
opened front room = front ++ replicate room 0

opened_length : (front : List ℕ) (room : ℕ) → length (opened front room) ≡ length front + room
opened_length front room = length-append front (replicate room 0) ∙ ap (λ (n : ℕ). length front + n) (length-replicate {A = ℕ} room 0)

ended_is : (front back : List ℕ) (room : ℕ) → length back ≡ room → ended back (opened front room) ≡ front ++ back
ended_is front back room e =
    let whole = opened_length front room in
    let start : length (opened front room) - length back ≡ length front = omega arith in
    ap (λ (k : ℕ). take k (opened front room) ++ back) start ∙ ap (λ (l : List ℕ). l ++ back) (take-append_seam front (replicate room 0))

-- written at the end, they are parcels of the whole bytes
pub ended_numbered : (counts : Counts) (time : ℕ) (front back : List ℕ) (room : ℕ) (to : List ReplicaId) → length back ≡ room
    → map (ended_parcel back) (numbered counts time (opened front room) to) ≡ numbered counts time (front ++ back) to
ended_numbered counts time front back room [] e = refl
ended_numbered counts time front back room (to ∷ rest) e =
    let p : List ℕ → Parcel = λ bytes. record { to = to; number = number_in counts to; time = time; bytes = bytes; passes = 1 } in
    ap (λ (b : List ℕ). p b ∷ map (ended_parcel back) (numbered (raised counts to) time (opened front room) rest)) (ended_is front back room e)
    ∙ ap (λ (l : List Parcel). p (front ++ back) ∷ l) (ended_numbered (raised counts to) time front back room rest e)

-- each has room for them
pub have_room : (counts : Counts) (time : ℕ) (front : List ℕ) (room : ℕ) (to : List ReplicaId)
    → HaveRoom room (numbered counts time (opened front room) to)
have_room counts time front room [] q i = absurd i
have_room counts time front room (to ∷ rest) q (inl e) =
    let whole = opened_length front room in
    let enough : room ≤ length (opened front room) = omega arith in
    subst (λ (x : Parcel). room ≤ length x.bytes) e enough
have_room counts time front room (to ∷ rest) q (inr i) = have_room (raised counts to) time front room rest q i

-- a parcel more is made
pub made_more : (counts now : Counts) (time : ℕ) (bytes some : List ℕ) (to : List ReplicaId) (k : ℕ) (d : ReplicaId) (number : ℕ)
    (made after whole : List Parcel) → k < length to
    → number ≡ number_in counts (get_or to k d) → some ≡ bytes → now ≡ raised counts (get_or to k d)
    → after ≡ made ++ record { to = get_or to k d; number = number; time = time; bytes = some; passes = 1 } ∷ []
    → whole ≡ made ++ numbered counts time bytes (drop k to) → whole ≡ after ++ numbered now time bytes (drop (k + 1) to)
made_more counts now time bytes some to k d number made after whole lt number_is some_is now_is after_is h =
    let x = get_or to k d in
    let p : ℕ → List ℕ → Parcel = λ n b. record { to = x; number = n; time = time; bytes = b; passes = 1 } in
    let rest = drop (k + 1) to in
    let others = numbered (raised counts x) time bytes rest in
    h
    ∙ ap (λ (l : List ReplicaId). made ++ numbered counts time bytes l) (drop_more to k d lt)
    ∙ sym (append_assoc made (p (number_in counts x) bytes ∷ []) others)
    ∙ ap (λ (l : List Parcel). l ++ others)
    (sym (after_is ∙ ap (λ (n : ℕ). made ++ p n some ∷ []) number_is ∙ ap (λ (b : List ℕ). made ++ p (number_in counts x) b ∷ []) some_is))
    ∙ ap (λ (c : Counts). after ++ numbered c time bytes rest) (sym now_is)

-- and its receiver's number is raised
pub raised_more : (counts now whole : Counts) (to : List ReplicaId) (k : ℕ) (d : ReplicaId) → k < length to
    → now ≡ raised counts (get_or to k d) → whole ≡ raised_by counts (drop k to) → whole ≡ raised_by now (drop (k + 1) to)
raised_more counts now whole to k d lt now_is h =
    h ∙ ap (raised_by counts) (drop_more to k d lt) ∙ ap (λ (c : Counts). raised_by c (drop (k + 1) to)) (sym now_is)

-- after the last receiver all are raised
pub all_raised : (counts whole : Counts) (to : List ReplicaId) (k : ℕ) → length to ≤ k → whole ≡ raised_by counts (drop k to) → counts ≡ whole
all_raised counts whole to k le h = sym (h ∙ ap (raised_by counts) (drop_all k to le))

-- after the last receiver all are made
pub all_made : (counts : Counts) (time : ℕ) (bytes : List ℕ) (to : List ReplicaId) (k : ℕ) (made whole : List Parcel) → length to ≤ k
    → whole ≡ made ++ numbered counts time bytes (drop k to) → made ≡ whole
all_made counts time bytes to k made whole le h =
    sym (h ∙ ap (λ (l : List ReplicaId). made ++ numbered counts time bytes l) (drop_all k to le) ∙ append-nil made)

-- ---- a loop that writes each item of a list

abbrev pub IsWritten : {X : Type 0} → (X → X) → List X → ℕ → List X → Type 0
IsWritten f old k now = now ≡ map f (take k old) ++ drop k old

written_length : {X : Type 0} (f : X → X) (old : List X) (k : ℕ) → k < length old → length (map f (take k old)) ≡ k
written_length f old k lt = length-map (take k old) f ∙ length-take-le k old (omega arith)

written_split : {X : Type 0} (f : X → X) (old now : List X) (k : ℕ) (d : X) → k < length old → IsWritten f old k now
    → now ≡ map f (take k old) ++ get_or old k d ∷ drop (k + 1) old
written_split f old now k d lt h = h ∙ ap (λ l. map f (take k old) ++ l) (drop_more old k d lt)

-- the next item is as it was
pub unwritten : {X : Type 0} (f : X → X) (old now : List X) (k : ℕ) (d : X) → k < length old → IsWritten f old k now
    → get_or now k d ≡ get_or old k d
unwritten f old now k d lt h =
    ap (λ l. get_or l k d) (written_split f old now k d lt h)
    ∙ ap (λ n. get_or (map f (take k old) ++ get_or old k d ∷ drop (k + 1) old) n d) (sym (written_length f old k lt))
    ∙ get_or-append_seam (map f (take k old)) (get_or old k d) (drop (k + 1) old) d

pub written_more : {X : Type 0} (f : X → X) (old now : List X) (k : ℕ) (d y : X) → k < length old → IsWritten f old k now → y ≡ f (get_or now k d)
    → IsWritten f old (k + 1) (set now k y)
written_more f old now k d y lt h e =
    let x = get_or old k d in
    ap (λ l. set l k y) (written_split f old now k d lt h)
    ∙ set_at (map f (take k old)) x (drop (k + 1) old) y k (written_length f old k lt)
    ∙ ap (λ z. map f (take k old) ++ z ∷ drop (k + 1) old) (e ∙ ap f (unwritten f old now k d lt h))
    ∙ sym (append_assoc (map f (take k old)) (f x ∷ []) (drop (k + 1) old))
    ∙ ap (λ l. l ++ drop (k + 1) old) (sym (map-append f (take k old) (x ∷ [])) ∙ ap (map f) (sym (take_more old k d lt)))

pub in_at : {X : Type 0} (l : List X) (k : ℕ) (d : X) → k < length l → In (get_or l k d) l
in_at [] k d lt = absurd (omega arith)
in_at (x ∷ l) zero d lt = inl refl
in_at (x ∷ l) (suc k) d lt = inr (in_at l k d (omega arith))

pub room_at : (room : ℕ) (old now : List Parcel) (f : Parcel → Parcel) (k : ℕ) (d : Parcel) → k < length old → IsWritten f old k now
    → HaveRoom room old
    → room ≤ length (get_or now k d).bytes
room_at room old now f k d lt h have =
    subst (λ (q : Parcel). room ≤ length q.bytes) (sym (unwritten f old now k d lt h)) (have (get_or old k d) (in_at old k d lt))
