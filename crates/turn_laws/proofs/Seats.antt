-- What the workers of a replica enter, each under its own seat numbers.
use Rattle.std.proofs.Common.{◌≡◌, ℕ, ◌+◌, Bool, true, false, cond, List, [], ◌∷◌, ◌++◌, Option, Some, None, length, refl, sym, ap, subst, ◌∙◌, arith, inl, inr, append-nil, append_assoc, length-append}
use Rattle.std.proofs.lemmas.List.Sums.{sum_by-cons}
use Rattle.std.proofs.lemmas.List.{append_cancel_right}
use Rattle.fab_rules.proofs.Lists.{in_append_cases}
use Rattle.bft_verify.specs.Admitted.{Admitted}
use Rattle.turn_lock.specs.Numbers.{has, least}
use Rattle.turn_lock.specs.Histories.{IsStartOf, of_numbers, entries, with_entry, with_mine}
use Rattle.turn_lock.specs.Views.{own}
use Rattle.turn_lock.proofs.Histories.{Out, follows_out, of_mine, entries_more, same_length}
use Rattle.run_words.specs.Journal.{Maker, Walk, walk, copies, added, parcels_of, moves}
use Rattle.run_words.specs.Lawful.{Test, heard_once, heard_counted}
use Rattle.run_words.specs.Acts as acts
use Rattle.run_words.specs.Acts.{would, made_by, act_of, told_entry, told_parcels, Does}
use Rattle.run_words.specs.declared.logs.Entry.{Entry}
use Rattle.run_words.specs.declared.logs.Origin.{Origin}
use Rattle.run_words.specs.declared.logs.Parcel.{Parcel}
use Rattle.run_words.specs.declared.movers.Mover.{Mover}
use Rattle.run_words.specs.declared.party.Act.{Act}
use Rattle.run_words.specs.declared.party.Told.{Told}
use Rattle.run_words.proofs.Walks.{parcels_more}
use Rattle.run_words.proofs.Tellings.{tells, puts}
use Rattle.party_turn.proofs.Entering.{acted_next, does_next, not_same}
use Rattle.turn_laws.specs.Workers.{Kind, kind, kind_of, AreOf, AreBy}
use Rattle.turn_laws.specs.Doings.{hearings_by, hearings, heard_by, is_refused, put_from, put_of}
use Rattle.turn_laws.specs.Seats.{KindLaw, HearLaw, EmitLaw, HeardLaw, PutLaw, StillLaw}

-- ---- what an act tells of its entry

abbrev put_by : Maker → List Entry → Option Entry → List Parcel
put_by m journal None = []
put_by m journal (Some e) = added m (walk m journal) e

none_entered : {A : Type 0} (m : Maker) (journal : List Entry) (act : Act) (b : Bool) → would m journal act ≡ b
    → journal ≡ cond b (journal ++ made_by m journal act ∷ []) journal → (would m journal act ≡ false → A) → A
none_entered m journal act true w g f = not_same journal (made_by m journal act) (sym g)
none_entered m journal act false w g f = f w

some_entered : {A : Type 0} (m : Maker) (journal : List Entry) (act : Act) (e : Entry) (b : Bool) → would m journal act ≡ b
    → journal ++ e ∷ [] ≡ cond b (journal ++ made_by m journal act ∷ []) journal → (would m journal act ≡ true → A) → A
some_entered m journal act e true w g f = f w
some_entered m journal act e false w g f = not_same journal e g

told_put_by : (m : Maker) (journal : List Entry) (act : Act) (told : Told) (e : Option Entry) → Does m journal act told (with_entry journal e)
    → told_parcels told ≡ put_by m journal e
told_put_by m journal act told None d =
    let p : told_parcels told ≡ cond (would m journal act) (added m (walk m journal) (made_by m journal act)) [] =
    ap told_parcels d.tells ∙ puts m journal act in
    none_entered m journal act (would m journal act) refl d.grows
    (λ w. p ∙ ap (λ b. cond b (added m (walk m journal) (made_by m journal act)) []) w)
told_put_by m journal act told (Some x) d =
    let p : told_parcels told ≡ cond (would m journal act) (added m (walk m journal) (made_by m journal act)) [] =
    ap told_parcels d.tells ∙ puts m journal act in
    let same : x ≡ made_by m journal act = (does_next m journal act told x d).1 in
    some_entered m journal act x (would m journal act) refl d.grows
    (λ w. p ∙ ap (λ b. cond b (added m (walk m journal) (made_by m journal act)) []) w ∙ ap (added m (walk m journal)) (sym same))

told_put : (m : Maker) (journal : List Entry) (act : Act) (told : Told) (e : Option Entry) → acts.Acted m journal act told (with_entry journal e)
    → told_parcels told ≡ put_by m journal e
told_put m journal act Told.NoMemory None h = refl
told_put m journal act Told.NoMemory (Some x) h = not_same journal x h
told_put m journal act (Told.Core answer) e h = told_put_by m journal act (Told.Core answer) e h
told_put m journal act (Told.Out parcels) e h = told_put_by m journal act (Told.Out parcels) e h
told_put m journal act (Told.KeySpent used) e h = told_put_by m journal act (Told.KeySpent used) e h

-- what a hearing enters
abbrev entry_if : Told → Entry → Option Entry
entry_if Told.NoMemory e = None
entry_if told e = Some e

heard_entry_by : (m : Maker) (journal : List Entry) (origin : Origin) (heard : Admitted) (told : Told) (e : Option Entry)
    → Does m journal (Act.Hear origin heard) told (with_entry journal e)
    → e ≡ Some (Entry.Heard origin heard.message)
heard_entry_by m journal origin heard told None d = not_same journal (Entry.Heard origin heard.message) (sym d.grows)
heard_entry_by m journal origin heard told (Some x) d = ap (λ y. Some y) ((does_next m journal (Act.Hear origin heard) told x d).1)

heard_entry : (m : Maker) (journal : List Entry) (origin : Origin) (heard : Admitted) (told : Told) (e : Option Entry)
    → acts.Acted m journal (Act.Hear origin heard) told (with_entry journal e)
    → e ≡ entry_if told (Entry.Heard origin heard.message)
heard_entry m journal origin heard Told.NoMemory None h = refl
heard_entry m journal origin heard Told.NoMemory (Some x) h = not_same journal x h
heard_entry m journal origin heard (Told.Core answer) e h = heard_entry_by m journal origin heard (Told.Core answer) e h
heard_entry m journal origin heard (Told.Out parcels) e h = heard_entry_by m journal origin heard (Told.Out parcels) e h
heard_entry m journal origin heard (Told.KeySpent used) e h = heard_entry_by m journal origin heard (Told.KeySpent used) e h

-- ---- kinds

kind_made : (m : Maker) (journal : List Entry) (act : Act) → kind (made_by m journal act) ≡ kind_of act
kind_made m journal (Act.Hear origin heard) = refl
kind_made m journal Act.Batch = refl
kind_made m journal Act.Nudge = refl
kind_made m journal Act.Emit = refl
kind_made m journal Act.Execute = refl
kind_made m journal Act.Checkpoint = refl
kind_made m journal Act.Timeout = refl

kinds_more : (k : Kind) (log : List (ℕ × Entry)) (n : ℕ) (e : Option Entry) → AreOf k log → ((x : Entry) → e ≡ Some x → kind x ≡ k)
    → AreOf k (with_mine log n e)
kinds_more k log n None a h = a
kinds_more k log n (Some x) a h = λ y i.
    elim (in_append_cases y log ((n, x) ∷ []) i) [
      | inl j ↦ a y j
      | inr (inl q) ↦ ap (λ (z : ℕ × Entry). kind z.1) (sym q) ∙ h x refl
      | inr (inr none) ↦ absurd none
    ]

pub kinds : {P : Type 0} (made : P → Maker) → KindLaw made
kinds made first v w act answer h a =
    let m = made first in
    let journal = entries h.0 in
    let of_entry : (x : Entry) → h.1 ≡ Some x → kind x ≡ kind_of act =
    λ x q. ap kind ((acted_next m journal act answer.told x (subst (λ (e : Option Entry). acts.Acted m journal act answer.told (with_entry journal e)) q h.3.acted)).1)
    ∙ kind_made m journal act in
    subst (AreOf (kind_of act)) (sym h.5) (kinds_more (kind_of act) (own v) (least v.numbers) h.1 a of_entry)

-- ---- hearings

hearings_first : (k : Kind) (e : Entry) (a b : List Entry) (l : List Entry) → l ≡ a ++ b → hearings_by k e l ≡ hearings_by k e a ++ b
hearings_first Kind.Hearing e a b l q = ap (λ x. e ∷ x) q
hearings_first Kind.Sending e a b l q = q
hearings_first Kind.Doing e a b l q = q

hearings_both : (a b : List (ℕ × Entry)) → hearings (a ++ b) ≡ hearings a ++ hearings b
hearings_both [] b = refl
hearings_both (x ∷ a) b = hearings_first (kind x.1) x.1 (hearings a) (hearings b) (hearings (a ++ b)) (hearings_both a b)

hearings_mine : (log : List (ℕ × Entry)) (n : ℕ) (told : Told) (origin : Origin) (heard : Admitted)
    → hearings (with_mine log n (entry_if told (Entry.Heard origin heard.message))) ≡ hearings log ++ heard_by told (Entry.Heard origin heard.message)
hearings_mine log n Told.NoMemory origin heard = sym (append-nil (hearings log))
hearings_mine log n (Told.Core answer) origin heard = hearings_both log ((n, Entry.Heard origin heard.message) ∷ [])
hearings_mine log n (Told.Out parcels) origin heard = hearings_both log ((n, Entry.Heard origin heard.message) ∷ [])
hearings_mine log n (Told.KeySpent used) origin heard = hearings_both log ((n, Entry.Heard origin heard.message) ∷ [])

pub hears : {P : Type 0} (made : P → Maker) → HearLaw made
hears made first v w origin heard answer h =
    let e = heard_entry (made first) (entries h.0) origin heard answer.told h.1 h.3.acted in
    ap hearings (h.5 ∙ ap (with_mine (own v) (least v.numbers)) e) ∙ hearings_mine (own v) (least v.numbers) answer.told origin heard

heard_one : (p : Test) (ns : List Bool) (n : ℕ) (e : Entry) (log : List (ℕ × Entry)) (b : Bool) → (kind e ≡ Kind.Hearing → b ≡ true)
    → heard_counted p (entries log) ≡ heard_counted p (hearings (of_numbers ns log))
    → heard_once p e + heard_counted p (entries log) ≡ heard_counted p (hearings (cond b ((n, e) ∷ of_numbers ns log) (of_numbers ns log)))
heard_one p ns n (Entry.Heard origin x) log true h later =
    ap (λ k. heard_once p (Entry.Heard origin x) + k) later
    ∙ sym (sum_by-cons (λ (y : Entry). heard_once p y) (Entry.Heard origin x) (hearings (of_numbers ns log)))
heard_one p ns n (Entry.Heard origin x) log false h later = let z = h refl in absurd cc
heard_one p ns n Entry.Proposed log true h later = let z : heard_once p Entry.Proposed ≡ 0 = refl in omega (arith, later, z)
heard_one p ns n Entry.Proposed log false h later = let z : heard_once p Entry.Proposed ≡ 0 = refl in omega (arith, later, z)
heard_one p ns n Entry.Nudged log true h later = let z : heard_once p Entry.Nudged ≡ 0 = refl in omega (arith, later, z)
heard_one p ns n Entry.Nudged log false h later = let z : heard_once p Entry.Nudged ≡ 0 = refl in omega (arith, later, z)
heard_one p ns n (Entry.Sent item) log true h later = let z : heard_once p (Entry.Sent item) ≡ 0 = refl in omega (arith, later, z)
heard_one p ns n (Entry.Sent item) log false h later = let z : heard_once p (Entry.Sent item) ≡ 0 = refl in omega (arith, later, z)
heard_one p ns n Entry.Executed log true h later = let z : heard_once p Entry.Executed ≡ 0 = refl in omega (arith, later, z)
heard_one p ns n Entry.Executed log false h later = let z : heard_once p Entry.Executed ≡ 0 = refl in omega (arith, later, z)
heard_one p ns n Entry.Marked log true h later = let z : heard_once p Entry.Marked ≡ 0 = refl in omega (arith, later, z)
heard_one p ns n Entry.Marked log false h later = let z : heard_once p Entry.Marked ≡ 0 = refl in omega (arith, later, z)
heard_one p ns n Entry.TimedOut log true h later = let z : heard_once p Entry.TimedOut ≡ 0 = refl in omega (arith, later, z)
heard_one p ns n Entry.TimedOut log false h later = let z : heard_once p Entry.TimedOut ≡ 0 = refl in omega (arith, later, z)

pub heard_all : HeardLaw
heard_all p ns [] h = refl
heard_all p ns (x ∷ log) h =
    sum_by-cons (λ (y : Entry). heard_once p y) x.1 (entries log)
    ∙ heard_one p ns x.0 x.1 log (has ns x.0) (λ k. h x (inl refl) k) (heard_all p ns log (λ y i. h y (inr i)))

-- ---- what was put

put_more : (m : Maker) (ns : List Bool) (earlier : List Entry) (log rest : List (ℕ × Entry))
    → put_from m ns earlier (log ++ rest) ≡ put_from m ns earlier log ++ put_from m ns (earlier ++ entries log) rest
put_more m ns earlier [] rest = ap (λ l. put_from m ns l rest) (sym (append-nil earlier))
put_more m ns earlier (x ∷ log) rest =
    let here = cond (has ns x.0) (added m (walk m earlier) x.1) [] in
    ap (λ l. here ++ l) (put_more m ns (earlier ++ x.1 ∷ []) log rest
    ∙ ap (λ l. put_from m ns (earlier ++ x.1 ∷ []) log ++ put_from m ns l rest) (append_assoc earlier (x.1 ∷ []) (entries log)))
    ∙ sym (append_assoc here (put_from m ns (earlier ++ x.1 ∷ []) log) (put_from m ns (earlier ++ (x.1 ∷ entries log)) rest))

put_out : (m : Maker) (ns : List Bool) (earlier : List Entry) (xs : List (ℕ × Entry)) → Out ns xs → put_from m ns earlier xs ≡ []
put_out m ns earlier [] h = refl
put_out m ns earlier (x ∷ xs) h =
    ap (λ b. cond b (added m (walk m earlier) x.1) [] ++ put_from m ns (earlier ++ x.1 ∷ []) xs) h.0 ∙ put_out m ns (earlier ++ x.1 ∷ []) xs h.1

put_mine : (m : Maker) (ns : List Bool) (earlier : List Entry) (n : ℕ) (x : Entry) → has ns n ≡ true
    → put_from m ns earlier ((n, x) ∷ []) ≡ added m (walk m earlier) x
put_mine m ns earlier n x h =
    ap (λ b. cond b (added m (walk m earlier) x) [] ++ []) h ∙ append-nil (added m (walk m earlier) x)

put_next : (m : Maker) (ns : List Bool) (before : List (ℕ × Entry)) (n : ℕ) (e : Option Entry) → has ns n ≡ true
    → put_of m ns (with_mine before n e) ≡ put_of m ns before ++ put_by m (entries before) e
put_next m ns before n None h = sym (append-nil (put_of m ns before))
put_next m ns before n (Some x) h =
    put_more m ns [] before ((n, x) ∷ []) ∙ ap (λ l. put_of m ns before ++ l) (put_mine m ns (entries before) n x h)

seen_before : (ns : List Bool) (seen before : List (ℕ × Entry)) (n : ℕ) (e : Option Entry) → has ns n ≡ true
    → of_numbers ns (with_mine before n e) ≡ with_mine (of_numbers ns seen) n e
    → of_numbers ns seen ≡ of_numbers ns before
seen_before ns seen before n None h q = sym q
seen_before ns seen before n (Some x) h q =
    append_cancel_right (of_numbers ns seen) (of_numbers ns before) ((n, x) ∷ []) (sym q ∙ of_mine ns before (n, x) h)

put_same : (m : Maker) (ns : List Bool) (seen before : List (ℕ × Entry)) (start : IsStartOf seen before) → of_numbers ns seen ≡ of_numbers ns before
    → put_of m ns before ≡ put_of m ns seen
put_same m ns seen before start same =
    ap (put_of m ns) (sym start.1) ∙ put_more m ns [] seen start.0
    ∙ ap (λ l. put_of m ns seen ++ l) (put_out m ns (entries seen) start.0 (follows_out ns seen before (start, same)))
    ∙ append-nil (put_of m ns seen)

pub emits : {P : Type 0} (made : P → Maker) → EmitLaw made
emits made first v w answer h numbers mine =
    let m = made first in
    let ns = v.numbers in
    let n = least v.numbers in
    let same : of_numbers ns v.seen ≡ of_numbers ns h.0 =
    seen_before ns v.seen h.0 n h.1 mine (ap (of_numbers ns) (sym h.4) ∙ ap (λ (l : List Bool). of_numbers l w.seen) (sym numbers) ∙ h.5) in
    ap (λ l. put_of m l w.seen) numbers ∙ ap (put_of m ns) h.4 ∙ put_next m ns h.0 n h.1 mine
    ∙ ap (λ l. l ++ put_by m (entries h.0) h.1) (put_same m ns v.seen h.0 h.2 same)
    ∙ ap (λ l. put_of m ns v.seen ++ l) (sym (told_put m (entries h.0) Act.Emit answer.told h.1 h.3.acted))

added_by : (m : Maker) (w : Walk) (e : Entry) (b : Bool) → (kind e ≡ Kind.Sending → b ≡ true) → added m w e ≡ cond b (added m w e) []
unfolding added copies
added_by m w e true h = refl
added_by m w (Entry.Sent item) false h = let z = h refl in absurd cc
added_by m w (Entry.Heard origin x) false h = refl
added_by m w Entry.Proposed false h = refl
added_by m w Entry.Nudged false h = refl
added_by m w Entry.Executed false h = refl
added_by m w Entry.Marked false h = refl
added_by m w Entry.TimedOut false h = refl

put_on : (m : Maker) (ns : List Bool) (earlier : List Entry) (log : List (ℕ × Entry)) → AreBy Kind.Sending ns log
    → parcels_of m (earlier ++ entries log) ≡ parcels_of m earlier ++ put_from m ns earlier log
put_on m ns earlier [] h = ap (parcels_of m) (append-nil earlier) ∙ sym (append-nil (parcels_of m earlier))
put_on m ns earlier (x ∷ log) h =
    let here = cond (has ns x.0) (added m (walk m earlier) x.1) [] in
    ap (parcels_of m) (sym (append_assoc earlier (x.1 ∷ []) (entries log)))
    ∙ put_on m ns (earlier ++ x.1 ∷ []) log (λ y i. h y (inr i))
    ∙ ap (λ l. l ++ put_from m ns (earlier ++ x.1 ∷ []) log)
    (parcels_more m earlier x.1 ∙ ap (λ l. parcels_of m earlier ++ l) (added_by m (walk m earlier) x.1 (has ns x.0) (λ k. h x (inl refl) k)))
    ∙ append_assoc (parcels_of m earlier) here (put_from m ns (earlier ++ x.1 ∷ []) log)

none_put : (m : Maker) → parcels_of m [] ≡ []
unfolding walk
none_put m = refl

pub puts_all : PutLaw
puts_all m ns log h = put_on m ns [] log h ∙ ap (λ l. l ++ put_of m ns log) (none_put m)

-- ---- nothing more to do

entries_mine : (before : List (ℕ × Entry)) (n : ℕ) (e : Option Entry) → entries (with_mine before n e) ≡ with_entry (entries before) e
entries_mine before n None = refl
entries_mine before n (Some x) = entries_more before (n, x)

start_same : (xs ys rest : List (ℕ × Entry)) → xs ++ rest ≡ ys → length xs ≡ length ys → xs ≡ ys
start_same xs ys [] s e = sym (append-nil xs) ∙ s
start_same xs ys (y ∷ rest) s e = absurd (let l = sym (length-append xs (y ∷ rest)) ∙ ap length s in omega arith)

would_moves : (m : Maker) (journal : List Entry) (mover : Mover) → would m journal (act_of mover) ≡ moves m journal mover
would_moves m journal Mover.Batch = refl
would_moves m journal Mover.Nudge = refl
would_moves m journal Mover.Emit = refl
would_moves m journal Mover.Execute = refl
would_moves m journal Mover.Checkpoint = refl
would_moves m journal Mover.Timeout = refl

still_by : (m : Maker) (journal : List Entry) (mover : Mover) (told : Told) (now : List Entry) → Does m journal (act_of mover) told now
    → told_entry told ≡ false
    → (moves m journal mover ≡ false) × (now ≡ journal)
still_by m journal mover told now d none =
    let w : would m journal (act_of mover) ≡ false = sym (tells m journal (act_of mover)) ∙ ap told_entry (sym d.tells) ∙ none in
    (sym (would_moves m journal mover) ∙ w, d.grows ∙ ap (λ b. cond b (journal ++ made_by m journal (act_of mover) ∷ []) journal) w)

still_acted : (m : Maker) (journal : List Entry) (mover : Mover) (told : Told) (now : List Entry) → acts.Acted m journal (act_of mover) told now
    → told_entry told ≡ false → is_refused told ≡ false
    → (moves m journal mover ≡ false) × (now ≡ journal)
still_acted m journal mover Told.NoMemory now h none r = absurd cc
still_acted m journal mover (Told.Core answer) now h none r = still_by m journal mover (Told.Core answer) now h none
still_acted m journal mover (Told.Out parcels) now h none r = still_by m journal mover (Told.Out parcels) now h none
still_acted m journal mover (Told.KeySpent used) now h none r = still_by m journal mover (Told.KeySpent used) now h none

pub still : {P : Type 0} (made : P → Maker) → StillLaw made
still made first v w mover answer log h none r start count =
    let m = made first in
    let journal = entries h.0 in
    let k = still_acted m journal mover answer.told (with_entry journal h.1) h.3.acted none r in
    let seen : entries w.seen ≡ with_entry journal h.1 = ap entries h.4 ∙ entries_mine h.0 (least v.numbers) h.1 in
    let long : length w.seen ≡ length log = sym (same_length w.seen) ∙ ap length seen ∙ sym h.3.count ∙ count in
    let all : w.seen ≡ log = start_same w.seen log start.0 start.1 long in
    ap (λ (l : List Entry). moves m l mover) (ap entries (sym all) ∙ seen ∙ k.1) ∙ k.0
