-- What is done at a seat is what the fold does.
use Rattle.std.proofs.Common.{◌≡◌, ℕ, zero, suc, ◌+◌, ◌<◌, Bool, true, false, cond, List, [], ◌∷◌, ◌++◌, map, length, get_or, set, refl, sym, ap, subst, ◌∙◌, arith, append-nil, Ok, Err, Result, remove, length-append, add-zero, flat_map}
use Rattle.std.proofs.lemmas.Grind.{flat_map-append}
use Rattle.std.proofs.Common.{inl, inr}
use Rattle.fab_base.specs.declared.messages.Message.{Message}
use Rattle.fab_base.specs.declared.ids.ReplicaId.{ReplicaId}
use Rattle.run_words.specs.declared.logs.Entry.{Entry}
use Rattle.run_words.specs.declared.movers.Mover.{Mover}
use Rattle.run_words.specs.declared.logs.Pending.{Pending}
use Rattle.run_words.specs.declared.logs.Turned.{Turned}
use Rattle.bft_verify.specs.declared.refusals.Refusal.{Refusal}
use Rattle.run_words.specs.Keyed.{is_same, of}
use Rattle.run_words.specs.Journal.{Maker, walk, added, moves, entry_of, reads}
use Rattle.run_words.specs.Lawful.{IsApart, AreApart}
use Rattle.run_words.specs.Runs.{Rules, Run, Step, journal_in, waiting_in, copies_of, with_entry, give, hear, hear_by, taken_out, steps_of, steps_from, take_step, declined, declined_in, turned_of, Declined}
use Rattle.run_words.proofs.Keys.{other_turned, same_self, of_more, of_kept, of-append, of_without, of_without_other}
use Rattle.run_words.proofs.Counts.{IsIn}
use Rattle.run_words.proofs.Steps.{IsStep}
use Rattle.sim_sched.specs.declared.seats.Choice.{Choice}
use Rattle.sim_sched.specs.Seats.{SeatView, seat_in, seat_steps, all_steps, IsChosen, receive, seat_given, parcels_given, seat_heard, heard_by, with_one, with_turned, is_read}
use Rattle.sim_sched.specs.Putting.{heard_at, given_at}
use Rattle.sim_sched.specs.Simulating.{Acts}
use Rattle.sim_sched.proofs.Receiving.{received_none}

abbrev pub IsPlaced : ℕ → List Maker → Maker → Type 0
IsPlaced k [] m = ⊥
IsPlaced zero (n ∷ rest) m = n ≡ m
IsPlaced (suc k) (n ∷ rest) m = IsPlaced k rest m

pub placed : (makers : List Maker) (k : ℕ) → k < length makers → (m : Maker) × IsPlaced k makers m
placed [] k h = absurd (omega arith)
placed (n ∷ rest) zero h = (n, refl)
placed (n ∷ rest) (suc k) h = placed rest k (omega arith)

pub placed_view : (F : Maker → SeatView) (makers : List Maker) (k : ℕ) (m : Maker) (d : SeatView) → IsPlaced k makers m
    → get_or (map F makers) k d ≡ F m
placed_view F [] k m d p = absurd p
placed_view F (n ∷ rest) zero m d p = ap F p
placed_view F (n ∷ rest) (suc k) m d p = placed_view F rest k m d p

pub placed_in : (makers : List Maker) (k : ℕ) (m : Maker) → IsPlaced k makers m → IsIn m makers
placed_in [] k m p = absurd p
placed_in (n ∷ rest) zero m p = inl (sym p)
placed_in (n ∷ rest) (suc k) m p = inr (placed_in rest k m p)

pub same_map : (F G : Maker → SeatView) (makers : List Maker) → ((n : Maker) → IsIn n makers → F n ≡ G n) → map F makers ≡ map G makers
same_map F G [] h = refl
same_map F G (n ∷ rest) h = ap (λ x. x ∷ map F rest) (h n (inl refl)) ∙ ap (λ l. G n ∷ l) (same_map F G rest (λ x i. h x (inr i)))

pub both_maps : (f : SeatView → SeatView) (F : Maker → SeatView) (makers : List Maker) → map f (map F makers) ≡ map (λ n. f (F n)) makers
both_maps f F [] = refl
both_maps f F (n ∷ rest) = ap (λ l. f (F n) ∷ l) (both_maps f F rest)

apart_in : (m n : Maker) (makers : List Maker) → IsApart m makers → IsIn n makers → is_same m.id n.id ≡ false
apart_in m n [] a i = absurd i
apart_in m n (x ∷ rest) a (inl e) = subst (λ (y : Maker). is_same m.id y.id ≡ false) (sym e) a.0
apart_in m n (x ∷ rest) a (inr i) = apart_in m n rest a.1 i

turned_over : (a b : ReplicaId) → is_same a b ≡ false → is_same b a ≡ false
turned_over a b e = other_turned a b e

pub set_mapped : (F G : Maker → SeatView) (makers : List Maker) (k : ℕ) (m : Maker) (v : SeatView) → AreApart makers → IsPlaced k makers m
    → G m ≡ v → ((n : Maker) → is_same n.id m.id ≡ false → G n ≡ F n) → set (map F makers) k v ≡ map G makers
set_mapped F G [] k m v a p e h = absurd p
set_mapped F G (x ∷ rest) zero m v a p e h =
    ap (λ y. y ∷ map F rest) (sym e ∙ ap G (sym p))
    ∙ ap (λ l. G x ∷ l) (same_map F G rest
    (λ n i. sym (h n (subst (λ (y : Maker). is_same n.id y.id ≡ false) p (turned_over _ _ (apart_in x n rest a.0 i))))))
set_mapped F G (x ∷ rest) (suc k) m v a p e h =
    ap (λ y. y ∷ set (map F rest) k v) (sym (h x (apart_in x m rest a.0 (placed_in rest k m p))))
    ∙ ap (λ l. G x ∷ l) (set_mapped F G rest k m v a.1 p e h)

-- ---- steps

steps_one : (run : Run) (m : Maker) → seat_steps (seat_in run m) ≡ steps_of run m
unfolding seat_steps steps_of
steps_one run m = refl

pub steps_all : (run : Run) (makers : List Maker) → all_steps (map (seat_in run) makers) ≡ steps_from run makers
steps_all run [] = refl
steps_all run (m ∷ rest) = ap (λ l. l ++ all_steps (map (seat_in run) rest)) (steps_one run m) ∙ ap (λ l. steps_of run m ++ l) (steps_all run rest)

-- ---- an entry more

abbrev done_more : Maker → Entry → Run → Run
done_more m e run = record run { done = run.done ++ (m.id, e) ∷ [] }

entered_here : (m : Maker) (e : Entry) (run : Run) → seat_in (done_more m e run) m ≡ with_one e (seat_in run m)
entered_here m e run =
    let f : List Entry → SeatView = λ l. record (seat_in run m) { journal = l } in
    ap f (of_more m.id m.id run.done e (same_self m.id))

entered_there : (n m : Maker) (e : Entry) (run : Run) → is_same n.id m.id ≡ false → seat_in (done_more m e run) n ≡ seat_in run n
entered_there n m e run h =
    let f : List Entry → SeatView = λ l. record (seat_in run n) { journal = l } in
    ap f (of_kept n.id m.id run.done e h)

put_there : (n m : Maker) (e : Entry) (run : Run)
    → receive (flat_map (copies_of m.id) (added m (walk m (journal_in run m)) e)) (seat_in (done_more m e run) n) ≡ seat_in (with_entry m e run) n
unfolding with_entry
put_there n m e run =
    let f : List Pending → SeatView = λ l. record (seat_in (done_more m e run) n) { way = l } in
    ap f (sym (of-append n.id run.way (flat_map (copies_of m.id) (added m (walk m (journal_in run m)) e))))

entered : (r : Rules) (run : Run) (k : ℕ) (m : Maker) (e : Entry) → AreApart r.makers → IsPlaced k r.makers m
    → map (receive (flat_map (copies_of m.id) (added m (walk m (journal_in run m)) e)))
    (set (map (seat_in run) r.makers) k (with_one e (seat_in run m))) ≡ map (seat_in (with_entry m e run)) r.makers
entered r run k m e a p =
    let copies = flat_map (copies_of m.id) (added m (walk m (journal_in run m)) e) in
    ap (map (receive copies))
    (set_mapped (seat_in run) (seat_in (done_more m e run)) r.makers k m (with_one e (seat_in run m)) a p (entered_here m e run)
    (λ n h. entered_there n m e run h))
    ∙ both_maps (receive copies) (seat_in (done_more m e run)) r.makers
    ∙ same_map (λ n. receive copies (seat_in (done_more m e run) n)) (seat_in (with_entry m e run)) r.makers (λ n i. put_there n m e run)

unchanged : (r : Rules) (run : Run) (k : ℕ) (m : Maker) → AreApart r.makers → IsPlaced k r.makers m
    → map (receive []) (set (map (seat_in run) r.makers) k (seat_in run m)) ≡ map (seat_in run) r.makers
unchanged r run k m a p = received_none _ ∙ set_mapped (seat_in run) (seat_in run) r.makers k m (seat_in run m) a p refl (λ n h. refl)

pub given_is : (r : Rules) (run : Run) (k : ℕ) (m : Maker) (mover : Mover) → AreApart r.makers → IsPlaced k r.makers m
    → given_at k mover (seat_in run m) (map (seat_in run) r.makers) ≡ map (seat_in (give m mover run)) r.makers
unfolding give seat_given parcels_given
given_is r run k m mover a p = go (moves m (journal_in run m) mover)
  where
    e : Entry
    e = entry_of m (journal_in run m) mover

    go : (b : Bool)
        → map (receive (flat_map (copies_of m.id) (cond b (added m (walk m (journal_in run m)) (entry_of m (journal_in run m) mover)) [])))
        (set (map (seat_in run) r.makers) k (cond b (with_one (entry_of m (journal_in run m) mover) (seat_in run m)) (seat_in run m)))
        ≡ map (seat_in (cond b (with_entry m (entry_of m (journal_in run m) mover) run) run)) r.makers
    go true = entered r run k m (entry_of m (journal_in run m) mover) a p
    go false = unchanged r run k m a p

-- ---- a hearing

out_here : (m : Maker) (k : ℕ) (run : Run) → seat_in (taken_out m k run) m ≡ record (seat_in run m) { way = remove (waiting_in run m) k }
out_here m k run =
    let f : List Pending → SeatView = λ l. record (seat_in run m) { way = l } in
    ap f (of_without m.id k run.way)

out_there : (n m : Maker) (k : ℕ) (run : Run) → is_same n.id m.id ≡ false → seat_in (taken_out m k run) n ≡ seat_in run n
out_there n m k run h =
    let f : List Pending → SeatView = λ l. record (seat_in run n) { way = l } in
    ap f (of_without_other n.id m.id k run.way h)

abbrev turned_too : Maker → ℕ → Pending → Refusal → Run → Run
turned_too m k c x run = declined m c x (taken_out m k run)

more_turned : (l : List Declined) (d : Declined) → flat_map turned_of (l ++ d ∷ []) ≡ flat_map turned_of l ++ turned_of d
more_turned l d = flat_map-append turned_of l (d ∷ []) ∙ ap (λ q. flat_map turned_of l ++ q) (append-nil (turned_of d))

turned_here : (m : Maker) (k : ℕ) (c : Pending) (x : Refusal) (run : Run) → seat_in (turned_too m k c x run) m ≡ with_turned c.origin c.number x (record (seat_in run m) { way = remove (waiting_in run m) k })
turned_here m k c x run =
    let d : Declined = record { copy = c; refusal = x } in
    let f : List Pending → SeatView = λ l. record
    (seat_in run m) { way = l; turned = flat_map turned_of (of m.id (run.turned ++ (m.id, d) ∷ [])) } in
    let g : List Turned → SeatView = λ l. record (seat_in run m) { way = remove (waiting_in run m) k; turned = l } in
    ap f (of_without m.id k run.way)
    ∙ ap g (ap (λ (l : List Declined). flat_map turned_of l) (of_more m.id m.id run.turned d (same_self m.id))
    ∙ more_turned (declined_in run m) d)

turned_there : (n m : Maker) (k : ℕ) (c : Pending) (x : Refusal) (run : Run) → is_same n.id m.id ≡ false
    → seat_in (turned_too m k c x run) n ≡ seat_in run n
turned_there n m k c x run h =
    let d : Declined = record { copy = c; refusal = x } in
    let f : List Pending → SeatView = λ l. record
    (seat_in run n) { way = l; turned = flat_map turned_of (of n.id (run.turned ++ (m.id, d) ∷ [])) } in
    let g : List Declined → SeatView = λ l. record (seat_in run n) { turned = flat_map turned_of l } in
    ap f (of_without_other n.id m.id k run.way h) ∙ ap g (of_kept n.id m.id run.turned d h)

-- hearing puts nothing
heard_entry : (m : Maker) (e : Entry) (run : Run) → added m (walk m (journal_in run m)) e ≡ [] → (n : Maker)
    → seat_in (with_entry m e run) n ≡ seat_in (done_more m e run) n
unfolding with_entry
heard_entry m e run h n =
    let f : List Pending → SeatView = λ l. record (seat_in (done_more m e run) n) { way = l } in
    ap f (of-append n.id run.way _ ∙ ap (λ l. of n.id run.way ++ of n.id (flat_map (copies_of m.id) l)) h ∙ append-nil (of n.id run.way))

nothing_put : (m : Maker) (k : ℕ) (c : Pending) (x : Message) (run : Run)
    → added m (walk m (journal_in (taken_out m k run) m)) (Entry.Heard c.origin x) ≡ []
unfolding added Rattle.run_words.specs.Journal.copies
nothing_put m k c x run = refl

pub heard_is : (r : Rules) (run : Run) (place : ℕ) (m : Maker) (k : ℕ) (c : Pending) → AreApart r.makers → IsPlaced place r.makers m
    → heard_at place k c (seat_in run m) (map (seat_in run) r.makers) ≡ map (seat_in (hear m k c run)) r.makers
unfolding hear seat_heard
heard_is r run place m k c a p = go (reads m c.load)
  where
    go : (q : Result Message Refusal)
        → set (map (seat_in run) r.makers) place (heard_by c (record (seat_in run m) { way = remove (waiting_in run m) k }) q)
        ≡ map (seat_in (hear_by m c (taken_out m k run) q)) r.makers
    go (Ok x) =
        let e : Entry = Entry.Heard c.origin x in
        let run1 : Run = taken_out m k run in
        set_mapped (seat_in run) (seat_in (with_entry m e run1)) r.makers place m _ a p
        (heard_entry m e run1 (nothing_put m k c x run) m ∙ entered_here m e run1 ∙ ap (with_one e) (out_here m k run))
        (λ n h. heard_entry m e run1 (nothing_put m k c x run) n ∙ entered_there n m e run1 h ∙ out_there n m k run h)
    go (Err refusal) =
        set_mapped (seat_in run) (seat_in (turned_too m k c refusal run)) r.makers place m _ a p (turned_here m k c refusal run)
        (λ n h. turned_there n m k c refusal run h)

-- ---- the number of entries

one_longer : (m : Maker) (e : Entry) (run : Run) → length (with_entry m e run).done ≡ length run.done + 1
unfolding with_entry
one_longer m e run = length-append run.done ((m.id, e) ∷ [])

pub given_long : (m : Maker) (mover : Mover) (run : Run)
    → length (give m mover run).done ≡ length run.done + cond (moves m (journal_in run m) mover) 1 0
unfolding give
given_long m mover run = go (moves m (journal_in run m) mover)
  where
    go : (b : Bool) → length (cond b (with_entry m (entry_of m (journal_in run m) mover) run) run).done ≡ length run.done + cond b 1 0
    go true = one_longer m (entry_of m (journal_in run m) mover) run
    go false = sym (add-zero (length run.done))

pub heard_long : (m : Maker) (k : ℕ) (c : Pending) (run : Run)
    → length (hear m k c run).done ≡ length run.done + cond (is_read (reads m c.load)) 1 0
unfolding hear
heard_long m k c run = go (reads m c.load)
  where
    go : (q : Result Message Refusal) → length (hear_by m c (taken_out m k run) q).done ≡ length run.done + cond (is_read q) 1 0
    go (Ok x) = one_longer m (Entry.Heard c.origin x) (taken_out m k run)
    go (Err e) = sym (add-zero (length run.done))

-- ---- a step

pub acted : (r : Rules) (run : Run) (place : ℕ) (m : Maker) (choice : Choice) (s : Step) (now : List SeatView) (grew : Bool)
    → AreApart r.makers → IsPlaced place r.makers m → IsChosen (seat_in run m) choice s → IsStep r run s
    → Acts place choice (seat_in run m) (map (seat_in run) r.makers) now grew
    → (now ≡ map (seat_in (take_step run s)) r.makers) × (length (take_step run s).done ≡ length run.done + cond grew 1 0)
acted r run place m (Choice.Hear j) (Step.Hear n k c) now grew a p x i h =
    let at_m : get_or (waiting_in run m) j c
    ≡ c = subst (λ (y : Maker). get_or (waiting_in run y) j c ≡ c) x.0 (subst (λ q. get_or (waiting_in run n) q c ≡ c) x.1 i.2) in
    let d = h c at_m in
    let t : hear m j c run ≡ hear n k c run = ap (λ y. hear y j c run) (sym x.0) ∙ ap (λ q. hear n q c run) (sym x.1) in (
      d.0 ∙ heard_is r run place m j c a p ∙ ap (λ (y : Run). map (seat_in y) r.makers) t,
      ap (λ (y : Run). length y.done) (sym t) ∙ heard_long m j c run ∙ ap (λ b. length run.done + cond b 1 0) (sym d.1),
    )
acted r run place m (Choice.Give w) (Step.Give n v) now grew a p x i h =
    let t : give m w run ≡ give n v run = ap (λ y. give y w run) (sym x.0) ∙ ap (λ q. give n q run) (sym x.1) in (
      h.0 ∙ given_is r run place m w a p ∙ ap (λ (y : Run). map (seat_in y) r.makers) t,
      ap (λ (y : Run). length y.done) (sym t) ∙ given_long m w run ∙ ap (λ b. length run.done + cond b 1 0) (sym h.1),
    )
acted r run place m (Choice.Hear j) (Step.Give n v) now grew a p x i h = absurd x
acted r run place m (Choice.Give w) (Step.Hear n k c) now grew a p x i h = absurd x
