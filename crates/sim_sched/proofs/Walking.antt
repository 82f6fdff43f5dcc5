-- The timeouts of a script are gone through: one look of the code is one step of the fold.
use Rattle.std.proofs.Common.{◌≡◌, ℕ, zero, suc, ◌+◌, ◌<◌, ◌≤◌, Bool, true, false, cond, List, [], ◌∷◌, ◌++◌, map, length, get_or, set, take, drop, remove, inl, inr, refl, sym, ap, subst, ◌∙◌, arith, add-one, true≢false, flat_map}
use Rattle.std.proofs.lemmas.Bool.Decides.{nat_tests}
use Rattle.fab_base.specs.Limits.{Roster}
use Rattle.fab_base.specs.declared.ids.ReplicaId.{ReplicaId}
use Rattle.fab_rules.specs.Lists.{In}
use Rattle.fault_script.specs.declared.twists.TimeoutLine.{TimeoutLine}
use Rattle.bft_verify.specs.Ring.{Ring}
use Rattle.run_words.specs.Keyed.{is_same}
use Rattle.run_words.specs.Journal.{Maker, added, walk, moves, entry_of}
use Rattle.run_words.specs.Lawful.{IsApart, AreApart}
use Rattle.run_words.specs.Runs.{Rules, Run, Line, Phase, copies_of, give, ended, look, is_due, next, next_in}
use Rattle.run_words.specs.declared.movers.Mover.{Mover}
use Rattle.run_words.specs.declared.logs.Moment.{Moment}
use Rattle.run_words.proofs.Keys.{same_self, other_turned}
use Rattle.rand_chacha.specs.ChaCha.{ChaCha}
use Rattle.sim_sched.specs.Seats.{SeatView, seat_in, receive, seat_given, parcels_given, with_one}
use Rattle.sim_sched.specs.Putting.{IsNone, ids_of, given_at}
use Rattle.sim_sched.specs.Simulating.{AreRules, IsLine, AreLines, IsHeld, IsTimed, IsReady}
use Rattle.sim_sched.specs.Playing.{IsReached, IsIn, IsBefore, IsEnded, WalkedBy, Walked}
use Rattle.sim_sched.specs.declared.rounds.Round.{Round}
use Rattle.sim_sched.proofs.Picking.{long_map}
use Rattle.sim_sched.proofs.Bridge.{IsPlaced, placed, placed_view}
use Rattle.sim_sched.proofs.Ready.{some_at, ready_given}
use Rattle.sim_sched.proofs.Receiving.{received_none}
use Rattle.sim_sched.proofs.EachInTurn.{reached_to, spent_is, spent_not, ended_by, held_given}

-- ---- who gets it

none_has : (makers : List Maker) (m : Maker) → In m makers → IsNone m.id (map (λ n. n.id) makers) → ⊥
none_has [] m i n = absurd i
none_has (x ∷ rest) m (inl e) n =
    true≢false (sym (same_self m.id) ∙ subst (λ (y : Maker). is_same m.id y.id ≡ false) e n.0)
none_has (x ∷ rest) m (inr i) n = none_has rest m i n.1

apart_none : (x m : Maker) (makers : List Maker) → IsApart x makers → In m makers → is_same x.id m.id ≡ false
apart_none x m [] a i = absurd i
apart_none x m (y ∷ rest) a (inl e) = subst (λ (z : Maker). is_same x.id z.id ≡ false) e a.0
apart_none x m (y ∷ rest) a (inr i) = apart_none x m rest a.1 i

in_placed : (makers : List Maker) (k : ℕ) (m : Maker) → IsPlaced k makers m → In m makers
in_placed [] k m p = absurd p
in_placed (n ∷ rest) zero m p = inl p
in_placed (n ∷ rest) (suc k) m p = inr (in_placed rest k m p)

-- of those that are apart one has an id
only_one : (makers : List Maker) (k : ℕ) (m n : Maker) → AreApart makers → In m makers → IsPlaced k makers n → is_same m.id n.id ≡ true → n ≡ m
only_one [] k m n a i p s = absurd i
only_one (x ∷ rest) zero m n a (inl e) p s = sym p ∙ e
only_one (x ∷ rest) zero m n a (inr i) p s =
    let other : is_same n.id m.id ≡ false = subst (λ (y : Maker). is_same y.id m.id ≡ false) p (apart_none x m rest a.0 i) in
    absurd (true≢false (sym s ∙ other_turned _ _ other))
only_one (x ∷ rest) (suc k) m n a (inl e) p s =
    let other : is_same m.id n.id ≡ false = subst (λ (y : Maker). is_same y.id n.id ≡ false) e (apart_none x n rest a.0 (in_placed rest k n p)) in
    absurd (true≢false (sym s ∙ other))
only_one (x ∷ rest) (suc k) m n a (inr i) p s = only_one rest k m n a.1 i p s

ids_seated : (run : Run) (makers : List Maker) → ids_of (map (seat_in run) makers) ≡ map (λ n. n.id) makers
ids_seated run [] = refl
ids_seated run (m ∷ rest) = ap (λ l. m.id ∷ l) (ids_seated run rest)

-- ---- a timeout at the seats

set_same : (views : List SeatView) (k : ℕ) (v : SeatView) → get_or views k v ≡ v → set views k v ≡ views
set_same [] zero v e = refl
set_same [] (suc k) v e = refl
set_same (x ∷ rest) zero v e = ap (λ y. y ∷ rest) (sym e)
set_same (x ∷ rest) (suc k) v e = ap (λ l. x ∷ l) (set_same rest k v e)

-- an event that makes no entry leaves the seats
given_none : (views : List SeatView) (place : ℕ) (mover : Mover) (v : SeatView) → get_or views place v ≡ v → moves v.maker v.journal mover ≡ false
    → given_at place mover v views ≡ views
unfolding seat_given parcels_given
given_none views place mover v e n =
    ap (λ b. map (receive (flat_map (copies_of v.maker.id) (cond b (added v.maker (walk v.maker v.journal) (entry_of v.maker v.journal mover)) [])))
    (set views place (cond b (with_one (entry_of v.maker v.journal mover) v) v))) n
    ∙ received_none (set views place v) ∙ set_same views place v e

pub calm_timed : (i : ReplicaId) (views now : List SeatView) (grew : Bool) → grew ≡ false → IsTimed i views now grew → now ≡ views
calm_timed i views now grew f (inl h) = h.1
calm_timed i views now grew f (inr h) =
    let v = some_at views h.0 h.1 in
    let d = h.2 v.0 v.1 in
    d.1 ∙ given_none views h.0 Mover.Timeout v.0 v.1 (sym d.2 ∙ f)

pub ready_timed : (members : Roster) (ring : Ring) (ids : List ReplicaId) (i : ReplicaId) (views now : List SeatView) (grew : Bool) → IsTimed i views now grew
    → IsReady members ring ids views → IsReady members ring ids now
ready_timed members ring ids i views now grew (inl h) a = subst (λ (l : List SeatView). IsReady members ring ids l) (sym h.1) a
ready_timed members ring ids i views now grew (inr h) a =
    let v = some_at views h.0 h.1 in
    subst (λ (l : List SeatView). IsReady members ring ids l) (sym (h.2 v.0 v.1).1)
    (ready_given members ring ids views h.0 Mover.Timeout v.0 h.1 v.1 a)

-- it goes to the line's replica
held_timed : (r : Rules) (key : List ℕ) (run : Run) (views now : List SeatView) (g : ChaCha) (entries patience turns : ℕ) (moments : List Moment) (timeout : TimeoutLine) (line : Line) (grew : Bool)
    → AreRules r key turns → IsLine r.makers timeout line → IsTimed timeout.replica views now grew
    → IsHeld r key run views g entries patience moments
    → IsHeld r key (give line.maker Mover.Timeout run) now g (entries + cond grew 1 0) patience moments
held_timed r key run views now g entries patience turns moments timeout line grew u l (inl h) held =
    let none : IsNone line.maker.id (map (λ n. n.id) r.makers) =
    subst (λ (i : ReplicaId). IsNone i (map (λ n. n.id) r.makers)) (sym l.1)
    (subst (λ (k : List ReplicaId). IsNone timeout.replica k) (ap ids_of held.seated ∙ ids_seated run r.makers) h.0) in
    absurd (none_has r.makers line.maker l.0 none)
held_timed r key run views now g entries patience turns moments timeout line grew u l (inr h) held =
    let size : length views ≡ length r.makers = ap length held.seated ∙ long_map (seat_in run) r.makers in
    let w = h.1 in
    let m = placed r.makers h.0 (omega arith) in
    let v : SeatView = seat_in run m.0 in
    let here : get_or views h.0 v ≡ v = ap (λ (k : List SeatView). get_or k h.0 v) held.seated
    ∙ placed_view (seat_in run) r.makers h.0 m.0 v m.1 in
    let d = h.2 v here in
    let same : is_same line.maker.id m.0.id ≡ true = subst (λ (i : ReplicaId). is_same i m.0.id ≡ true) (sym l.1) d.0 in
    let one : m.0 ≡ line.maker = only_one r.makers h.0 line.maker m.0 u.distinct l.0 m.1 same in
    subst (λ (n : Maker). IsHeld r key (give n Mover.Timeout run) now g (entries + cond grew 1 0) patience moments) one
    (held_given r key run views now g entries patience turns h.0 moments Mover.Timeout m.0 grew u m.1 d.1 d.2 held)

-- ---- lines

one_more : (makers : List Maker) (ts : List TimeoutLine) (ls : List Line) (t : TimeoutLine) (l : Line) → AreLines makers ts ls → IsLine makers t l
    → AreLines makers (ts ++ t ∷ []) (ls ++ l ∷ [])
one_more makers [] [] t l a h = (h, tt)
one_more makers (x ∷ ts) (y ∷ ls) t l a h = (a.0, one_more makers ts ls t l a.1 h)
one_more makers [] (y ∷ ls) t l a h = absurd a
one_more makers (x ∷ ts) [] t l a h = absurd a

drop_one : (ts : List TimeoutLine) (k : ℕ) (t : TimeoutLine) → k < length ts → get_or ts k t ≡ t → drop k ts ≡ t ∷ drop (suc k) ts
drop_one [] k t h e = absurd (omega arith)
drop_one (x ∷ ts) zero t h e = ap (λ y. y ∷ ts) e
drop_one (x ∷ ts) (suc k) t h e = drop_one ts k t (omega arith) e

take_one : (ts : List TimeoutLine) (k : ℕ) (t : TimeoutLine) → k < length ts → get_or ts k t ≡ t → take (suc k) ts ≡ take k ts ++ t ∷ []
take_one [] k t h e = absurd (omega arith)
take_one (x ∷ ts) zero t h e = ap (λ y. y ∷ []) e
take_one (x ∷ ts) (suc k) t h e = ap (λ l. x ∷ l) (take_one ts k t (omega arith) e)

take_removed : (ts : List TimeoutLine) (k : ℕ) → k < length ts → take k (remove ts k) ≡ take k ts
take_removed [] k h = absurd (omega arith)
take_removed (x ∷ ts) zero h = refl
take_removed (x ∷ ts) (suc k) h = ap (λ l. x ∷ l) (take_removed ts k (omega arith))

drop_removed : (ts : List TimeoutLine) (k : ℕ) → k < length ts → drop k (remove ts k) ≡ drop (suc k) ts
drop_removed [] k h = absurd (omega arith)
drop_removed (x ∷ ts) zero h = refl
drop_removed (x ∷ ts) (suc k) h = drop_removed ts k (omega arith)

take_whole : (ts : List TimeoutLine) (k : ℕ) → length ts ≤ k → take k ts ≡ ts
take_whole [] zero h = refl
take_whole [] (suc k) h = refl
take_whole (x ∷ ts) zero h = absurd (omega arith)
take_whole (x ∷ ts) (suc k) h = ap (λ l. x ∷ l) (take_whole ts k (omega arith))

drop_whole : (ts : List TimeoutLine) (k : ℕ) → length ts ≤ k → drop k ts ≡ []
drop_whole [] zero h = refl
drop_whole [] (suc k) h = refl
drop_whole (x ∷ ts) zero h = absurd (omega arith)
drop_whole (x ∷ ts) (suc k) h = drop_whole ts k (omega arith)

-- ---- the walk

-- a run that goes through its lines: those looked at, which weren't due, and those to come
abbrev pub IsWalking : Rules → List ℕ → List TimeoutLine → List TimeoutLine → List SeatView → ChaCha → ℕ → ℕ → List Moment → Type 0
IsWalking r key kept rest views g entries patience moments =
    (run : Run) × IsReached r run × (ks : List Line) × (ls : List Line) × (run.phase ≡ Phase.Lines ks ls) × AreLines r.makers kept ks
    × AreLines r.makers rest ls × IsHeld r key run views g entries patience moments

abbrev IsWalkingOn : Rules → List ℕ → List TimeoutLine → TimeoutLine → List TimeoutLine → List SeatView → ChaCha → ℕ → ℕ → List Moment → Type 0
IsWalkingOn r key kept t rest views g entries patience moments = IsWalking r key kept (t ∷ rest) views g entries patience moments

module _ (r : Rules) (key : List ℕ) (views : List SeatView) (g : ChaCha) (entries patience turns : ℕ) (moments : List Moment) (u : AreRules r key turns) where
  pub walk_first : (ts : List TimeoutLine) → IsBefore r key ts views g entries patience moments → IsWalking r key [] ts views g entries patience moments
  walk_first ts (run, w, o) = (run, w, [], o.lines, o.phase, tt, o.are, o.held)

  -- the run is cut off before the next one is looked at
  pub walk_spent : (kept rest : List TimeoutLine) (t : TimeoutLine) → turns ≤ entries → IsWalking r key kept (t ∷ rest) views g entries patience moments
      → IsEnded r true views patience moments
  walk_spent kept rest t s (run, w, ks, [], p, a, b, held) = absurd b
  walk_spent kept rest t s (run, w, ks, (l ∷ ls), p, a, b, held) =
      let end : Run = ended true run in
      let e : next r run ≡ end = ap (next_in r run) p
      ∙ ap (λ x. cond x (ended true run) (look run ks l ls (is_due run l))) (spent_is r run turns entries u.turns_so held.counted s) in
      ended_by r end views patience moments true (reached_to r run end w e) refl held.seated held.left held.noted

  next_line : (run : Run) (ks ls : List Line) (l : Line) (due : Bool) → run.phase ≡ Phase.Lines ks (l ∷ ls) → entries < turns → entries ≡ length run.done
      → is_due run l ≡ due → next r run ≡ look run ks l ls due
  next_line run ks ls l due p s c d =
      ap (next_in r run) p
      ∙ ap (λ x. cond x (ended true run) (look run ks l ls (is_due run l))) (spent_not r run turns entries u.turns_so c s)
      ∙ ap (look run ks l ls) d

  -- it isn't due
  pub walk_kept : (kept rest : List TimeoutLine) (t : TimeoutLine) → entries < turns → entries < t.entries
      → IsWalking r key kept (t ∷ rest) views g entries patience moments → IsWalking r key (kept ++ t ∷ []) rest views g entries patience moments
  walk_kept kept rest t s d (run, w, ks, [], p, a, b, held) = absurd b
  walk_kept kept rest t s d (run, w, ks, (l ∷ ls), p, a, b, held) =
      let then : Run = record run { phase = Phase.Lines (ks ++ l ∷ []) ls } in
      let c = held.counted in
      let n : l.entries ≡ t.entries = b.0.2 in
      let late : length run.done < l.entries = omega arith in
      let due : is_due run l ≡ false = grind (arith, nat_tests) in (
        then,
        reached_to r run then w (next_line run ks ls l false p s held.counted due),
        ks ++ l ∷ [],
        ls,
        refl,
        one_more r.makers kept ks t l a b.0,
        b.1,
        record { seated = held.seated; placed = held.placed; counted = held.counted; left = held.left; noted = held.noted },
      )

  -- it is, and is given
  pub walk_given : (kept rest : List TimeoutLine) (t : TimeoutLine) (now : List SeatView) (grew : Bool) → entries < turns → t.entries ≤ entries
      → IsTimed t.replica views now grew → IsWalking r key kept (t ∷ rest) views g entries patience moments
      → IsWalking r key kept rest now g (entries + cond grew 1 0) patience moments
  walk_given kept rest t now grew s d x (run, w, ks, [], p, a, b, held) = absurd b
  walk_given kept rest t now grew s d x (run, w, ks, (l ∷ ls), p, a, b, held) =
      let given : Run = give l.maker Mover.Timeout run in
      let then : Run = record given { given = run.given ++ l ∷ []; phase = Phase.Lines ks ls } in
      let c = held.counted in
      let n : l.entries ≡ t.entries = b.0.2 in
      let soon : l.entries ≤ length run.done = omega arith in
      let due : is_due run l ≡ true = grind (arith, nat_tests) in
      let k = held_timed r key run views now g entries patience turns moments t l grew u b.0 x held in (
        then,
        reached_to r run then w (next_line run ks ls l true p s held.counted due),
        ks,
        ls,
        refl,
        a,
        b.1,
        record { seated = k.seated; placed = k.placed; counted = k.counted; left = k.left; noted = k.noted },
      )

  -- all were looked at
  pub walk_whole : (kept : List TimeoutLine) → IsWalking r key kept [] views g entries patience moments
      → IsIn r key Phase.Pick kept views g entries patience moments
  walk_whole kept (run, w, ks, [], p, a, b, held) =
      let then : Run = record run { lines = ks; phase = Phase.Pick } in (
        then,
        reached_to r run then w (ap (next_in r run) p),
        refl,
        a,
        record { seated = held.seated; placed = held.placed; counted = held.counted; left = held.left; noted = held.noted },
      )
  walk_whole kept (run, w, ks, (l ∷ ls), p, a, b, held) = absurd b

-- what the loop over the lines keeps
pub record WalksSo (members : Roster) (ring : Ring) (ids : List ReplicaId) (first views : List SeatView) (begun ts : List TimeoutLine) (before turns entries place : ℕ) : Type 0 where
  pub ready : IsReady members ring ids views
  pub within : entries ≤ turns
  pub since : before ≤ entries
  pub calm : entries ≡ before → views ≡ first
  pub walks : (r : Rules) (key : List ℕ) (g : ChaCha) (patience : ℕ) (moments : List Moment) → AreRules r key turns
      → IsBefore r key begun first g before patience moments
      → IsWalking r key (take place ts) (drop place ts) views g entries patience moments

pub walks_first : (members : Roster) (ring : Ring) (ids : List ReplicaId) (views : List SeatView) (ts : List TimeoutLine) (before turns : ℕ) → before ≤ turns
    → IsReady members ring ids views → WalksSo members ring ids views views ts ts before turns before 0
walks_first members ring ids views ts before turns h q = record {
  ready = q;
  within = h;
  since = omega arith;
  calm = λ e. refl;
  walks = λ r key g patience moments u b. walk_first r key views g before patience turns moments u ts b;
}

module _ (members : Roster) (ring : Ring) (ids : List ReplicaId) (first views : List SeatView) (begun ts : List TimeoutLine) (before turns entries place : ℕ)
    (so : WalksSo members ring ids first views begun ts before turns entries place) where
  pub walks_spent : (told : Round) → told.spent ≡ true → place < length ts → turns ≤ entries → Walked turns first before begun told views ts
  walks_spent told e h s r key g patience moments u b =
      let t = some_line ts place h in
      subst (λ x. WalkedBy r key told x ts views g patience moments) (sym e)
      (walk_spent r key views g entries patience turns moments u (take place ts) (drop (suc place) ts) t.0 s
      (subst (λ (l : List TimeoutLine). IsWalking r key (take place ts) l views g entries patience moments) (drop_one ts place t.0 h t.1)
      (so.walks r key g patience moments u b)))
    where
      some_line : (xs : List TimeoutLine) (k : ℕ) → k < length xs → (x : TimeoutLine) × (get_or xs k x ≡ x)
      some_line xs k h = some_at xs k h

  pub walks_kept : (t : TimeoutLine) → get_or ts place t ≡ t → place < length ts → entries < turns → entries < t.entries
      → WalksSo members ring ids first views begun ts before turns entries (place + 1)
  walks_kept t e h s d = record {
    ready = so.ready;
    within = so.within;
    since = so.since;
    calm = so.calm;
    walks = λ r key g patience moments u b.
        let a = walk_kept r key views g entries patience turns moments u (take place ts) (drop (suc place) ts) t s d
        (subst (λ (l : List TimeoutLine). IsWalking r key (take place ts) l views g entries patience moments) (drop_one ts place t h e)
        (so.walks r key g patience moments u b)) in
        subst (λ k. IsWalking r key (take k ts) (drop k ts) views g entries patience moments) (sym (add-one place))
        (subst (λ (l : List TimeoutLine). IsWalking r key l (drop (suc place) ts) views g entries patience moments) (sym (take_one ts place t h e)) a);
  }

  pub walks_given : (t : TimeoutLine) (now : List SeatView) (left : List TimeoutLine) (more : ℕ) (grew : Bool) → get_or ts place t ≡ t → place < length ts
      → entries < turns → t.entries ≤ entries → left ≡ remove ts place → IsTimed t.replica views now grew → more ≡ entries + cond grew 1 0
      → WalksSo members ring ids first now begun left before turns more place
  walks_given t now left more grew e h s d q x m = record {
    ready = ready_timed members ring ids t.replica views now grew x so.ready;
    within = at_most grew m;
    since = at_least grew m;
    calm = by_grew grew refl;
    walks = λ r key g patience moments u b.
        let a = walk_given r key views g entries patience turns moments u (take place ts) (drop (suc place) ts) t now grew s d x
        (subst (λ (l : List TimeoutLine). IsWalking r key (take place ts) l views g entries patience moments) (drop_one ts place t h e)
        (so.walks r key g patience moments u b)) in
        subst (λ n. IsWalking r key (take place left) (drop place left) now g n patience moments) (sym m)
        (subst (λ (l : List TimeoutLine). IsWalking r key (take place l) (drop place l) now g (entries + cond grew 1 0) patience moments) (sym q)
        (subst (λ (l : List TimeoutLine). IsWalking r key l (drop place (remove ts place)) now g (entries + cond grew 1 0) patience moments)
        (sym (take_removed ts place h))
        (subst (λ (l : List TimeoutLine). IsWalking r key (take place ts) l now g (entries + cond grew 1 0) patience moments)
        (sym (drop_removed ts place h)) a)));
  }
    where
      at_most : (b : Bool) → more ≡ entries + cond b 1 0 → more ≤ turns
      at_most true n = omega arith
      at_most false n = omega arith

      at_least : (b : Bool) → more ≡ entries + cond b 1 0 → before ≤ more
      at_least true n = let old = so.since in omega arith
      at_least false n = let old = so.since in omega arith

      by_grew : (b : Bool) → grew ≡ b → more ≡ before → now ≡ first
      by_grew true f n =
          let k : more ≡ entries + 1 = m ∙ ap (λ y. entries + cond y 1 0) f in
          let old = so.since in
          absurd (omega arith)
      by_grew false f n =
          let k : more ≡ entries + 0 = m ∙ ap (λ y. entries + cond y 1 0) f in
          calm_timed t.replica views now grew f x ∙ so.calm (omega arith)

  pub walks_whole : (told : Round) → told.spent ≡ false → told.entries ≡ entries → length ts ≤ place → Walked turns first before begun told views ts
  walks_whole told e n h r key g patience moments u b =
      subst (λ x. WalkedBy r key told x ts views g patience moments) (sym e)
      (subst (λ k. IsIn r key Phase.Pick ts views g k patience moments) (sym n)
      (walk_whole r key views g entries patience turns moments u ts
      (subst (λ (l : List TimeoutLine). IsWalking r key l [] views g entries patience moments) (take_whole ts place h)
      (subst (λ (l : List TimeoutLine). IsWalking r key (take place ts) l views g entries patience moments) (drop_whole ts place h)
      (so.walks r key g patience moments u b)))))
