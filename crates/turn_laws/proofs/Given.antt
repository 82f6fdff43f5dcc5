-- Where Nudges and Timeouts stand in a journal, from one quiet moment on to the next.
use Rattle.std.proofs.Common.{◌≡◌, ℕ, zero, suc, ◌+◌, ◌<◌, ◌≤◌, ◌⊎◌, Bool, true, false, cond, not, ◌&&◌, ◌||◌, nat_eq, List, [], ◌∷◌, ◌++◌, map, length, take, Some, refl, sym, ap, subst, ◌∙◌, arith, inl, inr, append-nil, append_assoc}
use Rattle.std.specs.List.{slice_get, list_any, count_by, sum_by}
use Rattle.std.proofs.lemmas.Bool.Decides.{nat_tests}
use Rattle.std.proofs.lemmas.List.Sums.{sum_by-append, sum_by-cons}
use Rattle.fab_rules.specs.Lists.{In}
use Rattle.run_words.specs.Journal.{Maker, moves, entry_of, IsNext, IsMadeFrom, IsMade}
use Rattle.run_words.specs.Runs.{Rules}
use Rattle.run_words.specs.Lawful.{at_moment, but_last, is_named, is_named_by, IsDueOne, is_timed_out, free_from, Sane}
use Rattle.run_words.specs.declared.logs.Entry.{Entry}
use Rattle.run_words.specs.declared.logs.Moment.{Moment}
use Rattle.run_words.specs.declared.movers.Mover.{Mover}
use Rattle.turn_laws.specs.Ends.{End}
use Rattle.turn_laws.specs.Pauses.{Pause, moment_of, IsPause, given, GoesOn, Went, WentLast, AreOn, AreFollowed, is_timed, HasMoved, is_last_timed}
use Rattle.turn_laws.proofs.Pairs.{Grows, grows_both, before_of, on_as, on_both}
use Rattle.turn_laws.proofs.Cuts.{take_prefix}
use Rattle.turn_laws.proofs.Quiets.{number_in}

-- ---- a replica only grows

pub went_grows : (first : List Entry) (a b : End) → GoesOn first a b → Grows a b
went_grows first a b h = record { maker = h.maker; journal = (first ++ h.later, h.journal); links = h.links; requests = h.requests }

last_grows : (p : Pause) (a b : End) → WentLast p a b → Grows a b
last_grows p a b (inl h) = went_grows (given p a) a b h
last_grows p a b (inr h) = went_grows [] a b h

pub followed_on : (p : Pause) (rest : List Pause) (ends : List End) → AreFollowed (p ∷ rest) ends → AreOn Grows p.ends ends
followed_on p [] ends h = on_as (WentLast p) Grows p.ends ends (last_grows p) h
followed_on p (q ∷ rest) ends h =
    on_both (Went p) Grows Grows p.ends q.ends ends (λ a b c w g. grows_both a b c (went_grows (given p a) a b w) g) h.0 (followed_on q rest ends h.1)

-- from any moment to the end
pub each_on : (p : Pause) (pauses : List Pause) (ends : List End) → AreFollowed pauses ends → In p pauses → AreOn Grows p.ends ends
each_on p [] ends h i = absurd i
each_on p (q ∷ []) ends h (inl e) = subst (λ (x : Pause). AreOn Grows x.ends ends) e (followed_on q [] ends h)
each_on p (q ∷ []) ends h (inr none) = absurd none
each_on p (q ∷ s ∷ rest) ends h (inl e) = subst (λ (x : Pause). AreOn Grows x.ends ends) e (followed_on q (s ∷ rest) ends h)
each_on p (q ∷ s ∷ rest) ends h (inr i) = each_on p (s ∷ rest) ends h.1 i

-- and from one moment to each later one
pub between : (p q : Pause) (rest : List Pause) (ends : List End) (x : Pause) → AreFollowed (p ∷ q ∷ rest) ends → In x (q ∷ rest) → AreOn Grows p.ends x.ends
between p q rest ends x h (inl e) =
    subst (λ (y : Pause). AreOn Grows p.ends y.ends) e (on_as (Went p) Grows p.ends q.ends (λ a b w. went_grows (given p a) a b w) h.0)
between p q [] ends x h (inr none) = absurd none
between p q (s ∷ rest) ends x h (inr i) =
    on_both (Went p) Grows Grows p.ends q.ends x.ends (λ a b c w g. grows_both a b c (went_grows (given p a) a b w) g) h.0 (between q s rest ends x h.1 i)

-- ---- the way of one replica through the moments

abbrev pub Path : List Pause → End → End → Type 0
Path [] a e = ⊥
Path (p ∷ []) a e = WentLast p a e
Path (p ∷ q ∷ rest) a e = (b : End) × In b q.ends × Went p a b × Path (q ∷ rest) b e

pub path_of : (p : Pause) (rest : List Pause) (ends : List End) (e : End) → AreFollowed (p ∷ rest) ends → In e ends
    → (a : End) × In a p.ends × Path (p ∷ rest) a e
path_of p [] ends e h i = let k = before_of (WentLast p) p.ends ends e h i in (k.end, k.there, k.holds)
path_of p (q ∷ rest) ends e h i =
    let b = path_of q rest ends e h.1 i in
    let k = before_of (Went p) p.ends q.ends b.0 h.0 b.1 in
    (k.end, k.there, (b.0, b.1, k.holds, b.2))

pub path_grows : (p : Pause) (rest : List Pause) (a e : End) → Path (p ∷ rest) a e → Grows a e
path_grows p [] a e h = last_grows p a e h
path_grows p (q ∷ rest) a e h = grows_both a h.0 e (went_grows (given p a) a h.0 h.2) (path_grows q rest h.0 e h.3)

-- ---- places

get_cases : {X : Type 0} (xs ys : List X) (k : ℕ) (y : X) → slice_get (xs ++ ys) k ≡ Some y
    → (k < length xs) ⊎ ((j : ℕ) × (k ≡ length xs + j) × (slice_get ys j ≡ Some y))
get_cases [] ys k y h = inr (k, omega arith, h)
get_cases (x ∷ xs) ys zero y h = inl (omega arith)
get_cases (x ∷ xs) ys (suc k) y h = go (get_cases xs ys k y h)
  where
    go : (k < length xs) ⊎ ((j : ℕ) × (k ≡ length xs + j) × (slice_get ys j ≡ Some y))
        → (suc k < length (x ∷ xs)) ⊎ ((j : ℕ) × (suc k ≡ length (x ∷ xs) + j) × (slice_get ys j ≡ Some y))
    go (inl lt) = inl (omega (arith, lt))
    go (inr (j, e, g)) = inr (j, omega (arith, e), g)

pub get_front : {X : Type 0} (xs ys : List X) (k : ℕ) → k < length xs → slice_get (xs ++ ys) k ≡ slice_get xs k
get_front [] ys k h = absurd (omega (arith, h))
get_front (x ∷ xs) ys zero h = refl
get_front (x ∷ xs) ys (suc k) h = get_front xs ys k (omega (arith, h))

pub get_next : {X : Type 0} (xs ys : List X) (x : X) → slice_get (xs ++ x ∷ ys) (length xs) ≡ Some x
get_next [] ys x = refl
get_next (y ∷ xs) ys x = get_next xs ys x

pub get_in : {X : Type 0} (l : List X) (k : ℕ) (y : X) → slice_get l k ≡ Some y → In y l
get_in [] k y h = absurd cc
get_in (x ∷ l) zero y h = inl cc
get_in (x ∷ l) (suc k) y h = inr (get_in l k y h)

-- ---- nudges

-- a moment names a place in the replica's journal
pub record IsNamedIn (pauses : List Pause) (timed : Bool) (m : Maker) (k : ℕ) : Type 0 where
  pub pause : Pause
  pub there : In pause pauses
  pub is_timed : pause.timed ≡ timed
  pub end : End
  pub inside : In end pause.ends
  pub same : end.maker ≡ m
  pub place : k ≡ length end.journal

later_named : (p : Pause) (rest : List Pause) (timed : Bool) (m : Maker) (k : ℕ) → IsNamedIn rest timed m k → IsNamedIn (p ∷ rest) timed m k
later_named p rest timed m k h =
    record { pause = h.pause; there = inr h.there; is_timed = h.is_timed; end = h.end; inside = h.inside; same = h.same; place = h.place }

abbrev pub due_by : Bool → Mover
due_by timed = cond timed Mover.Timeout Mover.Nudge

nudge_given : (m : Maker) (journal : List Entry) (timed b : Bool) (j : ℕ)
    → slice_get (cond b (entry_of m journal (due_by timed) ∷ []) []) j ≡ Some Entry.Nudged
    → (timed ≡ false) × (j ≡ 0)
nudge_given m journal timed false j h = absurd cc
nudge_given m journal true true zero h = absurd cc
nudge_given m journal true true (suc j) h = absurd cc
nudge_given m journal false true zero h = (refl, refl)
nudge_given m journal false true (suc j) h = absurd cc

abbrev IsOld : Pause → End → ℕ → Type 0
IsOld p a k = (k < length a.journal) ⊎ ((p.timed ≡ false) × (k ≡ length a.journal))

step_by : (p : Pause) (a : End) (first later : List Entry) (k : ℕ)
    → ((j : ℕ) → slice_get first j ≡ Some Entry.Nudged → (p.timed ≡ false) × (j ≡ 0)) → (In Entry.Nudged later → ⊥)
    → slice_get (a.journal ++ (first ++ later)) k ≡ Some Entry.Nudged → IsOld p a k
step_by p a first later k f none h = go (get_cases a.journal (first ++ later) k Entry.Nudged h)
  where
    inside : (j : ℕ) → k ≡ length a.journal + j → (j < length first) ⊎ ((i : ℕ) × (j ≡ length first + i) × (slice_get later i ≡ Some Entry.Nudged))
        → slice_get (first ++ later) j ≡ Some Entry.Nudged → IsOld p a k
    inside j e (inl lt) g = let q = f j (sym (get_front first later j lt) ∙ g) in let z = q.1 in inr (q.0, omega (arith, e, z))
    inside j e (inr (i, d, g)) s = absurd (none (get_in later i Entry.Nudged g))

    go : (k < length a.journal) ⊎ ((j : ℕ) × (k ≡ length a.journal + j) × (slice_get (first ++ later) j ≡ Some Entry.Nudged)) → IsOld p a k
    go (inl lt) = inl lt
    go (inr (j, e, g)) = inside j e (get_cases first later j Entry.Nudged g) g

step_nudged : (p : Pause) (a b : End) (k : ℕ) → Went p a b → slice_get b.journal k ≡ Some Entry.Nudged → IsOld p a k
step_nudged p a b k w h =
    step_by p a (given p a) w.later k (nudge_given a.maker a.journal p.timed (moves a.maker a.journal (due_by p.timed))) w.unnudged
    (ap (λ l. slice_get l k) w.journal ∙ h)

last_nudged : (p : Pause) (a b : End) (k : ℕ) → WentLast p a b → slice_get b.journal k ≡ Some Entry.Nudged → IsOld p a k
last_nudged p a b k (inl w) h = step_nudged p a b k w h
last_nudged p a b k (inr w) h = step_by p a [] w.later k (λ j g. absurd cc) w.unnudged (ap (λ l. slice_get l k) w.journal ∙ h)

here_named : (p : Pause) (rest : List Pause) (a : End) (m : Maker) (k : ℕ) → In a p.ends → m ≡ a.maker → IsOld p a k
    → (k < length a.journal) ⊎ IsNamedIn (p ∷ rest) false m k
here_named p rest a m k i s (inl lt) = inl lt
here_named p rest a m k i s (inr (t, e)) =
    inr (record { pause = p; there = inl refl; is_timed = t; end = a; inside = i; same = sym s; place = e })

-- a nudged entry behind the first moment stands where a moment is
pub nudged_on : (p : Pause) (rest : List Pause) (a e : End) → In a p.ends → Path (p ∷ rest) a e → (k : ℕ) → slice_get e.journal k ≡ Some Entry.Nudged
    → (k < length a.journal) ⊎ IsNamedIn (p ∷ rest) false e.maker k
nudged_on p [] a e i w k h = here_named p [] a e.maker k i (path_grows p [] a e w).maker (last_nudged p a e k w h)
nudged_on p (q ∷ rest) a e i (b, inside, w, path) k h = go (nudged_on q rest b e inside path k h)
  where
    grows : Grows b e
    grows = path_grows q rest b e path

    go : (k < length b.journal) ⊎ IsNamedIn (q ∷ rest) false e.maker k → (k < length a.journal) ⊎ IsNamedIn (p ∷ q ∷ rest) false e.maker k
    go (inl lt) =
        let old : slice_get b.journal k ≡ Some Entry.Nudged =
        sym (get_front b.journal grows.journal.0 k lt) ∙ ap (λ l. slice_get l k) grows.journal.1 ∙ h in
        here_named p (q ∷ rest) a e.maker k i (grows.maker ∙ w.maker) (step_nudged p a b k w old)
    go (inr n) = inr (later_named p (q ∷ rest) false e.maker k n)

-- ---- as the transcript names it

or_right : (a b : Bool) → b ≡ true → (a || b) ≡ true
or_right true b h = refl
or_right false b h = h

any_in : (f : Moment → Bool) (x : Moment) (l : List Moment) → In x l → f x ≡ true → list_any f l ≡ true
any_in f x [] h e = absurd h
any_in f x (y ∷ l) (inl q) e = ap (λ b. b || list_any f l) (ap f q ∙ e)
any_in f x (y ∷ l) (inr h) e = or_right (f y) (list_any f l) (any_in f x l h e)

moment_in : (p : Pause) (pauses : List Pause) → In p pauses → In (moment_of p) (map moment_of pauses)
moment_in p [] h = absurd h
moment_in p (q ∷ rest) (inl e) = inl (ap moment_of e)
moment_in p (q ∷ rest) (inr h) = inr (moment_in p rest h)

same_number : (a b : ℕ) → a ≡ b → nat_eq a b ≡ true
same_number a b h = grind (arith, nat_tests)

of_kind : (timed t b : Bool) → t ≡ timed → b ≡ true → (cond timed t (not t) && b) ≡ true
of_kind true t b e h = ap (λ x. x && b) e ∙ h
of_kind false t b e h = ap (λ x. not x && b) e ∙ h

pub named_by : (r : Rules) (pauses : List Pause) (timed : Bool) (m : Maker) (k : ℕ) → Sane r → ((p : Pause) → In p pauses → IsPause r p)
    → IsNamedIn pauses timed m k
    → is_named_by r (map moment_of pauses) timed m.id k ≡ true
named_by r pauses timed m k s quiet n =
    any_in (is_named r timed m.id k) (moment_of n.pause) (map moment_of pauses) (moment_in n.pause pauses n.there)
    (of_kind timed n.pause.timed _ n.is_timed
    (same_number _ _ (ap (λ (x : Maker). at_moment r (moment_of n.pause) x.id) (sym n.same) ∙ number_in r n.pause s (quiet n.pause n.there) n.end n.inside ∙ sym n.place)))

-- ---- events that are due

-- the moment at which one was, and what came of it
pub record IsDueBy (pauses : List Pause) (x : Moment) (e : End) : Type 0 where
  pub pause : Pause
  pub there : In pause pauses
  pub is_of : moment_of pause ≡ x
  pub end : End
  pub inside : In end pause.ends
  pub same : e.maker ≡ end.maker
  pub later : List Entry
  pub goes : end.journal ++ (given pause end ++ later) ≡ e.journal

pub due_on : (p : Pause) (rest : List Pause) (a e : End) → In a p.ends → Path (p ∷ rest) a e → (x : Moment) → In x (but_last (map moment_of (p ∷ rest)))
    → IsDueBy (p ∷ rest) x e
due_on p [] a e i w x h = absurd h
due_on p (q ∷ rest) a e i (b, inside, w, path) x (inl s) =
    let g = path_grows q rest b e path in
    record {
      pause = p;
      there = inl refl;
      is_of = s;
      end = a;
      inside = i;
      same = g.maker ∙ w.maker;
      later = w.later ++ g.journal.0;
      goes =
          ap (λ l. a.journal ++ l) (sym (append_assoc (given p a) w.later g.journal.0)) ∙ sym (append_assoc a.journal (given p a ++ w.later) g.journal.0)
          ∙ ap (λ l. l ++ g.journal.0) w.journal ∙ g.journal.1;
    }
due_on p (q ∷ rest) a e i (b, inside, w, path) x (inr h) =
    let k = due_on q rest b e inside path x h in
    record { pause = k.pause; there = inr k.there; is_of = k.is_of; end = k.end; inside = k.inside; same = k.same; later = k.later; goes = k.goes }

-- an entry in a journal is one that its event makes there
made_at : (m : Maker) (front journal : List Entry) (n : ℕ) (e : Entry) → IsMadeFrom m front journal → slice_get journal n ≡ Some e
    → IsNext m (front ++ take n journal) e
made_at m front [] n e h g = absurd cc
made_at m front (x ∷ rest) zero e h g =
    (let same : x ≡ e = cc in subst (λ (l : List Entry). IsNext m l e) (sym (append-nil front)) (subst (IsNext m front) same h.0))
made_at m front (x ∷ rest) (suc n) e h g =
    subst (λ (l : List Entry). IsNext m l e) (append_assoc front (x ∷ []) (take n rest)) (made_at m (front ++ x ∷ []) rest n e h.1 g)

moved_at : (m : Maker) (journal : List Entry) (n : ℕ) (timed : Bool) → IsMade m journal
    → slice_get journal n ≡ Some (entry_of m (take n journal) (due_by timed))
    → moves m (take n journal) (due_by timed) ≡ true
moved_at m journal n true h g = made_at m [] journal n Entry.TimedOut h g
moved_at m journal n false h g = made_at m [] journal n Entry.Nudged h g

-- it stands where the moment was, just where it moves
pub is_due : (m : Maker) (front later journal : List Entry) (n : ℕ) (timed : Bool) → IsMade m journal → n ≡ length front
    → front ++ (cond (moves m front (due_by timed)) (entry_of m front (due_by timed) ∷ []) [] ++ later) ≡ journal
    → IsDueOne m journal n (due_by timed)
is_due m front later journal n timed made e g = (there, moved_at m journal n timed made)
  where
    mover : Mover
    mover = due_by timed

    cut : take n journal ≡ front
    cut = take_prefix front journal n e (_, g)

    go : (b : Bool) → b ≡ true → front ++ (cond b (entry_of m front mover ∷ []) [] ++ later) ≡ journal → slice_get journal n ≡ Some (entry_of m front mover)
    go true q k = ap (slice_get journal) e ∙ ap (λ l. slice_get l (length front)) (sym k) ∙ get_next front later (entry_of m front mover)
    go false q k = absurd cc

    there : moves m (take n journal) mover ≡ true → slice_get journal n ≡ Some (entry_of m (take n journal) mover)
    there h =
        go (moves m front mover) (ap (λ (l : List Entry). moves m l mover) (sym cut) ∙ h) g
        ∙ ap (λ (l : List Entry). Some (entry_of m l mover)) (sym cut)

-- ---- timeouts that no moment names

abbrev pub timeouts : List Entry → ℕ
timeouts l = count_by is_timed_out l

abbrev pub one_if : Bool → ℕ
one_if b = cond b 1 0

free_both : (over : ℕ → Bool) (k : ℕ) (a b : List Entry) (n : ℕ) → n ≡ k + length a
    → free_from over k (a ++ b) ≡ free_from over k a + free_from over n b
free_both over k [] b n e =
    let same : k ≡ n = omega (arith, e) in
    let q : free_from over k b ≡ free_from over n b = ap (λ (i : ℕ). free_from over i b) same in
    omega (arith, q)
free_both over k (x ∷ a) b n e = let later = free_both over (suc k) a b n (omega (arith, e)) in omega (arith, later)

fewer : (t o : Bool) → one_if (t && not o) ≤ one_if t
fewer false o = omega arith
fewer true true = omega arith
fewer true false = omega arith

pub free_few : (over : ℕ → Bool) (k : ℕ) (l : List Entry) → free_from over k l ≤ timeouts l
free_few over k [] = omega arith
free_few over k (x ∷ l) =
    let here = fewer (is_timed_out x) (over k) in
    let later = free_few over (suc k) l in
    let both = sum_by-cons (λ (e : Entry). one_if (is_timed_out e)) x l in
    omega (arith, here, later, both)

-- what a moment gives is named by it
given_free : (over : ℕ → Bool) (m : Maker) (journal : List Entry) (n : ℕ) (timed b : Bool) → (timed ≡ true → over n ≡ true)
    → free_from over n (cond b (entry_of m journal (due_by timed) ∷ []) []) ≡ 0
given_free over m journal n timed false h = refl
given_free over m journal n false true h = refl
given_free over m journal n true true h = ap (λ o. one_if (true && not o) + 0) (h refl)

free_step : (over : ℕ → Bool) (a b : End) (first : List Entry) → GoesOn first a b → free_from over (length a.journal) first ≡ 0
    → free_from over 0 b.journal + a.lined ≤ free_from over 0 a.journal + b.lined
free_step over a b first h none =
    let n = length a.journal in
    let whole : free_from over 0 b.journal ≡ free_from over 0 (a.journal ++ (first ++ h.later)) = ap (free_from over 0) (sym h.journal) in
    let outer = free_both over 0 a.journal (first ++ h.later) n (omega arith) in
    let inner = free_both over n first h.later (n + length first) refl in
    let few = free_few over (n + length first) h.later in
    let lined = h.lined in
    omega (arith, whole, outer, inner, few, lined, none)

-- the timed moments name the places of this way
abbrev pub Covers : (ℕ → Bool) → List Pause → Maker → Type 0
Covers over pauses m = (p : Pause) (a : End) → In p pauses → In a p.ends → a.maker ≡ m → p.timed ≡ true → over (length a.journal) ≡ true

free_went : (over : ℕ → Bool) (p : Pause) (a b : End) → (p.timed ≡ true → over (length a.journal) ≡ true) → Went p a b
    → free_from over 0 b.journal + a.lined ≤ free_from over 0 a.journal + b.lined
free_went over p a b c w =
    free_step over a b (given p a) w (given_free over a.maker a.journal (length a.journal) p.timed (moves a.maker a.journal (due_by p.timed)) c)

free_last : (over : ℕ → Bool) (p : Pause) (a b : End) → (p.timed ≡ true → over (length a.journal) ≡ true) → WentLast p a b
    → free_from over 0 b.journal + a.lined ≤ free_from over 0 a.journal + b.lined
free_last over p a b c (inl w) = free_went over p a b c w
free_last over p a b c (inr w) = free_step over a b [] w refl

pub free_on : (over : ℕ → Bool) (p : Pause) (rest : List Pause) (a e : End) → In a p.ends → Path (p ∷ rest) a e → Covers over (p ∷ rest) e.maker
    → free_from over 0 e.journal + a.lined ≤ free_from over 0 a.journal + e.lined
free_on over p [] a e i w c = free_last over p a e (c p a (inl refl) i (sym (path_grows p [] a e w).maker)) w
free_on over p (q ∷ rest) a e i (b, inside, w, path) c =
    let g = path_grows q rest b e path in
    let later = free_on over q rest b e inside path (λ x y h k s t. c x y (inr h) k s t) in
    let here = free_went over p a b (c p a (inl refl) i (sym (g.maker ∙ w.maker))) w in
    omega (arith, later, here)

-- ---- patience was used by timeouts that came to something

abbrev pub timed_at : End → ℕ
timed_at e = timeouts e.journal

abbrev pub all_timed : List End → ℕ
all_timed ends = sum_by timed_at ends

timed_step : (a b : End) (first : List Entry) → GoesOn first a b → timed_at a + timeouts first ≤ timed_at b
timed_step a b first h =
    let outer = sum_by-append (λ (e : Entry). one_if (is_timed_out e)) a.journal (first ++ h.later) in
    let inner = sum_by-append (λ (e : Entry). one_if (is_timed_out e)) first h.later in
    let whole : timed_at b ≡ timeouts (a.journal ++ (first ++ h.later)) = ap timeouts (sym h.journal) in
    omega (arith, outer, inner, whole)

timed_last : (p : Pause) (a b : End) → WentLast p a b → timed_at a ≤ timed_at b
timed_last p a b (inl w) = let h = timed_step a b (given p a) w in omega (arith, h)
timed_last p a b (inr w) = let h = timed_step a b [] w in omega (arith, h)

-- where its timeout moves
timed_moved : (m : Maker) (journal : List Entry) (timed : Bool) → timed ≡ true → moves m journal Mover.Timeout ≡ true
    → timeouts (cond (moves m journal (due_by timed)) (entry_of m journal (due_by timed) ∷ []) []) ≡ 1
timed_moved m journal false e h = absurd cc
timed_moved m journal true e h = ap (λ b. timeouts (cond b (Entry.TimedOut ∷ []) [])) h

on_sum : (R : End → End → Type 0) (olds news : List End) → ((a b : End) → R a b → timed_at a ≤ timed_at b) → AreOn R olds news → all_timed olds ≤ all_timed news
on_sum R [] [] f h = omega arith
on_sum R [] (b ∷ news) f h = absurd h
on_sum R (a ∷ olds) [] f h = absurd h
on_sum R (a ∷ olds) (b ∷ news) f h =
    let later = on_sum R olds news f h.1 in
    let here = f a b h.0 in
    let x = sum_by-cons timed_at a olds in
    let y = sum_by-cons timed_at b news in
    omega (arith, later, here, x, y)

on_one : (R : End → End → Type 0) (olds news : List End) (e : End) → In e olds → ((a b : End) → R a b → timed_at a ≤ timed_at b)
    → ((b : End) → R e b → timed_at e + 1 ≤ timed_at b) → AreOn R olds news
    → all_timed olds + 1 ≤ all_timed news
on_one R [] news e i f g h = absurd i
on_one R (a ∷ olds) [] e i f g h = absurd h
on_one R (a ∷ olds) (b ∷ news) e (inl q) f g h =
    let later = on_sum R olds news f h.1 in
    let here : timed_at a + 1 ≤ timed_at b = subst (λ (z : End). R z b → timed_at z + 1 ≤ timed_at b) (sym q) (g b) h.0 in
    let x = sum_by-cons timed_at a olds in
    let y = sum_by-cons timed_at b news in
    omega (arith, later, here, x, y)
on_one R (a ∷ olds) (b ∷ news) e (inr i) f g h =
    let later = on_one R olds news e i f g h.1 in
    let here = f a b h.0 in
    let x = sum_by-cons timed_at a olds in
    let y = sum_by-cons timed_at b news in
    omega (arith, later, here, x, y)

moment_used : (p : Pause) (news : List End) (timed : Bool) → p.timed ≡ timed → (p.timed ≡ true → HasMoved p) → AreOn (Went p) p.ends news
    → one_if timed + all_timed p.ends ≤ all_timed news
moment_used p news false e moved h =
    let k = on_sum (Went p) p.ends news (λ a b w. let s = timed_step a b (given p a) w in omega (arith, s)) h in omega (arith, k)
moment_used p news true e moved h =
    let m = moved e in
    let one : timeouts (given p m.0) ≡ 1 = timed_moved m.0.maker m.0.journal p.timed e m.2 in
    let k =
    on_one (Went p) p.ends news m.0 m.1 (λ a b w. let s = timed_step a b (given p a) w in omega (arith, s))
    (λ b w. let s = timed_step m.0 b (given p m.0) w in omega (arith, s, one)) h in
    omega (arith, k)

pub patience_used : (p : Pause) (rest : List Pause) (ends : List End) → AreFollowed (p ∷ rest) ends
    → ((q : Pause) → In q (p ∷ rest) → q.timed ≡ true → HasMoved q) → is_last_timed (p ∷ rest) ≡ false
    → count_by is_timed (p ∷ rest) + all_timed p.ends ≤ all_timed ends
patience_used p [] ends h each last =
    let k = on_sum (WentLast p) p.ends ends (timed_last p) h in
    let none : one_if p.timed ≡ 0 = ap one_if last in
    let both = sum_by-cons (λ (x : Pause). one_if (is_timed x)) p [] in
    omega (arith, k, none, both)
patience_used p (q ∷ rest) ends h each last =
    let later = patience_used q rest ends h.1 (λ x i. each x (inr i)) last in
    let here = moment_used p q.ends p.timed refl (each p (inl refl)) h.0 in
    let both = sum_by-cons (λ (x : Pause). one_if (is_timed x)) p (q ∷ rest) in
    omega (arith, later, here, both)
