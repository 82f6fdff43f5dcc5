-- What the threads of a fleet leave behind is lawful, and settled where nothing is left and nothing moves.
use Rattle.std.proofs.Common.{◌≡◌, ℕ, ◌+◌, ◌<◌, ◌≤◌, ◌⊎◌, true, false, cond, List, [], ◌∷◌, ◌++◌, map, length, Some, refl, sym, ap, subst, ◌∙◌, arith, inl, inr, length-append}
use Rattle.std.specs.List.{slice_get, count_by, sum_by}
use Rattle.std.proofs.lemmas.List.Sums.{sum_by-cons}
use Rattle.fab_rules.specs.Lists.{In}
use Rattle.fab_rules.proofs.Lists.{of_map}
use Rattle.run_words.specs.Journal.{Maker, moves, entry_of}
use Rattle.run_words.specs.Runs.{Rules, Run, transcript}
use Rattle.run_words.specs.Lawful.{AreEach, IsIdle, at_moment, IsNoMore, AreRising, IsMoment, IsDue, but_last, is_named_by, AreNudged, lines_by, AreFree, free_from, timed_out_in, entries_of, Lawful, Settled, Sane}
use Rattle.run_words.specs.declared.logs.Entry.{Entry}
use Rattle.run_words.specs.declared.logs.Moment.{Moment}
use Rattle.run_words.specs.declared.logs.Trace.{Trace}
use Rattle.run_words.specs.declared.logs.Transcript.{Transcript}
use Rattle.run_words.specs.declared.movers.Mover.{Mover}
use Rattle.run_words.proofs.Counts.{IsIn}
use Rattle.run_words.proofs.Ending as ending
use Rattle.run_words.proofs.Ending.{lawful_of, settled_of}
use Rattle.turn_laws.specs.Ends.{End, trace_at, AreFed, IsCalm, IsQuiet}
use Rattle.turn_laws.specs.Pauses.{Pause, moment_of, IsPause, AreOn, AreFollowed, all_entries, AreTimely, is_timed, IsPatient, HaveMoved, AreTried}
use Rattle.turn_laws.specs.Fleets.{transcript_at, LawfulLaw, SettledLaw}
use Rattle.turn_laws.proofs.Tagged.{run_at, end_of}
use Rattle.turn_laws.proofs.Feeding.{in_makers}
use Rattle.turn_laws.proofs.Fair.{fair, traces_at, still, unmoved}
use Rattle.turn_laws.proofs.Pairs.{Grows, before_of}
use Rattle.turn_laws.proofs.Quiets.{each_end, number_in, is_moment}
use Rattle.turn_laws.proofs.Given.{each_on, between, Path, path_of, path_grows, get_front, get_in, due_by, IsNamedIn, nudged_on, named_by, due_on, is_due, free_few, free_on, all_timed, patience_used}

-- ---- the numbers never fall

no_more : (r : Rules) (p q : Pause) → Sane r → IsPause r p → IsPause r q → AreOn Grows p.ends q.ends → IsNoMore r (moment_of p) (moment_of q)
no_more r p q s hp hq on m i =
    let k = end_of m q.ends (subst (IsIn m) hq.fed.makers (in_makers m r.makers i)) in
    let b = before_of Grows p.ends q.ends k.end on k.there in
    let x : at_moment r (moment_of p) b.end.maker.id ≡ length b.end.journal = number_in r p s hp b.end b.there in
    let y : at_moment r (moment_of q) k.end.maker.id ≡ length k.end.journal = number_in r q s hq k.end k.there in
    let u : at_moment r (moment_of p) b.end.maker.id ≡ at_moment r (moment_of p) m.id =
    ap (λ (n : Maker). at_moment r (moment_of p) n.id) (sym b.holds.maker ∙ k.same) in
    let v : at_moment r (moment_of q) k.end.maker.id ≡ at_moment r (moment_of q) m.id = ap (λ (n : Maker). at_moment r (moment_of q) n.id) k.same in
    let long : length b.end.journal + length b.holds.journal.0 ≡ length k.end.journal =
    sym (length-append b.end.journal b.holds.journal.0) ∙ ap length b.holds.journal.1 in
    omega (arith, x, y, u, v, long)

rising : (r : Rules) (pauses : List Pause) (ends : List End) → Sane r → ((p : Pause) → In p pauses → IsPause r p) → AreFollowed pauses ends
    → AreRising r (map moment_of pauses)
rising r [] ends s quiet h = tt
rising r (p ∷ []) ends s quiet h = ((λ y i. absurd i), tt)
rising r (p ∷ q ∷ rest) ends s quiet h = (
  λ y i.
      let k = of_map moment_of y (q ∷ rest) i in
      subst (IsNoMore r (moment_of p)) k.same
      (no_more r p k.from s (quiet p (inl refl)) (quiet k.from (inr k.is_in)) (between p q rest ends k.from h k.is_in)),
  rising r (q ∷ rest) ends s (λ x i. quiet x (inr i)) h.1,
)

-- ---- counts

timed_moments : (pauses : List Pause) → count_by (λ (x : Moment). x.timed) (map moment_of pauses) ≡ count_by is_timed pauses
timed_moments [] = refl
timed_moments (p ∷ rest) =
    let later = timed_moments rest in
    let x = sum_by-cons (λ (x : Moment). cond x.timed 1 0) (moment_of p) (map moment_of rest) in
    let y = sum_by-cons (λ (x : Pause). cond (is_timed x) 1 0) p rest in
    omega (arith, later, x, y)

sum_ends : (f : Trace → ℕ) (ends : List End) → sum_by f (map trace_at ends) ≡ sum_by (λ (e : End). f (trace_at e)) ends
sum_ends f [] = refl
sum_ends f (e ∷ rest) =
    let later = sum_ends f rest in
    let x = sum_by-cons f (trace_at e) (map trace_at rest) in
    let y = sum_by-cons (λ (z : End). f (trace_at z)) e rest in
    omega (arith, later, x, y)

module _ (r : Rules) (ends : List End) (sane : Sane r) (all : AreFed r ends) where
  abbrev traces : List Trace
  traces = map trace_at ends

  -- what holds at each end
  every : (P : Maker → Trace → Type 0) → ((e : End) → In e ends → P e.maker (trace_at e)) → AreEach P r.makers traces
  every P h = subst (λ (ms : List Maker). AreEach P ms traces) (sym all.makers) (each_end P ends h)

  -- ---- Nudges and Timeouts

  module _ (p : Pause) (rest : List Pause) (t : AreTimely r (p ∷ rest) ends) (e : End) (i : In e ends) (a : End) (ia : In a p.ends)
      (path : Path (p ∷ rest) a e) where
    nudged_by : (k : ℕ) → slice_get e.journal k ≡ Some Entry.Nudged → is_named_by r (map moment_of (p ∷ rest)) false e.maker.id k ≡ true
    nudged_by k h = go (nudged_on p rest a e ia path k h)
      where
        go : (k < length a.journal) ⊎ IsNamedIn (p ∷ rest) false e.maker k → is_named_by r (map moment_of (p ∷ rest)) false e.maker.id k ≡ true
        go (inl lt) =
            let g = path_grows p rest a e path in
            let old : slice_get a.journal k ≡ Some Entry.Nudged =
            sym (get_front a.journal g.journal.0 k lt) ∙ ap (λ l. slice_get l k) g.journal.1 ∙ h in
            absurd ((t.ungiven a ia).0 (get_in a.journal k Entry.Nudged old))
        go (inr n) = named_by r (p ∷ rest) false e.maker k sane t.quiet n

    due_by_then : (x : Moment) → In x (but_last (map moment_of (p ∷ rest))) → IsDue r x e.maker (trace_at e)
    due_by_then x h =
        let k = due_on p rest a e ia path x h in
        let n : at_moment r (moment_of k.pause) e.maker.id ≡ length k.end.journal =
        ap (λ (m : Maker). at_moment r (moment_of k.pause) m.id) k.same ∙ number_in r k.pause sane (t.quiet k.pause k.there) k.end k.inside in
        let goes =
        subst (λ (m : Maker). k.end.journal ++ (cond (moves m k.end.journal (due_by k.pause.timed)) (entry_of m k.end.journal (due_by k.pause.timed) ∷ []) [] ++ k.later) ≡ e.journal)
        (sym k.same) k.goes in
        subst (λ (y : Moment). IsDue r y e.maker (trace_at e)) k.is_of
        (is_due e.maker k.end.journal k.later e.journal (at_moment r (moment_of k.pause) e.maker.id) k.pause.timed (all.fed e i).made n goes)

    free_by : free_from (is_named_by r (map moment_of (p ∷ rest)) true e.maker.id) 0 e.journal ≤ e.lined
    free_by =
        let over = is_named_by r (map moment_of (p ∷ rest)) true e.maker.id in
        let k =
        free_on over p rest a e ia path
        (λ q c h j same timed.
        named_by r (p ∷ rest) true e.maker (length c.journal) sane t.quiet
        (record { pause = q; there = h; is_timed = timed; end = c; inside = j; same = same; place = refl })) in
        let few = free_few over 0 a.journal in
        let old = (t.ungiven a ia).1 in
        omega (arith, k, few, old)

  nudged_at : (pauses : List Pause) → AreTimely r pauses ends → (e : End) → In e ends → AreNudged r (map moment_of pauses) e.maker (trace_at e)
  nudged_at [] t e i k h = absurd ((t.ungiven e i).0 (get_in e.journal k Entry.Nudged h))
  nudged_at (p ∷ rest) t e i k h = let way = path_of p rest ends e t.followed i in nudged_by p rest t e i way.0 way.1 way.2 k h

  due_at_end : (pauses : List Pause) → AreTimely r pauses ends → (x : Moment) → In x (but_last (map moment_of pauses)) → (e : End) → In e ends
      → IsDue r x e.maker (trace_at e)
  due_at_end [] t x h e i = absurd h
  due_at_end (p ∷ rest) t x h e i = let way = path_of p rest ends e t.followed i in due_by_then p rest t e i way.0 way.1 way.2 x h

  free_at : (pauses : List Pause) → AreTimely r pauses ends → (e : End) → In e ends
      → free_from (is_named_by r (map moment_of pauses) true e.maker.id) 0 e.journal ≤ e.lined
  free_at [] t e i =
      let few = free_few (is_named_by r [] true e.maker.id) 0 e.journal in
      let old = (t.ungiven e i).1 in
      omega (arith, few, old)
  free_at (p ∷ rest) t e i = let way = path_of p rest ends e t.followed i in free_by p rest t e i way.0 way.1 way.2

  -- ---- all of it

  module _ (pauses : List Pause) (left : ℕ) (t : AreTimely r pauses ends) (patient : IsPatient r pauses left) where
    abbrev moments : List Moment
    moments = map moment_of pauses

    abbrev run : Run
    run = run_at ends moments left

    abbrev with_traces : List Trace → Transcript
    with_traces l = record { script = r.script; traces = l; moments = moments; timeouts_left = left }

    transcript_is : transcript r run ≡ transcript_at r ends pauses left
    transcript_is = ap with_traces (traces_at r ends moments left sane all)

    moment_at : (x : Moment) → In x moments → IsMoment r traces x
    moment_at x h =
        let k = of_map moment_of x pauses h in
        subst (IsMoment r traces) k.same (is_moment r k.from sane (t.quiet k.from k.is_in) ends all (each_on k.from pauses ends t.followed k.is_in))

    timely : ending.AreTimely r (transcript_at r ends pauses left)
    timely = record {
      moments = moment_at;
      rising = rising r pauses ends sane t.quiet t.followed;
      nudged = every (AreNudged r moments) (nudged_at pauses t);
      due = λ x h. every (IsDue r x) (due_at_end pauses t x h);
      free =
          every (AreFree r moments (entries_of (transcript_at r ends pauses left)))
          (λ e i.
          let few = free_at pauses t e i in
          let lined = t.lines e i in
          let same : lines_by r (entries_of (transcript_at r ends pauses left)) e.maker.id ≡ lines_by r (all_entries ends) e.maker.id =
          ap (λ (n : ℕ). lines_by r n e.maker.id) (sum_ends (λ (x : Trace). length x.journal) ends) in
          omega (arith, few, lined, same));
      patience = (let same = timed_moments pauses in let used = patient in omega (arith, same, used));
    }

    pub lawful_ends : Lawful r (transcript_at r ends pauses left)
    lawful_ends =
        subst (Lawful r) transcript_is
        (lawful_of r run moments sane.apart (fair r ends moments left sane all) (subst (ending.AreTimely r) (sym transcript_is) timely))

  patience_is_used : (pauses : List Pause) → AreTimely r pauses ends → HaveMoved pauses → count_by is_timed pauses ≤ sum_by timed_out_in traces
  patience_is_used [] t h = omega arith
  patience_is_used (p ∷ rest) t h =
      let k = patience_used p rest ends t.followed h.each h.last in
      let same : sum_by timed_out_in traces ≡ all_timed ends = sum_ends timed_out_in ends in
      omega (arith, k, same)

  tried_at : (pauses : List Pause) → AreTimely r pauses ends → IsPatient r pauses 0 → AreTried pauses ends
      → (r.patience ≤ sum_by timed_out_in traces) ⊎ AreEach (IsIdle Mover.Timeout) r.makers traces
  tried_at pauses t patient (inl h) = let k = patience_is_used pauses t h in let all_of_it = patient in inl (omega (arith, k, all_of_it))
  tried_at pauses t patient (inr calm) = inr (every (IsIdle Mover.Timeout) calm)

  pub settled_ends : (pauses : List Pause) → AreTimely r pauses ends → IsPatient r pauses 0 → AreTried pauses ends
      → ((e : End) → In e ends → IsQuiet e) → ((e : End) → In e ends → IsCalm Mover.Nudge e)
      → Settled r (transcript_at r ends pauses 0)
  settled_ends pauses t patient tried quiet calm =
      let moments = map moment_of pauses in
      let same = traces_at r ends moments 0 sane all in
      subst (Settled r) (transcript_is pauses 0 t patient)
      (settled_of r (run_at ends moments 0) sane.apart (fair r ends moments 0 sane all) (still r ends moments 0 sane all quiet)
      (unmoved r ends moments 0 sane all calm) refl
      (subst (λ (l : List Trace). (r.patience ≤ sum_by timed_out_in l) ⊎ AreEach (IsIdle Mover.Timeout) r.makers l) (sym same)
      (tried_at pauses t patient tried)))

pub lawful : LawfulLaw
lawful r ends pauses left sane all timely patient = lawful_ends r ends sane all pauses left timely patient

pub settled : SettledLaw
settled r ends pauses sane all timely patient tried quiet calm = settled_ends r ends sane all pauses timely patient tried quiet calm
