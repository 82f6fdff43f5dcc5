-- A quiet moment of a threaded run is one of its transcript: by the counts at that time, cut out of what there is later.
use Rattle.std.proofs.Common.{◌≡◌, ℕ, ◌+◌, List, [], ◌∷◌, ◌++◌, map, length, filter, refl, sym, ap, subst, ◌∙◌, arith, sum_by, inl, inr, append-nil, length-append}
use Rattle.std.specs.List.{flat_map}
use Rattle.std.proofs.lemmas.List.{length-map}
use Rattle.fab_rules.specs.Lists.{In}
use Rattle.fab_rules.proofs.Lists.{in_append_left, in_append_cases, of_filter}
use Rattle.run_words.specs.Keyed.{of}
use Rattle.run_words.specs.Journal.{Maker, parcels_of, reads}
use Rattle.run_words.specs.Runs.{Rules, copies_of}
use Rattle.run_words.specs.Lawful.{heard_counted, AreEach, IsQuietCut, at_moment, cut_to, cuts_with, number_at, IsWithin, IsMoment, AreApart, Sane}
use Rattle.run_words.specs.declared.logs.Pending.{Pending}
use Rattle.run_words.specs.declared.logs.Trace.{Trace}
use Rattle.run_words.specs.declared.movers.Mover.{Mover}
use Rattle.run_words.proofs.Counts.{IsIn}
use Rattle.run_words.proofs.Quieting.{quiet_now}
use Rattle.turn_laws.specs.Copies.{from, asked, IsKnown, item_by}
use Rattle.turn_laws.specs.Ends.{End, trace_at, IsFed, AreFed, IsCalm, IsQuiet}
use Rattle.turn_laws.specs.Pauses.{Pause, entries_at, moment_of, IsPause, AreOn}
use Rattle.turn_laws.proofs.Tagged.{maker_at, makers_at, run_at, end_of}
use Rattle.turn_laws.proofs.Feeding.{same_sums, parted, items_counted}
use Rattle.turn_laws.proofs.Fair.{fair, traces_at, still, unmoved}
use Rattle.turn_laws.proofs.Pairs.{Grows, before_of, after_of}
use Rattle.turn_laws.proofs.Cuts.{is_cut, kept_from, kept_asked, bare_at, parcels_at, cut_at, cuts_at, cut_of, cut_makers, bare_cut, cut_with, number_of}

-- what holds of each replica, of those in this order
pub each_end : (P : Maker → Trace → Type 0) (ends : List End) → ((e : End) → In e ends → P e.maker (trace_at e)) → AreEach P (makers_at ends) (map trace_at ends)
each_end P [] h = tt
each_end P (e ∷ rest) h = (h e (inl refl), each_end P rest (λ x i. h x (inr i)))

-- copies with the same of each sender
same_parts : (f : Pending → ℕ) (makers : List Maker) (a b : List Pending) → AreApart makers → ((c : Pending) → In c a → IsKnown makers c.origin)
    → ((c : Pending) → In c b → IsKnown makers c.origin)
    → asked a ≡ asked b → ((n : Maker) → IsIn n makers → from n.id a ≡ from n.id b)
    → sum_by f a ≡ sum_by f b
same_parts f makers a b apart ka kb wanted sent =
    let x = parted f makers a apart ka in
    let y = parted f makers b apart kb in
    let p : sum_by f (asked a) ≡ sum_by f (asked b) = ap (sum_by f) wanted in
    let q = same_sums (λ (n : Maker). sum_by f (from n.id b)) (λ (n : Maker). sum_by f (from n.id a)) makers (λ n i. ap (sum_by f) (sent n i)) in
    omega (arith, x, y, p, q)

module _ (r : Rules) (p : Pause) (sane : Sane r) (pause : IsPause r p) where
  apart : AreApart (makers_at p.ends)
  apart = subst AreApart pause.fed.makers sane.apart

  pub number_in : (a : End) → In a p.ends → at_moment r (moment_of p) a.maker.id ≡ length a.journal
  number_in a i =
      ap (λ (ms : List Maker). number_at ms (map entries_at p.ends) a.maker.id) pause.fed.makers ∙ number_of a p.ends apart i

  -- all that had been put was taken
  all_taken : (a s : End) → In a p.ends → In s p.ends
      → from s.maker.id a.took ≡ of a.maker.id (flat_map (copies_of s.maker.id) (parcels_of s.maker s.journal))
  all_taken a s i j =
      sym (append-nil (from s.maker.id a.took)) ∙ ap (λ l. from s.maker.id a.took ++ from s.maker.id l) (sym (pause.quiet a i).none_left)
      ∙ (pause.fed.fed a i).links s j

  all_asked : (a : End) → In a p.ends → asked a.took ≡ of a.maker.id r.requests
  all_asked a i =
      sym (append-nil (asked a.took)) ∙ ap (λ l. asked a.took ++ asked l) (sym (pause.quiet a i).none_left) ∙ (pause.fed.fed a i).requests

  module _ (ends : List End) (now : AreFed r ends) (on : AreOn Grows p.ends ends) where
    abbrev bare : List Trace
    bare = map bare_at p.ends

    abbrev cuts : List End
    cuts = cuts_at bare p.ends ends

    -- what is taken of a sender by now, and what is left
    taken_now : (a e s t : End) → In e ends → In t ends → Grows a e → (g : Grows s t)
        → from s.maker.id e.took ++ from s.maker.id e.left ≡ of a.maker.id (flat_map (copies_of s.maker.id) (parcels_of s.maker (s.journal ++ g.journal.0)))
    taken_now a e s t i j h g =
        subst (λ (m : Maker). from m.id e.took ++ from m.id e.left ≡ of e.maker.id (flat_map (copies_of m.id) (parcels_of m t.journal))) g.maker
        ((now.fed e i).links t j)
        ∙ ap (λ (m : Maker). of m.id (flat_map (copies_of s.maker.id) (parcels_of s.maker t.journal))) h.maker
        ∙ ap (λ l. of a.maker.id (flat_map (copies_of s.maker.id) (parcels_of s.maker l))) (sym g.journal.1)

    module _ (a e : End) (ia : In a p.ends) (ie : In e ends) (grows : Grows a e) where
      abbrev kept : List Pending
      kept = filter (is_cut bare a.maker.id) e.took

      kept_link : (s t : End) → In s p.ends → In t ends → Grows s t → from s.maker.id kept ≡ from s.maker.id a.took
      kept_link s t i j g =
          kept_from bare a.maker s.maker s.journal (parcels_at s p.ends apart i) g.journal.0 a.took e.took e.left (all_taken a s ia i)
          (taken_now a e s t ie j grows g) (grows.links s.maker.id)

      kept_from_each : (n : Maker) → IsIn n r.makers → from n.id kept ≡ from n.id a.took
      kept_from_each n i =
          let k = end_of n p.ends (subst (IsIn n) pause.fed.makers i) in
          let t = after_of Grows p.ends ends k.end on k.there in
          subst (λ (m : Maker). from m.id kept ≡ from m.id a.took) k.same (kept_link k.end t.end k.there t.there t.holds)

      kept_requests : asked kept ≡ asked a.took
      kept_requests =
          kept_asked bare a.maker.id a.took e.took e.left (of a.maker.id r.requests) (all_asked a ia)
          ((now.fed e ie).requests ∙ ap (λ (m : Maker). of m.id r.requests) grows.maker) grows.requests

      kept_known : (c : Pending) → In c kept → IsKnown r.makers c.origin
      kept_known c h = (now.fed e ie).known c (in_append_left c e.took e.left (of_filter (is_cut bare a.maker.id) c e.took h).0)

      fed_cut : IsFed r cuts (cut_at bare a e)
      fed_cut = record {
        made = (pause.fed.fed a ia).made;
        sound = (pause.fed.fed a ia).sound;
        links = λ s h.
            let k = cut_of bare p.ends ends s on h in
            subst (λ (x : End). from x.maker.id kept ++ from x.maker.id [] ≡ of a.maker.id (flat_map (copies_of x.maker.id) (parcels_of x.maker x.journal))) k.same
            (append-nil (from k.past.maker.id kept) ∙ kept_link k.past k.now k.in_past k.in_now k.grows ∙ all_taken a k.past ia k.in_past);
        requests = append-nil (asked kept) ∙ kept_requests ∙ all_asked a ia;
        known = λ c h. (elim (in_append_cases c kept [] h) [ inl j ↦ kept_known c j | inr none ↦ absurd none ]);
        heard = λ t.
            let f : Pending → ℕ = λ c. heard_counted t (item_by c (reads a.maker c.load)) in
            let past = (pause.fed.fed a ia) in
            let same = same_parts f r.makers kept a.took sane.apart kept_known (λ c h. past.known c (in_append_left c a.took a.left h)) kept_requests kept_from_each in
            let here = items_counted t a.maker kept in
            let there = items_counted t a.maker a.took in
            let none : heard_counted t a.unheard ≡ heard_counted t [] = ap (heard_counted t) (pause.quiet a ia).none_unheard in
            let heard = past.heard t in
            omega (arith, same, here, there, none, heard);
      }

      quiet_cut : IsQuiet (cut_at bare a e)
      quiet_cut =
          let q = pause.quiet a ia in
          record { none_left = refl; none_unheard = refl; batch = q.batch; emit = q.emit; execute = q.execute; checkpoint = q.checkpoint }

    -- what is known of each cut replica
    each_cut : (P : End → Type 0) → ((a e : End) → In a p.ends → In e ends → Grows a e → P (cut_at bare a e)) → (c : End) → In c cuts → P c
    each_cut P f c i = let k = cut_of bare p.ends ends c on i in subst P k.same (f k.past k.now k.in_past k.in_now k.grows)

    fed_cuts : AreFed r cuts
    fed_cuts = record { makers = pause.fed.makers ∙ sym (cut_makers bare p.ends ends on); fed = each_cut (IsFed r cuts) fed_cut }

    cut_is : cut_to (at_moment r (moment_of p)) r.makers (map trace_at ends) ≡ map trace_at cuts
    cut_is =
        let at = at_moment r (moment_of p) in
        ap (λ (ms : List Maker). cut_to at ms (map trace_at ends)) pause.fed.makers
        ∙ ap (λ (b : List Trace). cuts_with b at (makers_at p.ends) (map trace_at ends)) (bare_cut at p.ends ends number_in on)
        ∙ cut_with at bare p.ends ends number_in on

    is_within : (e : End) → In e ends → IsWithin r (moment_of p) e.maker (trace_at e)
    is_within e i =
        let k = before_of Grows p.ends ends e on i in
        let n = number_in k.end k.there in
        let same : at_moment r (moment_of p) e.maker.id ≡ at_moment r (moment_of p) k.end.maker.id = ap (λ (m : Maker). at_moment r (moment_of p) m.id) k.holds.maker in
        let long : length k.end.journal + length k.holds.journal.0 ≡ length e.journal =
        sym (length-append k.end.journal k.holds.journal.0) ∙ ap length k.holds.journal.1 in
        omega (arith, n, same, long)

    pub is_moment : IsMoment r (map trace_at ends) (moment_of p)
    is_moment = record {
      named = length-map p.ends entries_at ∙ sym (length-map p.ends maker_at) ∙ ap length (sym pause.fed.makers);
      within = subst (λ (ms : List Maker). AreEach (IsWithin r (moment_of p)) ms (map trace_at ends)) (sym now.makers)
          (each_end (IsWithin r (moment_of p)) ends is_within);
      cut =
          subst (IsQuietCut r p.timed) (traces_at r cuts [] 0 sane fed_cuts ∙ sym cut_is)
          (quiet_now r (run_at cuts [] 0) sane.apart (fair r cuts [] 0 sane fed_cuts) p.timed
          (still r cuts [] 0 sane fed_cuts (each_cut IsQuiet quiet_cut))
          (λ q. unmoved r cuts [] 0 sane fed_cuts (each_cut (IsCalm Mover.Nudge) (λ a e ia ie g. pause.unmoved q a ia))));
    }
