-- A run put together from what replicas left behind is fair.
use Rattle.std.proofs.Common.{◌≡◌, ℕ, ◌+◌, true, false, List, [], ◌∷◌, ◌++◌, map, Ok, Err, refl, sym, ap, subst, ◌∙◌, arith, sum_by, inl, inr}
use Rattle.std.specs.List.{flat_map}
use Rattle.fab_base.specs.declared.messages.Message.{Message}
use Rattle.fab_rules.specs.Lists.{In}
use Rattle.fab_rules.proofs.Lists.{in_append_left}
use Rattle.run_words.specs.Keyed.{is_same, of}
use Rattle.run_words.specs.Journal.{Maker, parcels_of, moves, reads}
use Rattle.run_words.specs.Runs.{Rules, Run, Declined, journal_in, waiting_in, declined_in, copies_of, turned_of, trace_of, trace_in}
use Rattle.run_words.specs.Lawful.{Test, heard_counted, pending_counted, parcels_counted, parcel_at, AreApart, IsRequest, Sane}
use Rattle.run_words.specs.declared.logs.Origin.{Origin}
use Rattle.run_words.specs.declared.logs.Moment.{Moment}
use Rattle.run_words.specs.declared.logs.Pending.{Pending}
use Rattle.run_words.specs.declared.movers.Mover.{Mover}
use Rattle.run_words.proofs.Keys.{same_self, same_is}
use Rattle.run_words.proofs.Naming.{IsPutBy, IsPut, copies_from}
use Rattle.run_words.proofs.Keeping.{IsTrueLog, IsFair, AreStill, AreUnmoved}
use Rattle.run_words.proofs.Steps.{IsStill}
use Rattle.run_words.proofs.Counts.{IsIn, one_copy, copies_counted, declined_counted, put_by}
use Rattle.turn_laws.specs.Copies.{from, asked, is_from, is_asked, refused, IsKnown}
use Rattle.turn_laws.specs.Ends.{End, trace_at, AreFed, IsCalm, IsQuiet}
use Rattle.turn_laws.proofs.Tagged.{makers_at, run_at, is_in, maker_in, end_of, tag_is}
use Rattle.turn_laws.proofs.Named.{named}
use Rattle.turn_laws.proofs.Feeding.{spelled_of, spelled_counted, counted_both, all_read, refused_of, from_both, asked_both, in_from, in_asked, in_makers, same_sums, parted}

module _ (r : Rules) (ends : List End) (moments : List Moment) (left : ℕ) (sane : Sane r) (all : AreFed r ends) where
  abbrev run : Run
  run = run_at ends moments left

  apart : AreApart (makers_at ends)
  apart = subst AreApart all.makers sane.apart

  journal_is : (e : End) → In e ends → journal_in run e.maker ≡ e.journal
  journal_is e h = tag_is e (λ x. x.journal) ends apart h

  waiting_is : (e : End) → In e ends → waiting_in run e.maker ≡ e.left ++ spelled_of e.unheard
  waiting_is e h = tag_is e (λ x. x.left ++ spelled_of x.unheard) ends apart h

  declined_is : (e : End) → In e ends → declined_in run e.maker ≡ refused e.maker e.took
  declined_is e h = tag_is e (λ x. refused x.maker x.took) ends apart h

  -- what holds at each end holds of each maker
  each_maker : (P : Maker → Type 0) → ((e : End) → In e ends → P e.maker) → (m : Maker) → IsIn m r.makers → P m
  each_maker P h m i =
      let k = end_of m ends (subst (IsIn m) all.makers i) in
      subst P k.same (h k.end k.there)

  in_makers_of : (e : End) → In e ends → IsIn e.maker r.makers
  in_makers_of e h = subst (IsIn e.maker) (sym all.makers) (is_in e ends h)

  -- ---- journals

  logs_at : (e : End) → In e ends → IsTrueLog e.maker (journal_in run e.maker)
  logs_at e h = let f = all.fed e h in subst (IsTrueLog e.maker) (sym (journal_is e h)) (f.made, f.sound)

  -- ---- copies

  put_at : (p : Test) (e s : End) → In e ends → In s ends
      → put_by p e.maker.id run s.maker ≡ pending_counted p (from s.maker.id (e.took ++ e.left))
  put_at p e s h k =
      ap (λ j. parcels_counted p e.maker.id s.maker.id (parcels_of s.maker j)) (journal_is s k)
      ∙ sym (copies_counted p e.maker.id s.maker.id (parcels_of s.maker s.journal))
      ∙ ap (pending_counted p) (sym ((all.fed e h).links s k) ∙ sym (from_both s.maker.id e.took e.left))

  abbrev WaysAt : Maker → Type 0
  WaysAt m = (p : Test) → heard_counted p (journal_in run m) + declined_counted p (declined_in run m) + pending_counted p (waiting_in run m)
      ≡ pending_counted p (of m.id r.requests) + sum_by (put_by p m.id run) r.makers

  ways_at : (e : End) → In e ends → WaysAt e.maker
  ways_at e h p =
      let f = all.fed e h in
      let l = e.took ++ e.left in
      let all_parts = parted (one_copy p) r.makers l sane.apart f.known in
      let sums : sum_by (put_by p e.maker.id run) r.makers ≡ sum_by (λ (n : Maker). pending_counted p (from n.id l)) r.makers =
      same_sums (λ (n : Maker). pending_counted p (from n.id l)) (put_by p e.maker.id run) r.makers
      (each_maker (λ n. put_by p e.maker.id run n ≡ pending_counted p (from n.id l)) (λ s k. put_at p e s h k)) in
      let wanted : pending_counted p (of e.maker.id r.requests) ≡ pending_counted p (asked l) =
      ap (pending_counted p) (sym f.requests ∙ sym (asked_both e.took e.left)) in
      let whole = counted_both p e.took e.left in
      let rest = counted_both p e.left (spelled_of e.unheard) in
      let spelled = spelled_counted p e.unheard in
      let read = all_read p e.maker e.took in
      let heard = f.heard p in
      let j : heard_counted p (journal_in run e.maker) ≡ heard_counted p e.journal = ap (heard_counted p) (journal_is e h) in
      let d : declined_counted p (declined_in run e.maker) ≡ declined_counted p (refused e.maker e.took) = ap (declined_counted p) (declined_is e h) in
      let w : pending_counted p (waiting_in run e.maker) ≡ pending_counted p (e.left ++ spelled_of e.unheard) = ap (pending_counted p) (waiting_is e h) in
      omega (arith, all_parts, sums, wanted, whole, rest, spelled, read, heard, j, d, w)

  -- ---- what was refused

  put_of : (e : End) → In e ends → (c : Pending) → In c e.took → IsPut r run e.maker c
  put_of e h c i = go c.origin refl ((all.fed e h).known c (in_append_left c e.took e.left i))
    where
      by_client : is_asked c.origin ≡ true → (x : Message) × (reads e.maker c.load ≡ Ok x)
      by_client q =
          let f = all.fed e h in
          let there : In c (of e.maker.id r.requests) = subst (In c) f.requests (in_append_left c (asked e.took) (asked e.left) (in_asked c e.took q i)) in
          let known : IsRequest e.maker c = sane.requests e.maker c (subst (In e.maker) (sym all.makers) (maker_in e ends h)) there in
          (known.message, known.is_read)

      by_sender : (s : End) → In s ends → is_from s.maker.id c.origin ≡ true → IsPut r run e.maker c
      by_sender s k q =
          let f = all.fed e h in
          let ps = parcels_of s.maker s.journal in
          let there : In c (of e.maker.id (flat_map (copies_of s.maker.id) ps)) =
          subst (In c) (f.links s k) (in_append_left c (from s.maker.id e.took) (from s.maker.id e.left) (in_from s.maker.id c e.took q i)) in
          let copy = copies_from e.maker.id s.maker.id ps c there in
          let receiver : e.maker.id ≡ copy.parcel.to = same_is e.maker.id copy.parcel.to copy.receiver in
          subst (λ (x : Pending). IsPut r run e.maker x) copy.same
          (record {
            sender = s.maker;
            is_in = in_makers_of s k;
            id_is = refl;
            parcel = copy.parcel;
            is_there =
                ap (λ j. parcel_at e.maker.id copy.parcel.number (parcels_of s.maker j)) (journal_is s k)
                ∙ ap (λ t. parcel_at t copy.parcel.number ps) receiver ∙ named s.maker s.journal copy.parcel copy.is_in;
            time_is = refl;
            load_is = refl;
          })

      go : (o : Origin) → c.origin ≡ o → IsKnown r.makers o → IsPut r run e.maker c
      go (Origin.Client k) q known =
          subst (λ (o : Origin). IsPutBy r.makers run.done e.maker c.number c.load o) (sym q) (by_client (ap is_asked q))
      go (Origin.Replica f time) q known =
          each_maker (λ n. n.id ≡ f → IsPut r run e.maker c)
          (λ s k g. by_sender s k (ap (is_from s.maker.id) q ∙ ap (is_same s.maker.id) (sym g) ∙ same_self s.maker.id)) known.0
          (in_makers known.0 r.makers known.1) known.2

  abbrev TurnedAt : Maker → Type 0
  TurnedAt m = (d : Declined) → In d (declined_in run m) → IsPut r run m d.copy × (reads m d.copy.load ≡ Err d.refusal)

  turned_at : (e : End) → In e ends → TurnedAt e.maker
  turned_at e h d i =
      let k = refused_of e.maker e.took d (subst (In d) (declined_is e h) i) in
      (put_of e h d.copy k.taken, k.cause)

  -- ---- all of it

  pub fair : IsFair r run
  fair = record {
    logs = each_maker (λ m. IsTrueLog m (journal_in run m)) logs_at;
    ways = each_maker WaysAt ways_at;
    turned = λ m d i h. each_maker TurnedAt turned_at m i d h;
  }

  trace_is : (e : End) → In e ends → trace_in run e.maker ≡ trace_at e
  trace_is e h =
      ap (λ j. trace_of e.maker j (flat_map turned_of (declined_in run e.maker))) (journal_is e h)
      ∙ ap (λ l. trace_of e.maker e.journal (flat_map turned_of l)) (declined_is e h)

  traces_are : (l : List End) → ((e : End) → In e l → In e ends) → map (trace_in run) (makers_at l) ≡ map trace_at l
  traces_are [] h = refl
  traces_are (e ∷ l) h =
      ap (λ t. t ∷ map (trace_in run) (makers_at l)) (trace_is e (h e (inl refl))) ∙ ap (λ ts. trace_at e ∷ ts) (traces_are l (λ x k. h x (inr k)))

  pub traces_at : map (trace_in run) r.makers ≡ map trace_at ends
  traces_at = ap (map (trace_in run)) all.makers ∙ traces_are ends (λ e h. h)

  -- ---- where each is quiet

  waits_none : (e : End) → In e ends → IsQuiet e → waiting_in run e.maker ≡ []
  waits_none e h q = waiting_is e h ∙ ap (λ l. l ++ spelled_of e.unheard) q.none_left ∙ ap spelled_of q.none_unheard

  stays : (e : End) → In e ends → (mover : Mover) → IsCalm mover e → moves e.maker (journal_in run e.maker) mover ≡ false
  stays e h mover q = ap (λ j. moves e.maker j mover) (journal_is e h) ∙ q

  still_at : (e : End) → In e ends → IsQuiet e → IsStill run e.maker
  still_at e h q = (
    waits_none e h q,
    stays e h Mover.Batch q.batch,
    stays e h Mover.Emit q.emit,
    stays e h Mover.Execute q.execute,
    stays e h Mover.Checkpoint q.checkpoint,
  )

  pub still : ((e : End) → In e ends → IsQuiet e) → AreStill r run
  still q = each_maker (IsStill run) (λ e h. still_at e h (q e h))

  pub unmoved : ((e : End) → In e ends → IsCalm Mover.Nudge e) → AreUnmoved r run
  unmoved q = each_maker (λ m. moves m (journal_in run m) Mover.Nudge ≡ false) (λ e h. stays e h Mover.Nudge (q e h))
