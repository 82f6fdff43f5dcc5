-- The one run of a script of one cluster without timeout lines: nobody times out before a key is used up, as long as no two batches share a
-- digest. At a moment that ends in timeouts nothing else can move, so all that was asked took effect, and whoever is given a timeout is calm.
use Rattle.std.proofs.Common.{◌≡◌, ℕ, zero, suc, ◌+◌, ◌<◌, ◌≤◌, true, false, nat_le, List, [], ◌∷◌, map, length, length-append, None, ◌⊎◌, inl, inr, refl, sym, ap, subst, ◌∙◌, arith}
use Rattle.std.proofs.lemmas.Bool.{cases_lt}
use Rattle.fab_base.specs.Roster.{is_cluster, size_of}
use Rattle.fab_base.specs.declared.ids.ReplicaId.{ReplicaId}
use Rattle.fab_base.specs.declared.ids.Who.{Who}
use Rattle.fab_base.proofs.Tests.{and_left, and_right, below, at_most}
use Rattle.fab_rules.specs.Lists.{In}
use Rattle.fab_rules.proofs.Lists.{in_append_left, in_map, of_map}
use Rattle.fab_machine.specs.Step as machine
use Rattle.fab_machine.specs.Step.{Event}
use Rattle.fault_script.specs.declared.scripts.Script.{Script}
use Rattle.fault_script.specs.declared.twists.TimeoutLine.{TimeoutLine}
use Rattle.fault_script.specs.Scripts.{keeps_limits}
use Rattle.world_laws.specs.World.{NoClash}
use Rattle.heed_laws.specs.Resting.{member}
use Rattle.run_words.specs.Journal.{Maker, state, walk, signed_by, signed_of, moves}
use Rattle.run_words.specs.Runs.{journal_in, next, after, trace_in}
use Rattle.run_words.specs.Lawful.{AreEach, Kept}
use Rattle.run_words.specs.declared.movers.Mover.{Mover}
use Rattle.run_words.specs.declared.logs.Entry.{Entry}
use Rattle.run_words.specs.declared.logs.Trace.{Trace}
use Rattle.run_words.specs.declared.logs.Transcript.{Transcript}
use Rattle.run_words.proofs.Counts.{IsIn}
use Rattle.run_words.proofs.Keeping.{AreStill, AreUnmoved, is_in, after_well}
use Rattle.run_words.proofs.Quieting.{unmoved_each}
use Rattle.run_words.proofs.Walks.{walk_more}
use Rattle.script_keys.specs.Keys.{leaves_of, replicas_of}
use Rattle.run_worlds.specs.Scripts.{roster_of, maker_of, makers_of, line_of, script_rules}
use Rattle.run_worlds.specs.Worlds.{world_of}
use Rattle.run_worlds.specs.Sights.{first_evidence}
use Rattle.run_worlds.specs.Endings.{IsRunOf}
use Rattle.run_worlds.proofs.RunLogs.{logs_of}
use Rattle.audit_laws.proofs.Evidence.{clean_run}
use Rattle.audit_laws.proofs.Members.{takes_part}
use Rattle.audit_laws.proofs.Sanity.{sane}
use Rattle.audit_laws.proofs.Traces.{trace_is}
use Rattle.plain_laws.specs.Plain.{journal_by, IsUnspent, HasSpent, HasTimedOut, TimelyLaw}
use Rattle.plain_laws.proofs.Prefixes.{at_step, run_of, told_ended, clean_prefix, IsLonger, next_longer, no_clash_before, still_prefix, journal_there}
use Rattle.plain_laws.proofs.Resting.{calm_here}
use Rattle.plain_laws.proofs.Untimed.{AreUntimed, untimed_next, start_untimed}

-- ---- who used up its key

pub spent_or_not : (t : Transcript) (ids : List ReplicaId) (traces : List Trace) → ((trace : Trace) → In trace traces → In trace t.traces)
    → AreEach Kept (map (maker_of t.script) ids) traces → AreEach IsUnspent (map (maker_of t.script) ids) traces ⊎ HasSpent t
spent_or_not t [] [] within kept = inl tt
spent_or_not t [] (x ∷ traces) within kept = absurd kept
spent_or_not t (i ∷ ids) [] within kept = absurd kept
spent_or_not t (i ∷ ids) (x ∷ traces) within kept = elim (cases_lt (length x.signed) (leaves_of t.script (Who.Replica i))) [
  | inr spent ↦ inr (record {
    trace = x;
    inside = within x (inl refl);
    spent = subst (λ j. leaves_of t.script (Who.Replica j) ≤ length x.signed) (sym kept.0.named) spent;
  })
  | inl left ↦ elim (spent_or_not t ids traces (λ y k. within y (inr k)) kept.1) [
    | inl rest ↦ inl (left, rest)
    | inr spent ↦ inr spent
  ]
]

signed_more : (m : Maker) (before now : List Entry) → IsLonger before now → length (signed_of m before) ≤ length (signed_of m now)
signed_more m before now (inl same) = let e = ap (λ j. length (signed_of m j)) same in omega (arith, e)
signed_more m before now (inr (e, more)) =
    let grown = ap (λ w. length w.signed) (walk_more m before e) in
    let is = ap (λ j. length (signed_of m j)) more in
    omega (arith, is, grown, length-append (signed_of m before) (signed_by m (walk m before) e))

-- its key stays used up
pub spent_later : (script : Script) (n : ℕ) → HasSpent (at_step script n) → HasSpent (at_step script (suc n))
spent_later script n h =
    let r = script_rules script in
    let run = after r n in
    let from = of_map (trace_in run) h.trace r.makers h.inside in
    let m : Maker = from.from in
    let more = signed_more m (journal_in run m) (journal_in (next r run) m) (next_longer r m run) in
    let upto : leaves_of script (Who.Replica m.id) ≤ length (signed_of m (journal_in run m)) =
    subst (λ (x : Trace). leaves_of script (Who.Replica x.id) ≤ length x.signed) (sym from.same) h.spent in
    record { trace = trace_in (next r run) m; inside = in_map (trace_in (next r run)) m r.makers from.is_in; spent = omega (arith, more, upto) }

-- ---- who timed out

same_in : (m : Maker) (makers : List Maker) → IsIn m makers → In m makers
same_in m [] h = absurd h
same_in m (x ∷ rest) (inl e) = inl (sym e)
same_in m (x ∷ rest) (inr h) = inr (same_in m rest h)

untimed_in : (script : Script) (n : ℕ) → (HasTimedOut (at_step script n) → ⊥) → AreUntimed (script_rules script) (after (script_rules script) n)
untimed_in script n h m i timed =
    let run = after (script_rules script) n in
    h (record { trace = trace_in run m; inside = in_map (trace_in run) m (makers_of script) (same_in m (makers_of script) i); timed = timed })

pub untimed_told : (script : Script) (n : ℕ) → AreUntimed (script_rules script) (after (script_rules script) n) → HasTimedOut (at_step script n) → ⊥
untimed_told script n all h =
    let run = after (script_rules script) n in
    let from = of_map (trace_in run) h.trace (makers_of script) h.inside in
    all from.from (is_in from.from (makers_of script) from.is_in) (subst (λ (x : Trace). In Entry.TimedOut x.journal) (sym from.same) h.timed)

-- an entry stays
pub timed_later : (script : Script) (n : ℕ) → HasTimedOut (at_step script n) → HasTimedOut (at_step script (suc n))
timed_later script n h =
    let r = script_rules script in
    let run = after r n in
    let from = of_map (trace_in run) h.trace r.makers h.inside in
    let m : Maker = from.from in
    let here : In Entry.TimedOut (journal_in run m) = subst (λ (x : Trace). In Entry.TimedOut x.journal) (sym from.same) h.timed in
    record {
      trace = trace_in (next r run) m;
      inside = in_map (trace_in (next r run)) m r.makers from.is_in;
      timed = stays (journal_in run m) (journal_in (next r run) m) (next_longer r m run) here;
    }
  where
    stays : (before now : List Entry) → IsLonger before now → In Entry.TimedOut before → In Entry.TimedOut now
    stays before now (inl same) i = subst (In Entry.TimedOut) (sym same) i
    stays before now (inr more) i = subst (In Entry.TimedOut) (sym more.1) (in_append_left Entry.TimedOut before (more.0 ∷ []) i)

-- ---- along the run

timeout_calm : (m : Maker) (journal : List Entry) → machine.moves m.roster m.id (state m journal) Event.Timeout ≡ false → moves m journal Mover.Timeout ≡ false
unfolding moves
timeout_calm m journal h = h

module _ (script : Script) (limits : keeps_limits script ≡ true) (one : length script.sizes ≡ 1) (none : script.timeouts ≡ []) where
  -- where nothing moves and no key is used up, all are calm
  all_calm : (n : ℕ) → (HasTimedOut (at_step script n) → ⊥) → AreEach IsUnspent (makers_of script) (at_step script n).traces → NoClash (world_of (at_step script n))
      → AreStill (script_rules script) (after (script_rules script) n) → AreUnmoved (script_rules script) (after (script_rules script) n)
      → (m : Maker) → IsIn m (makers_of script) → moves m (journal_in (after (script_rules script) n) m) Mover.Timeout ≡ false
  all_calm n untimed unspent clear still unmoved m i =
      let r = script_rules script in
      let run = after r n in
      let t = at_step script n in
      let lawful : IsRunOf script (at_step script n) = run_of script n limits in
      let from = of_map (maker_of script) m (replicas_of script) (same_in m (makers_of script) i) in
      let id : ReplicaId = from.from in
      let part = takes_part script id from.is_in in
      let cluster = and_left (is_cluster (roster_of script) id.cluster) _ part in
      let first = at_most 1 id.cluster (and_left (nat_le 1 id.cluster) _ cluster) in
      let upto = at_most id.cluster (length script.sizes) (and_right (nat_le 1 id.cluster) _ cluster) in
      let only : id.cluster ≡ 1 = omega (arith, first, upto, one) in
      let index = subst (λ c. id.index < size_of (roster_of script) c) only
      (below id.index (size_of (roster_of script) id.cluster) (and_right (is_cluster (roster_of script) id.cluster) _ part)) in
      let named : member id.index ≡ id = ap (λ c. let x : ReplicaId = record { cluster = c; index = id.index } in x) (sym only) in
      let calm = calm_here t lawful untimed (still_prefix script n limits still) (unmoved_each r run (sane script limits).apart (after_well r n (sane script limits)).fair unmoved) unspent (clean_prefix script n limits clear) one id.index index in
      let here = subst (λ x. machine.moves (roster_of script) x (state (maker_of script x) (journal_by x t.traces)) Event.Timeout ≡ false) named calm in
      let at = subst (λ j. machine.moves (roster_of script) id (state (maker_of script id) j) Event.Timeout ≡ false) (journal_there script run (replicas_of script) id from.is_in) here in
      subst (λ (x : Maker). moves x (journal_in run x) Mover.Timeout ≡ false) from.same (timeout_calm (maker_of script id) (journal_in run (maker_of script id)) at)

  -- so nobody times out in the next step
  pub timely_step : (n : ℕ) → (HasTimedOut (at_step script n) → ⊥) → AreEach IsUnspent (makers_of script) (at_step script n).traces → NoClash (world_of (at_step script n))
      → HasTimedOut (at_step script (suc n)) → ⊥
  timely_step n untimed unspent clear =
      untimed_told script (suc n)
      (untimed_next (script_rules script) n (sane script limits) (ap (λ (lines : List TimeoutLine). map (λ (x : TimeoutLine). line_of script x) lines) none)
      (untimed_in script n untimed) (all_calm n untimed unspent clear))

  timely_along : (n : ℕ) → NoClash (world_of (at_step script n)) → (HasTimedOut (at_step script n) → ⊥) ⊎ HasSpent (at_step script n)
  timely_along zero clear = inl (untimed_told script 0 (start_untimed (script_rules script)))
  timely_along (suc n) clear = elim (timely_along n before) [
    | inr spent ↦ inr (spent_later script n spent)
    | inl untimed ↦ elim (spent_or_not (at_step script n) (replicas_of script) (at_step script n).traces (λ x k. k) (run_of script n limits).lawful.kept) [
      | inr spent ↦ inr (spent_later script n spent)
      | inl unspent ↦ inl (timely_step n untimed unspent before)
    ]
  ]
    where
      before : NoClash (world_of (at_step script n))
      before = no_clash_before script n 1 limits (subst (λ k. NoClash (world_of (at_step script k))) (let e : suc n ≡ n + 1 = omega arith in e) clear)

pub timely : TimelyLaw
timely script t spent few limits none schedule clean timed =
    let n = schedule.0 in
    let is : t ≡ at_step script n = schedule.2 ∙ told_ended script n spent schedule.1 in
    by n is (subst (λ (x : Transcript). first_evidence x ≡ None) is clean) (subst (λ (x : Transcript). HasTimedOut x) is timed)
  where
    by : (n : ℕ) → t ≡ at_step script n → first_evidence (at_step script n) ≡ None → HasTimedOut (at_step script n) → HasSpent t
    by n is clear out =
        let x = at_step script n in
        let lawful : IsRunOf script (at_step script n) = run_of script n limits in
        let part = takes_part script out.trace.id (trace_is x (logs_of x lawful) out.trace out.inside).listed in
        let cluster = and_left (is_cluster (roster_of script) out.trace.id.cluster) _ part in
        let from = at_most 1 out.trace.id.cluster (and_left (nat_le 1 out.trace.id.cluster) _ cluster) in
        let upto = at_most out.trace.id.cluster (length script.sizes) (and_right (nat_le 1 out.trace.id.cluster) _ cluster) in
        let one : length script.sizes ≡ 1 = omega (arith, few, from, upto) in
        elim (timely_along script limits one none n (clean_run x (logs_of x lawful) clear).1) [
          | inl untimed ↦ absurd (untimed out)
          | inr used ↦ subst (λ (y : Transcript). HasSpent y) (sym is) used
        ]
