-- A replica at which no event would make an entry.
use Rattle.std.proofs.Common.{◌≡◌, ℕ, Bool, true, false, not, ◌&&◌, ◌||◌, ◌⊎◌, List, [], ◌∷◌, length, nat_le, inl, inr, refl, sym, ap, subst, ◌∙◌}
use Rattle.std.specs.List.{list_all}
use Rattle.fab_base.proofs.Tests.{and_left, and_right, and_both}
use Rattle.fab_base.specs.declared.ids.ReplicaId.{ReplicaId}
use Rattle.fab_base.specs.declared.ids.Who.TheVariants.{Replica}
use Rattle.fab_base.specs.declared.answers.Item.{Item}
use Rattle.fab_machine.specs.State as states
use Rattle.fab_machine.specs.Step as machine
use Rattle.fab_machine.specs.Step.{Event, makes_entry, emit_step, first}
use Rattle.fault_script.specs.declared.scripts.Script.{Script}
use Rattle.replica_core.specs.Cores.{Machine}
use Rattle.run_words.specs.Journal.{Maker, state, waits, needs_leaf, is_blocked, moves, signed_of}
use Rattle.run_words.specs.Lawful.{AreEach, Kept, IsSent, IsIdle}
use Rattle.run_words.specs.declared.movers.Mover.{Mover}
use Rattle.run_words.specs.declared.logs.Entry.{Entry}
use Rattle.run_words.specs.declared.logs.Trace.{Trace}
use Rattle.run_words.proofs.Replays.{sent_or_blocked}
use Rattle.script_keys.specs.Keys.{leaves_of}
use Rattle.replica_log.specs.Replayed.{core_after}
use Rattle.run_worlds.specs.Scripts.{roster_of}
use Rattle.fabric_audit.specs.Still.{is_still_at, is_still}
use Rattle.fabric_audit.proofs.Ledgers.{maker_by, IsOf, AreOf, named_by}

pub still_is : (script : Script) (timeouts : Bool) (t : Trace) (core : Machine) (leaves used : ℕ) → core ≡ core_after (roster_of script) t
    → leaves ≡ leaves_of script (Replica t.id)
    → used ≡ length t.signed → is_still_at t.id core leaves used timeouts ≡ is_still script timeouts t
still_is script timeouts t core leaves used a b c =
    ap (λ (x : Machine). is_still_at t.id x leaves used timeouts) a
    ∙ ap (λ n. is_still_at t.id (core_after (roster_of script) t) n used timeouts) b
    ∙ ap (λ n. is_still_at t.id (core_after (roster_of script) t) (leaves_of script (Replica t.id)) n timeouts) c

-- ---- what the test tells

not_true : (b : Bool) → not b ≡ true → b ≡ false
not_true true h = absurd cc
not_true false h = refl

is_not : (b : Bool) → b ≡ false → not b ≡ true
is_not true h = absurd cc
is_not false h = refl

-- an event that makes no entry or waits behind a used-up key
behind : (e b : Bool) → (not e || b) ≡ true → (e && not b) ≡ false
behind true true h = refl
behind true false h = absurd cc
behind false b h = refl

is_behind : (e b : Bool) → (e && not b) ≡ false → (not e || b) ≡ true
is_behind true true h = refl
is_behind true false h = absurd cc
is_behind false b h = refl

-- an event that is asked about
where_asked : (asked e : Bool) → not (asked && e) ≡ true → asked ≡ true → e ≡ false
where_asked true e h is = not_true e h
where_asked false e h is = absurd cc

is_calm : (asked e : Bool) → (asked ≡ true → e ≡ false) → not (asked && e) ≡ true
is_calm true e h = is_not e (h refl)
is_calm false e h = refl

-- no event would make an entry: Timeout is one of them where it is asked about
pub record AreIdle (timeouts : Bool) (m : Maker) (t : Trace) : Type 0 where
  pub batch : IsIdle Mover.Batch m t
  pub nudge : IsIdle Mover.Nudge m t
  pub execute : IsIdle Mover.Execute m t
  pub checkpoint : IsIdle Mover.Checkpoint m t
  pub emit : IsIdle Mover.Emit m t
  pub timeout : timeouts ≡ true → IsIdle Mover.Timeout m t

module _ (script : Script) (timeouts : Bool) (t : Trace) (used : t.signed ≡ signed_of (maker_by script t) t.journal) where
  abbrev would : Event → Bool
  would e = machine.moves (maker_by script t).roster t.id (state (maker_by script t) t.journal) e

  abbrev blocked : ℕ → Bool
  blocked n = needs_leaf t.id (first (state (maker_by script t) t.journal)) && nat_le (maker_by script t).leaves n

  idle_from : is_still script timeouts t ≡ true → AreIdle timeouts (maker_by script t) t
  unfolding moves is_blocked state
  idle_from h =
      let after_batch = and_right _ _ h in
      let after_nudge = and_right _ _ after_batch in
      let after_execute = and_right _ _ after_nudge in
      let after_checkpoint = and_right _ _ after_execute in
      record {
        batch = not_true (would Event.Batch) (and_left _ _ h);
        nudge = not_true (would Event.Nudge) (and_left _ _ after_batch);
        execute = not_true (would Event.Execute) (and_left _ _ after_nudge);
        checkpoint = not_true (would Event.Checkpoint) (and_left _ _ after_execute);
        emit =
            behind (would (Event.Emit [])) (blocked (length (signed_of (maker_by script t) t.journal)))
            (ap (λ (l : List (List ℕ)). not (would (Event.Emit [])) || blocked (length l)) (sym used) ∙ and_left _ _ after_checkpoint);
        timeout = where_asked timeouts (would Event.Timeout) (and_right _ _ after_checkpoint);
      }

  still_from : AreIdle timeouts (maker_by script t) t → is_still script timeouts t ≡ true
  unfolding moves is_blocked state
  still_from h =
      and_both _ _ (is_not (would Event.Batch) h.batch)
      (and_both _ _ (is_not (would Event.Nudge) h.nudge)
      (and_both _ _ (is_not (would Event.Execute) h.execute)
      (and_both _ _ (is_not (would Event.Checkpoint) h.checkpoint)
      (and_both _ _
      (ap (λ (l : List (List ℕ)). not (would (Event.Emit [])) || blocked (length l)) used
      ∙ is_behind (would (Event.Emit [])) (blocked (length (signed_of (maker_by script t) t.journal))) h.emit)
      (is_calm timeouts (would Event.Timeout) h.timeout)))))

-- ---- what waits to be sent

-- where nothing waits, nothing is sent
none_sent : (me : ReplicaId) (s : states.Replica) (outbox : List Item) → length outbox ≡ 0 → makes_entry (emit_step me s [] outbox).answer ≡ false
none_sent me s [] h = refl
none_sent me s (x ∷ rest) h = absurd cc

and_false : (a b : Bool) → b ≡ false → (a && b) ≡ false
and_false true b h = h
and_false false b h = refl

emit_idle : (m : Maker) (journal : List Entry) → (waits m journal ≡ 0) ⊎ (is_blocked m journal ≡ true) → moves m journal Mover.Emit ≡ false
unfolding moves waits
emit_idle m journal (inl none) =
    ap (λ b. b && not (is_blocked m journal)) (none_sent m.id (state m journal) (state m journal).outbox none)
emit_idle m journal (inr blocked) =
    and_false (machine.moves m.roster m.id (state m journal) (Event.Emit [])) (not (is_blocked m journal)) (ap not blocked)

sent_is : (m : Maker) (t : Trace) → Kept m t → IsIdle Mover.Emit m t → IsSent m t
sent_is m t k h = elim (sent_or_blocked m t.journal h) [ inl e ↦ inl (k.unsent ∙ e) | inr b ↦ inr b ]

pub sent_idle : (m : Maker) (t : Trace) → Kept m t → IsSent m t → IsIdle Mover.Emit m t
sent_idle m t k (inl none) = emit_idle m t.journal (inl (sym k.unsent ∙ none))
sent_idle m t k (inr blocked) = emit_idle m t.journal (inr blocked)

-- ---- in the words of runs

-- nothing waits to be sent where nothing may be
pub record IsStill (timeouts : Bool) (m : Maker) (t : Trace) : Type 0 where
  pub sent : IsSent m t
  pub idle : AreIdle timeouts m t

still_is_idle : (script : Script) (timeouts : Bool) (m : Maker) (t : Trace) → IsOf script m → Kept m t → is_still script timeouts t ≡ true
    → IsStill timeouts m t
still_is_idle script timeouts m t o k h =
    let named = named_by script m t o k in
    let used : t.signed ≡ signed_of (maker_by script t) t.journal = k.signed ∙ ap (λ (x : Maker). signed_of x t.journal) named in
    let idle : AreIdle timeouts m t = subst (λ (x : Maker). AreIdle timeouts x t) (sym named) (idle_from script timeouts t used h) in
    record { sent = sent_is m t k idle.emit; idle = idle }

idle_is_still : (script : Script) (timeouts : Bool) (m : Maker) (t : Trace) → IsOf script m → Kept m t → AreIdle timeouts m t
    → is_still script timeouts t ≡ true
idle_is_still script timeouts m t o k h =
    let named = named_by script m t o k in
    let used : t.signed ≡ signed_of (maker_by script t) t.journal = k.signed ∙ ap (λ (x : Maker). signed_of x t.journal) named in
    still_from script timeouts t used (subst (λ (x : Maker). AreIdle timeouts x t) named h)

pub all_idle : (script : Script) (timeouts : Bool) (makers : List Maker) (traces : List Trace) → AreOf script makers → AreEach Kept makers traces
    → list_all (is_still script timeouts) traces ≡ true → AreEach (IsStill timeouts) makers traces
all_idle script timeouts [] [] o k h = tt
all_idle script timeouts [] (t ∷ traces) o k h = absurd k
all_idle script timeouts (m ∷ makers) [] o k h = absurd k
all_idle script timeouts (m ∷ makers) (t ∷ traces) o k h = (
  still_is_idle script timeouts m t (o m (inl refl)) k.0 (and_left (is_still script timeouts t) (list_all (is_still script timeouts) traces) h),
  all_idle script timeouts makers traces (λ n i. o n (inr i)) k.1
      (and_right (is_still script timeouts t) (list_all (is_still script timeouts) traces) h),
)

pub all_still : (script : Script) (timeouts : Bool) (makers : List Maker) (traces : List Trace) → AreOf script makers → AreEach Kept makers traces
    → AreEach (AreIdle timeouts) makers traces → list_all (is_still script timeouts) traces ≡ true
all_still script timeouts [] [] o k h = refl
all_still script timeouts [] (t ∷ traces) o k h = absurd k
all_still script timeouts (m ∷ makers) [] o k h = absurd k
all_still script timeouts (m ∷ makers) (t ∷ traces) o k h =
    and_both (is_still script timeouts t) (list_all (is_still script timeouts) traces) (idle_is_still script timeouts m t (o m (inl refl)) k.0 h.0)
    (all_still script timeouts makers traces (λ n i. o n (inr i)) k.1 h.1)
