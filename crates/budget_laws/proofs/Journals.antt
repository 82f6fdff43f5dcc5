-- The primary of a run of one cluster, by its journal: its state and diary, and what an entry more adds to what it proposed.
use Rattle.std.proofs.Common.{◌≡◌, ℕ, zero, suc, ◌<◌, ◌≤◌, Bool, true, false, ◌&&◌, ◌||◌, nat_le, List, [], ◌∷◌, ◌++◌, map, take, length, ◌⊎◌, inl, inr, refl, sym, ap, subst, ◌∙◌, arith}
use Rattle.std.specs.Prelude.{slice_index}
use Rattle.std.specs.List.{range_with_len}
use Rattle.fab_base.specs.Limits.{Roster}
use Rattle.fab_base.specs.declared.ids.ReplicaId.{ReplicaId}
use Rattle.fab_base.specs.declared.requests.Request.{Request}
use Rattle.fab_base.proofs.Tests.{at_most}
use Rattle.fab_rules.specs.Diary as diaries
use Rattle.fab_rules.specs.Lists.{In}
use Rattle.fab_machine.specs.State.{Replica, fresh}
use Rattle.fab_machine.specs.Proposing.{eligible}
use Rattle.fab_machine.specs.Rounds.{knows_others}
use Rattle.fab_machine.specs.Step as machine
use Rattle.fab_machine.specs.Step.{Event, step}
use Rattle.fab_machine.specs.Diaries.{state_from, state_of, diary_after, diary_of}
use Rattle.fab_machine.specs.Diaries as events
use Rattle.fault_script.specs.declared.scripts.Script.{Script}
use Rattle.heed_laws.specs.Resting.{member}
use Rattle.run_words.specs.Journal.{Maker, event_of, state, diary, moves, IsNext, IsMade as IsReplayed}
use Rattle.run_words.specs.declared.movers.Mover.{Mover}
use Rattle.run_words.specs.declared.logs.Entry.{Entry}
use Rattle.run_words.proofs.Replays.{state_more, same_diary}
use Rattle.script_keys.specs.Keys.{replicas_from}
use Rattle.run_worlds.specs.Scripts.{maker_of}
use Rattle.budget_laws.proofs.Moments.{IsMoment, IsStepOf}
use Rattle.heed_laws.specs.Heeding.{IsPlain}
use Rattle.plain_laws.proofs.Members.{plain_events}
use Rattle.plain_laws.proofs.Plainness.{ArePlainEntries}
use Rattle.fab_rules.proofs.Lists.{in_append_left, in_append_right}
use Rattle.plain_laws.proofs.Members.{none_other}
use Rattle.budget_laws.proofs.Putting.{proposed_by, silent, proposes, AllOwn, own_kept}

-- ---- the first replica

-- the first replica of a cluster that has one
pub record HasFirst (script : Script) : Type 0 where
  pub others : List Maker
  pub makers_are : map (maker_of script) (replicas_from 1 script.sizes) ≡ maker_of script (member 0) ∷ others

pub first_of_all : (script : Script) → 0 < slice_index script.sizes 0 → HasFirst script
first_of_all script some = let f = by script.sizes some in record { others = f.0; makers_are = f.1 }
  where
    by : (sizes : List ℕ) → 0 < slice_index sizes 0 → (others : List Maker) × (map (maker_of script) (replicas_from 1 sizes) ≡ maker_of script (member 0) ∷ others)
    by [] h = absurd (omega (arith, h))
    by (zero ∷ rest) h = absurd (omega (arith, h))
    by (suc k ∷ rest) h = (map (maker_of script) (map (λ index. record { cluster = 1; index = index }) (range_with_len 1 k) ++ replicas_from 2 rest), refl)

-- ---- an entry more

events_more : (r : Roster) (me : ReplicaId) (s : Replica) (past : List diaries.Entry) (es : List Event) (x : Event)
    → events.diary_from r me s past (es ++ x ∷ [])
    ≡ diary_after me (state_from r me s es) x (step r me (state_from r me s es) x).state (events.diary_from r me s past es)
events_more r me s past [] x = refl
events_more r me s past (e ∷ es) x = events_more r me (step r me s e).state (diary_after me s e (step r me s e).state past) es x

map_more : (journal : List Entry) (e : Entry) → map event_of (journal ++ e ∷ []) ≡ map event_of journal ++ event_of e ∷ []
map_more [] e = refl
map_more (x ∷ journal) e = ap (λ l. event_of x ∷ l) (map_more journal e)

pub diary_one : (m : Maker) (journal : List Entry) (e : Entry) → IsReplayed m journal → IsReplayed m (journal ++ e ∷ [])
    → diary m (journal ++ e ∷ []) ≡ diary_after m.id (state m journal) (event_of e) (step m.roster m.id (state m journal) (event_of e)).state (diary m journal)
unfolding state
diary_one m journal e made now =
    same_diary m (journal ++ e ∷ []) now
    ∙ ap (diary_of m.roster m.id) (map_more journal e)
    ∙ events_more m.roster m.id (fresh m.roster m.id) [] (map event_of journal) (event_of e)
    ∙ ap (diary_after m.id (state m journal) (event_of e) (step m.roster m.id (state m journal) (event_of e)).state) (sym (same_diary m journal made))

-- ---- certificates are of the own cluster

own_from : (r : Roster) (me : ReplicaId) (s : Replica) (es : List Event) → ((e : Event) → In e es → IsPlain e) → AllOwn me s.rounds → AllOwn me (state_from r me s es).rounds
own_from r me s [] plain h = h
own_from r me s (e ∷ es) plain h = own_from r me (step r me s e).state es (λ x i. plain x (inr i)) (own_kept r me s e (plain e (inl refl)) h)

pub all_own : (m : Maker) (journal : List Entry) → ArePlainEntries journal → AllOwn m.id (state m journal).rounds
unfolding state
all_own m journal plain = own_from m.roster m.id (fresh m.roster m.id) (map event_of journal) (plain_events journal plain) (λ k h. absurd h)

-- ---- what is proposed by a journal

-- the batches that were proposed, or wait to be
abbrev pub batches_by : Maker → List Entry → List (List Request)
batches_by m journal = proposed_by m.id (state m journal) (diary m journal)

-- a batch of eligible requests more: a full one, or, where the replica was nudged, one that isn't empty
pub record HasBatch (Still : Type 0) (m : Maker) (before now : List Entry) : Type 0 where
  pub one_more : batches_by m now ≡ batches_by m before ++ take m.roster.batch (eligible (state m before).local) ∷ []
  pub full : (m.roster.batch ≤ length (eligible (state m before).local)) ⊎ (Still × (1 ≤ length (eligible (state m before).local)))

due_full : (batch n : ℕ) (known : Bool) → known ≡ false → (nat_le batch n || (known || (false && nat_le 1 n))) ≡ true → batch ≤ n
due_full batch n known none h = go (nat_le batch n) refl known none h
  where
    go : (b : Bool) → nat_le batch n ≡ b → (known : Bool) → known ≡ false → (b || (known || false)) ≡ true → batch ≤ n
    go true e known none h = at_most batch n e
    go false e true none h = absurd cc
    go false e false none h = absurd cc

due_some : (batch n : ℕ) (known : Bool) → known ≡ false → (nat_le batch n || (known || (true && nat_le 1 n))) ≡ true → (batch ≤ n) ⊎ (1 ≤ n)
due_some batch n known none h = go (nat_le batch n) refl known none h
  where
    go : (b : Bool) → nat_le batch n ≡ b → (known : Bool) → known ≡ false → (b || (known || (true && nat_le 1 n))) ≡ true → (batch ≤ n) ⊎ (1 ≤ n)
    go true e known none h = inl (at_most batch n e)
    go false e true none h = absurd cc
    go false e false none h = inr (at_most 1 n h)

move_made : (m : Maker) (journal : List Entry) → moves m journal Mover.Batch ≡ true → machine.moves m.roster m.id (state m journal) Event.Batch ≡ true
unfolding moves
move_made m journal h = h

nudge_made : (m : Maker) (journal : List Entry) → moves m journal Mover.Nudge ≡ true → machine.moves m.roster m.id (state m journal) Event.Nudge ≡ true
unfolding moves
nudge_made m journal h = h

module _ (Still : Type 0) (m : Maker) (journal : List Entry) (made : IsReplayed m journal) (plain : ArePlainEntries journal) where
  abbrev grown : Entry → List (List Request)
  grown e = proposed_by m.id (step m.roster m.id (state m journal) (event_of e)).state
      (diary_after m.id (state m journal) (event_of e) (step m.roster m.id (state m journal) (event_of e)).state (diary m journal))

  grown_is : (e : Entry) → IsReplayed m (journal ++ e ∷ []) → batches_by m (journal ++ e ∷ []) ≡ grown e
  grown_is e now =
      ap (λ (s : Replica). proposed_by m.id s (diary m (journal ++ e ∷ []))) (state_more m journal e)
      ∙ ap (proposed_by m.id (step m.roster m.id (state m journal) (event_of e)).state) (diary_one m journal e made now)

  none_else : knows_others m.id.cluster (state m journal).rounds.certificates (state m journal).local.next ≡ false
  none_else = none_other m.id.cluster (state m journal).rounds.certificates (state m journal).local.next (all_own m journal plain)

  one_entry : (e : Entry) → IsPlain (event_of e) → IsReplayed m (journal ++ e ∷ []) → IsNext m journal e → IsMoment Still e
      → (batches_by m (journal ++ e ∷ []) ≡ batches_by m journal) ⊎ HasBatch Still m journal (journal ++ e ∷ [])
  one_entry Entry.Proposed p_e now next_is moment =
      let p = proposes m.roster m.id (state m journal) (diary m journal) false (move_made m journal next_is) in
      inr (record { one_more = grown_is Entry.Proposed now ∙ p.one_more; full = inl (due_full m.roster.batch (length (eligible (state m journal).local)) _ none_else p.due) })
  one_entry Entry.Nudged p_e now next_is moment =
      let p = proposes m.roster m.id (state m journal) (diary m journal) true (nudge_made m journal next_is) in
      inr (record {
        one_more = grown_is Entry.Nudged now ∙ p.one_more;
        full = elim (due_some m.roster.batch (length (eligible (state m journal).local)) _ none_else p.due) [ inl k ↦ inl k | inr k ↦ inr (moment, k) ];
      })
  one_entry (Entry.Heard origin x) p_e now next_is moment = inl (grown_is (Entry.Heard origin x) now ∙ silent m.roster m.id (state m journal) (diary m journal) (event_of (Entry.Heard origin x)) p_e tt)
  one_entry (Entry.Sent item) p_e now next_is moment = inl (grown_is (Entry.Sent item) now ∙ silent m.roster m.id (state m journal) (diary m journal) (event_of (Entry.Sent item)) tt tt)
  one_entry Entry.Executed p_e now next_is moment = inl (grown_is Entry.Executed now ∙ silent m.roster m.id (state m journal) (diary m journal) Event.Execute tt tt)
  one_entry Entry.Marked p_e now next_is moment = inl (grown_is Entry.Marked now ∙ silent m.roster m.id (state m journal) (diary m journal) Event.Checkpoint tt tt)
  one_entry Entry.TimedOut p_e now next_is moment = absurd p_e

pub one_step : (Still : Type 0) (m : Maker) (before now : List Entry) → IsReplayed m before → IsReplayed m now → ArePlainEntries now → IsStepOf Still m before now
    → (batches_by m now ≡ batches_by m before) ⊎ HasBatch Still m before now
one_step Still m before now made made_now plain (inl same) = inl (ap (batches_by m) same)
one_step Still m before now made made_now plain (inr h) =
    let all : ArePlainEntries (before ++ h.entry ∷ []) = subst (λ j. ArePlainEntries j) h.grown plain in
    subst (λ j. (batches_by m j ≡ batches_by m before) ⊎ HasBatch Still m before j) (sym h.grown)
    (one_entry Still m before made (λ x i. all x (in_append_left x before (h.entry ∷ []) i)) h.entry
    (all h.entry (in_append_right h.entry before (h.entry ∷ []) (inl refl))) (subst (IsReplayed m) h.grown made_now) h.next_is h.moment)
