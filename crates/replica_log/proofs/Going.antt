-- What the core does of its own accord: an entry that it makes changes nothing of what is kept but the journal.
use Rattle.std.proofs.Common.{◌≡◌, ℕ, ◌+◌, Bool, true, false, cond, List, [], ◌∷◌, ◌++◌, length, Result, Ok, Err, refl, sym, ap, subst, ◌∙◌, append-nil, add-zero}
use Rattle.std.specs.Prelude.{IfOk, OnOk}
use Rattle.fab_base.specs.declared.answers.Answer.{Answer}
use Rattle.fab_base.specs.Limits.{Roster}
use Rattle.fab_machine.specs.State.{Replica}
use Rattle.fab_machine.specs.Step as machine
use Rattle.fab_machine.specs.Step.{step, makes_entry}
use Rattle.fab_machine.proofs.Steps.{idle}
use Rattle.replica_core.specs.Cores.{Machine, with_state, stepped}
use Rattle.replica_core.specs.Cores as cores
use Rattle.replica_core.specs.declared.events.Event.{Event}
use Rattle.run_words.specs.declared.logs.Entry.{Entry}
use Rattle.run_words.specs.declared.logs.Parcel.{Parcel}
use Rattle.run_words.specs.Journal.{Maker, Walk, event_of, state, tick, copies, added, stated_by, signed_beside, signed_by, walk, parcels_of, moves, IsNext, IsHeardSound}
use Rattle.replica_log.specs.Entering.{has_entry}
use Rattle.parcel_post.specs.Posting.{Counts, AreNumbers}
use Rattle.replica_log.specs.Keeping.{IsKept, core_after, maker_of, IsLive, Moves, IsMoving}
use Rattle.replica_log.specs.declared.keepers.Keeper.{Keeper}
use Rattle.replica_log.proofs.Growing.{IsMore, kept_more, core_more}
use Rattle.replica_log.proofs.Stepping.{IsBeside}

-- ---- such an entry

moving_cases : (P : Event → Entry → Type 0) → P Event.Batch Entry.Proposed → P Event.Nudge Entry.Nudged → P Event.Execute Entry.Executed
    → P Event.Checkpoint Entry.Marked → P Event.Timeout Entry.TimedOut
    → (event : Event) (e : Entry) → IsMoving event e → P event e
moving_cases P a b c d f Event.Batch Entry.Proposed h = a
moving_cases P a b c d f Event.Nudge Entry.Nudged h = b
moving_cases P a b c d f Event.Execute Entry.Executed h = c
moving_cases P a b c d f Event.Checkpoint Entry.Marked h = d
moving_cases P a b c d f Event.Timeout Entry.TimedOut h = f
moving_cases P a b c d f event e h = absurd h

-- such an event is of no roster
pub moving_for : (r : Roster) (event : Event) (e : Entry) → IsMoving event e → cores.IsFor r event
moving_for r = moving_cases (λ event e. cores.IsFor r event) tt tt tt tt tt

record IsQuiet (m : Maker) (journal : List Entry) (event : Event) (e : Entry) : Type 0 where
  next : makes_entry (step m.roster m.id (state m journal) (cores.event_of event)).answer ≡ true → IsNext m journal e
  event_is : event_of e ≡ cores.event_of event
  sound : IsHeardSound m e
  ticks : (c : ℕ) → tick c e ≡ c
  signs : (w : Walk) → signed_by m w e ≡ []
  puts : (w : Walk) → added m w e ≡ []

quiet : (m : Maker) (journal : List Entry) (event : Event) (e : Entry) → IsMoving event e → IsQuiet m journal event e
unfolding moves stated_by signed_beside signed_by copies added
quiet m journal =
    moving_cases (IsQuiet m journal)
    (record { next = λ h. h; event_is = refl; sound = tt; ticks = λ c. refl; signs = λ w. refl; puts = λ w. refl })
    (record { next = λ h. h; event_is = refl; sound = tt; ticks = λ c. refl; signs = λ w. refl; puts = λ w. refl })
    (record { next = λ h. h; event_is = refl; sound = tt; ticks = λ c. refl; signs = λ w. refl; puts = λ w. refl })
    (record { next = λ h. h; event_is = refl; sound = tt; ticks = λ c. refl; signs = λ w. refl; puts = λ w. refl })
    (record { next = λ h. h; event_is = refl; sound = tt; ticks = λ c. refl; signs = λ w. refl; puts = λ w. refl })

-- ---- what is kept

-- of some journal, with the core after it
record IsHeld (m : Maker) (clock_now : ℕ) (signed : List (List ℕ)) (counts : Counts) (made : ℕ) (journal : List Entry) (core : Machine) : Type 0 where
  kept : IsKept m journal clock_now signed counts made
  live : core ≡ core_after m journal

more_of : (m : Maker) (journal : List Entry) (event : Event) (e : Entry) (now : ℕ) (signed : List (List ℕ)) (counts : Counts) (made : ℕ)
    → IsKept m journal now signed counts made → IsMoving event e
    → makes_entry (step m.roster m.id (state m journal) (cores.event_of event)).answer ≡ true
    → IsMore m journal e now now signed signed counts made made
more_of m journal event e now signed counts made h moving makes =
    let q = quiet m journal event e moving in record {
      next = q.next makes;
      sound = q.sound;
      ticks = sym (q.ticks now);
      signs = sym (ap (λ l. signed ++ l) (q.signs (walk m journal)) ∙ append-nil signed);
      numbers = subst (AreNumbers counts) (sym (ap (λ (l : List Parcel). parcels_of m journal ++ l) (q.puts (walk m journal)) ∙ append-nil (parcels_of m journal))) h.numbers;
      makes = sym (ap (λ (l : List (List ℕ)). made + length l) (q.signs (walk m journal)) ∙ add-zero made);
    }

advanced : (m : Maker) (journal : List Entry) (core : Machine) (event : Event) (e : Entry) (now : ℕ) (signed : List (List ℕ)) (counts : Counts) (made : ℕ)
    → IsKept m journal now signed counts made → core ≡ core_after m journal → IsMoving event e → (b : Bool)
    → makes_entry (stepped core event).answer ≡ b
    → IsHeld m now signed counts made (cond b (journal ++ e ∷ []) journal) (with_state core (stepped core event).state)
advanced m journal core event e now signed counts made h live moving true makes =
    let q = quiet m journal event e moving in
    let there : makes_entry (step m.roster m.id (state m journal) (cores.event_of event)).answer ≡ true =
    ap (λ (c : Machine). makes_entry (stepped c event).answer) (sym live) ∙ makes in
    record {
      kept = kept_more m journal e now now signed signed counts counts made made h
          (more_of m journal event e now signed counts made h moving there);
      live = ap (λ (v : machine.Event). with_state core (step core.roster core.me core.state v).state) (sym q.event_is) ∙ core_more m journal e core live;
    }
advanced m journal core event e now signed counts made h live moving false makes =
    let still : (stepped (core_after m journal) event).state ≡ state m journal =
    idle m.roster m.id (state m journal) (cores.event_of event) (ap (λ (c : Machine). makes_entry (stepped c event).answer) (sym live) ∙ makes) in
    let core_of : Replica → Machine = λ s. record { roster = m.roster; me = m.id; state = s; shut = false } in
    record { kept = h; live = ap (λ (c : Machine). with_state c (stepped c event).state) live ∙ ap core_of still }

-- ---- a keeper

pub advances : {S : Type 0} {E : Type 0} (limit made : S → ℕ) (gives : S → ℕ → List ℕ → List ℕ) (old now : Keeper S) (event : Event) (e : Entry)
    → maker_of limit gives now ≡ maker_of limit gives old → IsBeside limit made gives old now → IsLive limit gives old → IsMoving event e
    → (r : Result Answer E) → IfOk r (λ answer. answer ≡ (stepped old.core event).answer)
    → OnOk r (now.core ≡ with_state old.core (stepped old.core event).state)
    → now.journal.items ≡ cond (has_entry r) (old.journal.items ++ e ∷ []) old.journal.items
    → IfOk r (λ answer. Moves limit made gives old e (makes_entry answer) now)
advances limit made gives old now event e same kept live moving (Err x) a c j = tt
advances limit made gives old now event e same kept live moving (Ok answer) a c j =
    let m = maker_of limit gives old in
    let held = advanced m old.journal.items old.core event e now.clock now.signed.items now.numbers (made now.signer) kept live moving (makes_entry answer) (ap makes_entry (sym a)) in
    let grown = subst (λ (l : List Entry). IsKept m l now.clock now.signed.items now.numbers (made now.signer)) (sym j) held.kept in
    record {
      whole = record {
        same = same;
        journal_is = j;
        kept = subst (λ (x : Maker). IsKept x now.journal.items now.clock now.signed.items now.numbers (made now.signer)) (sym same) grown;
      };
      live = c ∙ held.live ∙ ap (core_after m) (sym j) ∙ ap (λ (x : Maker). core_after x now.journal.items) (sym same);
    }
