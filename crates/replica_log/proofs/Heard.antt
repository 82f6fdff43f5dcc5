-- What the core hears is entered, and moves the clock.
use Rattle.std.proofs.Common.{◌≡◌, ℕ, ◌+◌, Bool, cond, List, [], ◌∷◌, ◌++◌, length, Result, Ok, Err, refl, sym, ap, subst, ◌∙◌, append-nil, add-zero}
use Rattle.std.specs.Prelude.{IfOk, OnOk, OnErr}
use Rattle.std.specs.Result.{is_ok}
use Rattle.fab_base.specs.declared.answers.Answer.{Answer}
use Rattle.fab_base.specs.declared.messages.Message.{Message}
use Rattle.fab_machine.specs.Step as machine
use Rattle.fab_machine.specs.Step.{makes_entry}
use Rattle.fab_machine.proofs.Steps.{hearing_moves}
use Rattle.bft_verify.specs.Sound.{IsSound}
use Rattle.replica_core.specs.Cores.{Machine, with_state, stepped}
use Rattle.replica_core.specs.Cores as cores
use Rattle.replica_core.specs.declared.events.Event.{Event}
use Rattle.run_words.specs.declared.logs.Entry.{Entry}
use Rattle.run_words.specs.declared.logs.Parcel.{Parcel}
use Rattle.run_words.specs.Journal.{Maker, Walk, event_of, tick, copies, added, stated_by, signed_beside, signed_by, walk, parcels_of, IsNext, IsHeardSound}
use Rattle.replica_log.specs.Entering.{has_entry}
use Rattle.parcel_post.specs.Posting.{Counts, AreNumbers}
use Rattle.replica_log.specs.Keeping.{IsKept, core_after, maker_of, IsLive, Enters, Stays, IsHearing}
use Rattle.replica_log.specs.declared.keepers.Keeper.{Keeper}
use Rattle.replica_log.proofs.Growing.{IsMore, kept_more, core_more}
use Rattle.replica_log.proofs.Stepping.{stays as refused}

record IsHeard (m : Maker) (journal : List Entry) (x : Message) (e : Entry) : Type 0 where
  event_is : event_of e ≡ machine.Event.Hear x
  next : IsNext m journal e
  sound : IsHeardSound m e
  signs : (w : Walk) → signed_by m w e ≡ []
  puts : (w : Walk) → added m w e ≡ []

heard : (m : Maker) (journal : List Entry) (x : Message) (e : Entry) → IsSound m.roster m.ring x → IsHearing e x → IsHeard m journal x e
unfolding stated_by signed_beside signed_by copies added
heard m journal x (Entry.Heard origin y) s h = record {
  event_is = ap machine.Event.Hear h;
  next = tt;
  sound = subst (IsSound m.roster m.ring) (sym h) s;
  signs = λ w. refl;
  puts = λ w. refl;
}
heard m journal x e s h = absurd h

more_of : (m : Maker) (journal : List Entry) (x : Message) (e : Entry) (old now : ℕ) (signed : List (List ℕ)) (counts : Counts) (made : ℕ)
    → IsKept m journal old signed counts made → IsHeard m journal x e → now ≡ tick old e → IsMore m journal e old now signed signed counts made made
more_of m journal x e old now signed counts made h q t = record {
  next = q.next;
  sound = q.sound;
  ticks = t;
  signs = sym (ap (λ l. signed ++ l) (q.signs (walk m journal)) ∙ append-nil signed);
  numbers = subst (AreNumbers counts)
      (sym (ap (λ (l : List Parcel). parcels_of m journal ++ l) (q.puts (walk m journal)) ∙ append-nil (parcels_of m journal))) h.numbers;
  makes = sym (ap (λ (l : List (List ℕ)). made + length l) (q.signs (walk m journal)) ∙ add-zero made);
}

-- of this replica, with this journal and this core
record IsHeld (m : Maker) (now : ℕ) (signed : List (List ℕ)) (counts : Counts) (made : ℕ) (journal : List Entry) (core : Machine) : Type 0 where
  kept : IsKept m journal now signed counts made
  live : core ≡ core_after m journal

took : (m : Maker) (journal : List Entry) (core : Machine) (event : Event) (x : Message) (e : Entry) (old now : ℕ) (signed : List (List ℕ)) (counts : Counts) (made : ℕ)
    → IsKept m journal old signed counts made → core ≡ core_after m journal → cores.event_of event ≡ machine.Event.Hear x
    → IsHeard m journal x e → now ≡ tick old e
    → IsHeld m now signed counts made (journal ++ e ∷ []) (with_state core (stepped core event).state)
took m journal core event x e old now signed counts made h live is q t = record {
  kept = kept_more m journal e old now signed signed counts counts made made h (more_of m journal x e old now signed counts made h q t);
  live = ap (λ (v : machine.Event). with_state core (machine.step core.roster core.me core.state v).state) (is ∙ sym q.event_is)
      ∙ core_more m journal e core live;
}

-- hearing always makes an entry
always : {X : Type 0} (core : Machine) (event : Event) (x : Message) (answer : Answer) (a b : X) → cores.event_of event ≡ machine.Event.Hear x
    → answer ≡ (stepped core event).answer
    → cond (makes_entry answer) a b ≡ a
always core event x answer a b is h =
    ap (λ (c : Bool). cond c a b) (ap makes_entry h
    ∙ ap (λ (v : machine.Event). makes_entry (machine.step core.roster core.me core.state v).answer) is
    ∙ hearing_moves core.roster core.me core.state x)

-- ---- a keeper

-- what is kept beside the journal is what it was, but for the clock
abbrev pub IsBeside : {S : Type 0} → (S → ℕ) → (S → ℕ) → (S → ℕ → List ℕ → List ℕ) → Keeper S → Keeper S → Type 0
IsBeside limit made gives old now =
    IsKept (maker_of limit gives old) old.journal.items old.clock now.signed.items now.numbers (made now.signer)

pub hears : {S : Type 0} {E : Type 0} (limit made : S → ℕ) (gives : S → ℕ → List ℕ → List ℕ) (old now : Keeper S) (event : Event) (x : Message) (e : Entry)
    (after : ℕ)
    → maker_of limit gives now ≡ maker_of limit gives old → IsBeside limit made gives old now → IsLive limit gives old
    → cores.event_of event ≡ machine.Event.Hear x → IsSound old.members old.ring x → IsHearing e x → after ≡ tick old.clock e
    → (r : Result Answer E) → IfOk r (λ answer. answer ≡ (stepped old.core event).answer)
    → OnOk r (now.core ≡ with_state old.core (stepped old.core event).state)
    → now.journal.items ≡ cond (has_entry r) (old.journal.items ++ e ∷ []) old.journal.items
    → now.clock ≡ cond (is_ok r) after old.clock
    → OnOk r (Enters limit made gives old e now)
hears limit made gives old now event x e after same kept live is sound entry t (Err y) a c j k = tt
hears limit made gives old now event x e after same kept live is sound entry t (Ok answer) a c j k =
    let m = maker_of limit gives old in
    let grown : List Entry = old.journal.items ++ e ∷ [] in
    let q = heard m old.journal.items x e sound entry in
    let held = took m old.journal.items old.core event x e old.clock now.clock now.signed.items now.numbers (made now.signer) kept live is q (k ∙ t) in
    let there : now.journal.items ≡ grown = j ∙ always old.core event x answer grown old.journal.items is a in
    record {
      whole = record {
        same = same;
        journal_is = there;
        kept = subst (λ (y : Maker). IsKept y now.journal.items now.clock now.signed.items now.numbers (made now.signer)) (sym same)
            (subst (λ (l : List Entry). IsKept m l now.clock now.signed.items now.numbers (made now.signer)) (sym there) held.kept);
      };
      live = c ∙ held.live ∙ ap (core_after m) (sym there) ∙ ap (λ (y : Maker). core_after y now.journal.items) (sym same);
    }

-- after a refusal only the core may be another
pub stays : {S : Type 0} {E : Type 0} (limit made : S → ℕ) (gives : S → ℕ → List ℕ → List ℕ) (old now : Keeper S) (e : Entry) (after : ℕ)
    → maker_of limit gives now ≡ maker_of limit gives old → IsBeside limit made gives old now
    → (r : Result Answer E)
    → now.journal.items ≡ cond (has_entry r) (old.journal.items ++ e ∷ []) old.journal.items
    → now.clock ≡ cond (is_ok r) after old.clock
    → OnErr r (Stays limit made gives old now)
stays limit made gives old now e after same kept (Ok answer) j k = tt
stays limit made gives old now e after same kept (Err y) j k =
    refused limit made gives old now e same
    (subst (λ (n : ℕ). IsKept (maker_of limit gives old) old.journal.items n now.signed.items now.numbers (made now.signer)) (sym k) kept) (Err y) j
