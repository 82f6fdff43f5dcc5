-- What a step of the core answers after a journal, and what it leaves where memory is refused.
use Rattle.std.proofs.Common.{◌≡◌, ℕ, cond, List, [], ◌∷◌, ◌++◌, Result, Ok, Err, sym, ap, subst, ◌∙◌}
use Rattle.std.specs.Prelude.{IfOk, OnErr}
use Rattle.fab_base.specs.declared.answers.Answer.{Answer}
use Rattle.replica_core.specs.Cores.{Machine, stepped}
use Rattle.replica_core.specs.Cores as cores
use Rattle.replica_core.specs.declared.events.Event.{Event}
use Rattle.run_words.specs.declared.logs.Entry.{Entry}
use Rattle.run_words.specs.Acts.{answer_to}
use Rattle.run_words.specs.Journal.{Maker}
use Rattle.replica_log.specs.Entering.{has_entry}
use Rattle.replica_log.specs.Keeping.{IsKept, maker_of, IsLive, Stays}
use Rattle.replica_log.specs.declared.keepers.Keeper.{Keeper}

-- the answer is that of the machine after the journal
pub answers : {S : Type 0} {E : Type 0} (limit : S → ℕ) (gives : S → ℕ → List ℕ → List ℕ) (old : Keeper S) (event : Event)
    → IsLive limit gives old → (r : Result Answer E) → IfOk r (λ answer. answer ≡ (stepped old.core event).answer)
    → IfOk r (λ answer. answer ≡ answer_to (maker_of limit gives old) old.journal.items (cores.event_of event))
answers limit gives old event live (Err x) a = tt
answers limit gives old event live (Ok answer) a = a ∙ ap (λ (c : Machine). (stepped c event).answer) live

-- what is kept beside the journal is what it was
abbrev pub IsBeside : {S : Type 0} → (S → ℕ) → (S → ℕ) → (S → ℕ → List ℕ → List ℕ) → Keeper S → Keeper S → Type 0
IsBeside limit made gives old now =
    IsKept (maker_of limit gives old) old.journal.items now.clock now.signed.items now.numbers (made now.signer)

-- after a refusal only the core may be another
pub stays : {S : Type 0} {E : Type 0} (limit made : S → ℕ) (gives : S → ℕ → List ℕ → List ℕ) (old now : Keeper S) (e : Entry)
    → maker_of limit gives now ≡ maker_of limit gives old → IsBeside limit made gives old now
    → (r : Result Answer E) → now.journal.items ≡ cond (has_entry r) (old.journal.items ++ e ∷ []) old.journal.items
    → OnErr r (Stays limit made gives old now)
stays limit made gives old now e same kept (Ok answer) j = tt
stays limit made gives old now e same kept (Err x) j = record {
  same = same;
  journal_is = j;
  kept = subst (λ (y : Maker). IsKept y now.journal.items now.clock now.signed.items now.numbers (made now.signer)) (sym same)
      (subst (λ (l : List Entry). IsKept (maker_of limit gives old) l now.clock now.signed.items now.numbers (made now.signer)) (sym j) kept);
}
