-- What an act of the core does to the journal is what an act of a party does.
use Rattle.std.proofs.Common.{◌≡◌, Bool, true, cond, List, [], ◌∷◌, ◌++◌, Result, Ok, Err, refl, sym, ap, subst, ◌∙◌}
use Rattle.std.specs.Prelude.{ℕ, IfOk, OnOk}
use Rattle.fab_base.specs.declared.answers.Answer.{Answer}
use Rattle.fab_machine.specs.Step as machine
use Rattle.fab_machine.specs.Step.{makes_entry}
use Rattle.fab_machine.proofs.Steps.{hearing_moves}
use Rattle.bft_verify.specs.Admitted.{Admitted}
use Rattle.run_words.specs.declared.logs.Entry.{Entry}
use Rattle.run_words.specs.declared.logs.Origin.{Origin}
use Rattle.run_words.specs.declared.party.Act.{Act}
use Rattle.run_words.specs.declared.party.Told.{Told}
use Rattle.run_words.specs.Journal.{Maker, state, moves}
use Rattle.run_words.specs.Acts.{answer_to, would, made_by, told_of}
use Rattle.replica_log.specs.Acting.{told_by}
use Rattle.replica_log.specs.Keeping.{maker_of, Enters, Moves, HasActed}
use Rattle.replica_log.specs.declared.keepers.Keeper.{Keeper}

-- an act, the core's event of it and its entry
record IsBy (m : Maker) (journal : List Entry) (act : Act) (event : machine.Event) (e : Entry) : Type 0 where
  makes : would m journal act ≡ makes_entry (answer_to m journal event)
  entry : made_by m journal act ≡ e
  told : told_of m journal act ≡ Told.Core (answer_to m journal event)

always : (m : Maker) (journal : List Entry) (heard : Admitted) → makes_entry (answer_to m journal (machine.Event.Hear heard.message)) ≡ true
always m journal heard = hearing_moves m.roster m.id (state m journal) heard.message

hear : (m : Maker) (journal : List Entry) (origin : Origin) (heard : Admitted)
    → IsBy m journal (Act.Hear origin heard) (machine.Event.Hear heard.message) (Entry.Heard origin heard.message)
hear m journal origin heard = record { makes = sym (always m journal heard); entry = refl; told = refl }

batch : (m : Maker) (journal : List Entry) → IsBy m journal Act.Batch machine.Event.Batch Entry.Proposed
unfolding moves
batch m journal = record { makes = refl; entry = refl; told = refl }

nudge : (m : Maker) (journal : List Entry) → IsBy m journal Act.Nudge machine.Event.Nudge Entry.Nudged
unfolding moves
nudge m journal = record { makes = refl; entry = refl; told = refl }

execute : (m : Maker) (journal : List Entry) → IsBy m journal Act.Execute machine.Event.Execute Entry.Executed
unfolding moves
execute m journal = record { makes = refl; entry = refl; told = refl }

checkpoint : (m : Maker) (journal : List Entry) → IsBy m journal Act.Checkpoint machine.Event.Checkpoint Entry.Marked
unfolding moves
checkpoint m journal = record { makes = refl; entry = refl; told = refl }

timeout : (m : Maker) (journal : List Entry) → IsBy m journal Act.Timeout machine.Event.Timeout Entry.TimedOut
unfolding moves
timeout m journal = record { makes = refl; entry = refl; told = refl }

module _ {S : Type 0} {E : Type 0} (limit made : S → ℕ) (gives : S → ℕ → List ℕ → List ℕ) (old now : Keeper S) where
  abbrev HaveActed : Act → Result Told E → Type 0
  HaveActed act t = IfOk t (λ told. HasActed limit made gives old act told now)

  acted_by : (act : Act) (event : machine.Event) (e : Entry) → IsBy (maker_of limit gives old) old.journal.items act event e → (r : Result Answer E)
      → IfOk r (λ answer. answer ≡ answer_to (maker_of limit gives old) old.journal.items event)
      → IfOk r (λ answer. Moves limit made gives old e (makes_entry answer) now)
      → HaveActed act (told_by r)
  acted_by act event e by (Err x) a v = tt
  acted_by act event e by (Ok answer) a v =
      let moved : makes_entry answer ≡ would (maker_of limit gives old) old.journal.items act = ap makes_entry a ∙ sym by.makes in
      record {
        acted = record {
          grows = v.whole.journal_is
              ∙ ap (λ (b : Bool). cond b (old.journal.items ++ e ∷ []) old.journal.items) moved
              ∙ ap (λ (x : Entry). cond (would (maker_of limit gives old) old.journal.items act) (old.journal.items ++ x ∷ []) old.journal.items) (sym by.entry);
          tells = ap Told.Core a ∙ sym by.told;
        };
        whole = record { whole = record { same = v.whole.same; journal_is = refl; kept = v.whole.kept }; live = v.live };
      }

  acted_as : (act done : Act) (event : machine.Event) (e entry : Entry) → act ≡ done → IsBy (maker_of limit gives old) old.journal.items done event e
      → entry ≡ e → (r : Result Answer E) (t : Result Told E) → t ≡ told_by r
      → IfOk r (λ answer. answer ≡ answer_to (maker_of limit gives old) old.journal.items event)
      → IfOk r (λ answer. Moves limit made gives old entry (makes_entry answer) now)
      → HaveActed act t
  acted_as act done event e entry is by entry_is r t told a v =
      subst (HaveActed act) (sym told)
      (subst (λ (x : Act). HaveActed x (told_by r)) (sym is)
      (acted_by done event e by r a (subst (λ (x : Entry). IfOk r (λ answer. Moves limit made gives old x (makes_entry answer) now)) entry_is v)))

  entered : (origin : Origin) (heard : Admitted) (r : Result Answer E)
      → IfOk r (λ answer. answer ≡ answer_to (maker_of limit gives old) old.journal.items (machine.Event.Hear heard.message))
      → OnOk r (Enters limit made gives old (Entry.Heard origin heard.message) now)
      → IfOk r (λ answer. Moves limit made gives old (Entry.Heard origin heard.message) (makes_entry answer) now)
  entered origin heard (Err x) a v = tt
  entered origin heard (Ok answer) a v =
      subst (λ (b : Bool). Moves limit made gives old (Entry.Heard origin heard.message) b now)
      (sym (ap makes_entry a ∙ always (maker_of limit gives old) old.journal.items heard)) v

  pub hear_acted : (act : Act) (origin : Origin) (heard : Admitted) (r : Result Answer E) (t : Result Told E) → act ≡ Act.Hear origin heard → t ≡ told_by r
      → IfOk r (λ answer. answer ≡ answer_to (maker_of limit gives old) old.journal.items (machine.Event.Hear heard.message))
      → OnOk r (Enters limit made gives old (Entry.Heard origin heard.message) now)
      → HaveActed act t
  hear_acted act origin heard r t is told a v =
      let e : Entry = Entry.Heard origin heard.message in
      acted_as act (Act.Hear origin heard) (machine.Event.Hear heard.message) e e is (hear (maker_of limit gives old) old.journal.items origin heard) refl r t
      told a (entered origin heard r a v)

  pub batch_acted : (act : Act) (entry : Entry) (r : Result Answer E) (t : Result Told E) → act ≡ Act.Batch → entry ≡ Entry.Proposed → t ≡ told_by r
      → IfOk r (λ answer. answer ≡ answer_to (maker_of limit gives old) old.journal.items machine.Event.Batch)
      → IfOk r (λ answer. Moves limit made gives old entry (makes_entry answer) now)
      → HaveActed act t
  batch_acted act entry r t is made_is told =
      acted_as act Act.Batch machine.Event.Batch Entry.Proposed entry is (batch (maker_of limit gives old) old.journal.items) made_is r t told

  pub nudge_acted : (act : Act) (entry : Entry) (r : Result Answer E) (t : Result Told E) → act ≡ Act.Nudge → entry ≡ Entry.Nudged → t ≡ told_by r
      → IfOk r (λ answer. answer ≡ answer_to (maker_of limit gives old) old.journal.items machine.Event.Nudge)
      → IfOk r (λ answer. Moves limit made gives old entry (makes_entry answer) now)
      → HaveActed act t
  nudge_acted act entry r t is made_is told =
      acted_as act Act.Nudge machine.Event.Nudge Entry.Nudged entry is (nudge (maker_of limit gives old) old.journal.items) made_is r t told

  pub execute_acted : (act : Act) (entry : Entry) (r : Result Answer E) (t : Result Told E) → act ≡ Act.Execute → entry ≡ Entry.Executed → t ≡ told_by r
      → IfOk r (λ answer. answer ≡ answer_to (maker_of limit gives old) old.journal.items machine.Event.Execute)
      → IfOk r (λ answer. Moves limit made gives old entry (makes_entry answer) now)
      → HaveActed act t
  execute_acted act entry r t is made_is told =
      acted_as act Act.Execute machine.Event.Execute Entry.Executed entry is (execute (maker_of limit gives old) old.journal.items) made_is r t told

  pub checkpoint_acted : (act : Act) (entry : Entry) (r : Result Answer E) (t : Result Told E) → act ≡ Act.Checkpoint → entry ≡ Entry.Marked → t ≡ told_by r
      → IfOk r (λ answer. answer ≡ answer_to (maker_of limit gives old) old.journal.items machine.Event.Checkpoint)
      → IfOk r (λ answer. Moves limit made gives old entry (makes_entry answer) now)
      → HaveActed act t
  checkpoint_acted act entry r t is made_is told =
      acted_as act Act.Checkpoint machine.Event.Checkpoint Entry.Marked entry is (checkpoint (maker_of limit gives old) old.journal.items) made_is r t told

  pub timeout_acted : (act : Act) (entry : Entry) (r : Result Answer E) (t : Result Told E) → act ≡ Act.Timeout → entry ≡ Entry.TimedOut → t ≡ told_by r
      → IfOk r (λ answer. answer ≡ answer_to (maker_of limit gives old) old.journal.items machine.Event.Timeout)
      → IfOk r (λ answer. Moves limit made gives old entry (makes_entry answer) now)
      → HaveActed act t
  timeout_acted act entry r t is made_is told =
      acted_as act Act.Timeout machine.Event.Timeout Entry.TimedOut entry is (timeout (maker_of limit gives old) old.journal.items) made_is r t told
