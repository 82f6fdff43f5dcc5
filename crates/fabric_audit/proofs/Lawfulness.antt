-- What a lawful run says of its script and of its journals: requests and what was heard have a spelling.
use Rattle.std.proofs.Common.{◌≡◌, Bool, true, List, [], ◌∷◌, inl, inr, refl}
use Rattle.std.specs.List.{list_all}
use Rattle.fab_base.proofs.Tests.{and_both}
use Rattle.fab_rules.specs.Format.{request_fits}
use Rattle.fab_rules.specs.Lists.{In}
use Rattle.fault_script.specs.declared.scripts.Script.{Script}
use Rattle.fault_script.specs.declared.scripts.Wish.{Wish}
use Rattle.fault_script.specs.Scripts.{keeps_limits}
use Rattle.run_words.specs.Journal.{Maker, AreSound, IsHeardSound}
use Rattle.run_words.specs.Lawful.{AreEach, Kept}
use Rattle.run_words.specs.declared.logs.Entry.{Entry}
use Rattle.run_words.specs.declared.logs.Trace.{Trace}
use Rattle.script_keys.specs.Requests.{asked}
use Rattle.script_keys.proofs.Wishes.{asked_in, asked_fits}
use Rattle.fabric_audit.specs.Journals.{entry_fits, journal_fits}

all_in : {X : Type 0} (p : X → Bool) (xs : List X) → ((x : X) → In x xs → p x ≡ true) → list_all p xs ≡ true
all_in p [] each = refl
all_in p (x ∷ xs) each = and_both (p x) (list_all p xs) (each x (inl refl)) (all_in p xs (λ y there. each y (inr there)))

pub wishes_fit : (script : Script) → keeps_limits script ≡ true → list_all (λ (w : Wish). request_fits (asked w [])) script.requests ≡ true
wishes_fit script h =
    all_in (λ (w : Wish). request_fits (asked w [])) script.requests
    (λ w there. let a = asked_in script w h there in asked_fits w w.op [] a.number a.stamp.1 a.op refl refl)

entry_is : (m : Maker) (e : Entry) → IsHeardSound m e → entry_fits e ≡ true
entry_is m (Entry.Heard origin x) h = h.spelled
entry_is m Entry.Proposed h = refl
entry_is m Entry.Nudged h = refl
entry_is m (Entry.Sent item) h = refl
entry_is m Entry.Executed h = refl
entry_is m Entry.Marked h = refl
entry_is m Entry.TimedOut h = refl

entries_fit : (m : Maker) (journal : List Entry) → AreSound m journal → list_all entry_fits journal ≡ true
entries_fit m [] h = refl
entries_fit m (e ∷ journal) h = and_both (entry_fits e) (list_all entry_fits journal) (entry_is m e h.0) (entries_fit m journal h.1)

pub journals_fit : (makers : List Maker) (traces : List Trace) → AreEach Kept makers traces → list_all journal_fits traces ≡ true
journals_fit makers [] h = refl
journals_fit [] (t ∷ traces) h = absurd h
journals_fit (m ∷ makers) (t ∷ traces) h =
    and_both (journal_fits t) (list_all journal_fits traces) (entries_fit m t.journal h.0.sound) (journals_fit makers traces h.1)
