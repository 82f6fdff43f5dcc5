-- An act that enters something enters what the machine makes.
use Rattle.std.proofs.Common.{◌≡◌, Bool, true, false, cond, List, [], ◌∷◌, ◌++◌, Option, Some, None, length, length-append, refl, sym, ap, subst, ◌∙◌, arith}
use Rattle.std.proofs.lemmas.List.{append_cancel_left}
use Rattle.turn_lock.specs.Histories.{with_entry}
use Rattle.run_words.specs.Journal.{Maker, IsNext, IsHeardSound}
use Rattle.run_words.specs.Acts.{IsFor, would, made_by, Does, Acted}
use Rattle.run_words.specs.declared.logs.Entry.{Entry}
use Rattle.run_words.specs.declared.movers.Mover.{Mover}
use Rattle.run_words.specs.declared.party.Act.{Act}
use Rattle.run_words.specs.declared.party.Told.{Told}
use Rattle.run_words.proofs.Walks.{entry_next, entry_sound}
use Rattle.bft_verify.specs.Sound.{IsSound}
use Rattle.bft_verify.specs.Ring.{Ring}
use Rattle.fab_base.specs.Limits.{Roster}
use Rattle.party_turn.specs.Playing.{IsSoundAct, IsSoundIf, Plays}
use Rattle.party_turn.specs.declared.answered.Answered.{Answered}

pub not_same : {A B : Type 0} (xs : List A) (x : A) → xs ++ x ∷ [] ≡ xs → B
not_same xs x e = absurd (let l = sym (length-append xs (x ∷ [])) ∙ ap length e in omega arith)

-- the entry that a journal grew by
last_is : {A : Type 0} (xs : List A) (x y : A) → xs ++ x ∷ [] ≡ xs ++ y ∷ [] → x ≡ y
last_is xs x y e = let t = append_cancel_left xs (x ∷ []) (y ∷ []) e in cc

next_by : (m : Maker) (journal : List Entry) (act : Act) → would m journal act ≡ true → IsNext m journal (made_by m journal act)
next_by m journal (Act.Hear origin heard) h = tt
next_by m journal Act.Batch h = entry_next m journal Mover.Batch h
next_by m journal Act.Nudge h = entry_next m journal Mover.Nudge h
next_by m journal Act.Emit h = entry_next m journal Mover.Emit h
next_by m journal Act.Execute h = entry_next m journal Mover.Execute h
next_by m journal Act.Checkpoint h = entry_next m journal Mover.Checkpoint h
next_by m journal Act.Timeout h = entry_next m journal Mover.Timeout h

grown_by : (m : Maker) (journal : List Entry) (act : Act) (e : Entry) (b : Bool) → would m journal act ≡ b
    → journal ++ e ∷ [] ≡ cond b (journal ++ made_by m journal act ∷ []) journal
    → IsNext m journal e × (e ≡ made_by m journal act)
grown_by m journal act e true w g =
    let same = last_is journal e (made_by m journal act) g in (subst (IsNext m journal) (sym same) (next_by m journal act w), same)
grown_by m journal act e false w g = not_same journal e g

pub does_next : (m : Maker) (journal : List Entry) (act : Act) (told : Told) (e : Entry) → Does m journal act told (journal ++ e ∷ [])
    → IsNext m journal e × (e ≡ made_by m journal act)
does_next m journal act told e d = grown_by m journal act e (would m journal act) refl d.grows

pub acted_next : (m : Maker) (journal : List Entry) (act : Act) (told : Told) (e : Entry) → Acted m journal act told (journal ++ e ∷ [])
    → IsNext m journal e × (e ≡ made_by m journal act)
acted_next m journal act Told.NoMemory e h = not_same journal e h
acted_next m journal act (Told.Core answer) e h = does_next m journal act (Told.Core answer) e h
acted_next m journal act (Told.Out parcels) e h = does_next m journal act (Told.Out parcels) e h
acted_next m journal act (Told.KeySpent used) e h = does_next m journal act (Told.KeySpent used) e h

-- ---- the other way: what an act does is an entry or none

pub record Entered (m : Maker) (journal : List Entry) (act : Act) (told : Told) (now : List Entry) : Type 0 where
  pub entry : Option Entry
  pub is : now ≡ with_entry journal entry
  pub sound : IsSoundIf m entry

sound_by : (m : Maker) (journal : List Entry) (act : Act) → IsFor m act → IsSoundAct act → IsHeardSound m (made_by m journal act)
sound_by m journal (Act.Hear origin heard) f s =
    subst (λ (r : Roster). IsSound r m.ring heard.message) f.0 (subst (λ (k : Ring). IsSound heard.members k heard.message) f.1 s)
sound_by m journal Act.Batch f s = entry_sound m journal Mover.Batch
sound_by m journal Act.Nudge f s = entry_sound m journal Mover.Nudge
sound_by m journal Act.Emit f s = entry_sound m journal Mover.Emit
sound_by m journal Act.Execute f s = entry_sound m journal Mover.Execute
sound_by m journal Act.Checkpoint f s = entry_sound m journal Mover.Checkpoint
sound_by m journal Act.Timeout f s = entry_sound m journal Mover.Timeout

entered_by : (m : Maker) (journal : List Entry) (act : Act) (told : Told) (now : List Entry) (b : Bool) → IsFor m act → IsSoundAct act
    → now ≡ cond b (journal ++ made_by m journal act ∷ []) journal
    → Entered m journal act told now
entered_by m journal act told now true f s g = record { entry = Some (made_by m journal act); is = g; sound = sound_by m journal act f s }
entered_by m journal act told now false f s g = record { entry = None; is = g; sound = tt }

pub entered : (m : Maker) (journal : List Entry) (act : Act) (told : Told) (now : List Entry) → IsFor m act → IsSoundAct act
    → Acted m journal act told now
    → Entered m journal act told now
entered m journal act Told.NoMemory now f s h = record { entry = None; is = h; sound = tt }
entered m journal act (Told.Core answer) now f s h = entered_by m journal act (Told.Core answer) now (would m journal act) f s h.grows
entered m journal act (Told.Out parcels) now f s h = entered_by m journal act (Told.Out parcels) now (would m journal act) f s h.grows
entered m journal act (Told.KeySpent used) now f s h = entered_by m journal act (Told.KeySpent used) now (would m journal act) f s h.grows

abbrev pub DidPlay : Maker → List Entry → Act → Answered → List Entry → Type 0
DidPlay m journal act answer now = (e : Option Entry) × Plays m journal act answer e × (now ≡ with_entry journal e)

pub played : (m : Maker) (journal : List Entry) (act : Act) (answer : Answered) (now : List Entry) → IsFor m act → IsSoundAct act
    → Acted m journal act answer.told now
    → answer.entries ≡ length now
    → DidPlay m journal act answer now
played m journal act answer now f s h n =
    let e = entered m journal act answer.told now f s h in (
      e.entry,
      record {
        acted = subst (Acted m journal act answer.told) e.is h;
        sound = e.sound;
        count = n ∙ ap length e.is;
      },
      e.is,
    )
