-- The diary of a journal that replays is that of its events, and so it is honest.
use Rattle.std.proofs.Common.{◌≡◌, ℕ, Bool, true, false, cond, not, ◌&&◌, ◌⊎◌, List, [], ◌∷◌, ◌++◌, map, length, Option, inl, inr, refl, sym, ap, subst, ◌∙◌}
use Rattle.fab_base.specs.Limits.{IsWithinLimits}
use Rattle.fab_base.specs.Roster.{is_replica}
use Rattle.fab_base.specs.declared.ids.ReplicaId.{ReplicaId}
use Rattle.fab_base.specs.declared.ids.Who.{Who}
use Rattle.fab_base.specs.declared.messages.Message.{Message}
use Rattle.fab_base.specs.declared.answers.Item.{Item}
use Rattle.fab_base.proofs.Tests.{and_left}
use Rattle.std.specs.Prelude.{IsTrue}
use Rattle.fab_rules.specs.Diary as diaries
use Rattle.fab_rules.specs.Lists.{In, first_of}
use Rattle.fab_rules.specs.Growth.{after_saying}
use Rattle.fab_rules.specs.Rules.{IsHonest}
use Rattle.fab_rules.specs.Statements.{signer_of, unsigned}
use Rattle.fab_machine.specs.State.{Replica, fresh}
use Rattle.fab_machine.specs.Items.{is_own, with_sig, sent_item, draft_of, statements_by}
use Rattle.fab_machine.specs.Step as machine
use Rattle.fab_machine.specs.Step.{Event, step, makes_entry, emit_step, first}
use Rattle.fab_machine.specs.Diaries as events
use Rattle.fab_machine.specs.Diaries.{MayCome, state_from, diary_sent, diary_after, diary_of}
use Rattle.fab_machine.proofs.Steps.{events_honest}
use Rattle.bft_verify.proofs.Soundness.{shaped_from_sound}
use Rattle.run_words.specs.declared.movers.Mover.{Mover}
use Rattle.run_words.specs.declared.logs.Entry.{Entry}
use Rattle.run_words.specs.Journal.{Maker, event_of, state, waits, diary_by, diary_from, diary, signed_of, is_blocked, moves, item_by, next_item, IsNext, IsMadeFrom, IsMade, AreSound}
use Rattle.run_words.specs.Lawful.{HonestLaw}

-- ---- the state

state_from_more : (m : Maker) (s : Replica) (journal : List Entry) (e : Entry)
    → state_from m.roster m.id s (map event_of (journal ++ e ∷ []))
    ≡ (step m.roster m.id (state_from m.roster m.id s (map event_of journal)) (event_of e)).state
state_from_more m s [] e = refl
state_from_more m s (x ∷ rest) e = state_from_more m (step m.roster m.id s (event_of x)).state rest e

pub state_more : (m : Maker) (journal : List Entry) (e : Entry)
    → state m (journal ++ e ∷ []) ≡ (step m.roster m.id (state m journal) (event_of e)).state
unfolding state
state_more m journal e = state_from_more m (fresh m.roster m.id) journal e

-- ---- a signature changes neither the signer nor the statement

pub said_signed : (sig : List ℕ) (x : Message) → (signer_of (with_sig sig x) ≡ signer_of x) × (unsigned (with_sig sig x) ≡ unsigned x)
said_signed sig (Message.Request x) = (refl, refl)
said_signed sig (Message.PrePrepare x) = (refl, refl)
said_signed sig (Message.Prepare x) = (refl, refl)
said_signed sig (Message.Commit x) = (refl, refl)
said_signed sig (Message.Checkpoint x) = (refl, refl)
said_signed sig (Message.ViewChange x) = (refl, refl)
said_signed sig (Message.NewView x) = (refl, refl)
said_signed sig (Message.Drvc x) = (refl, refl)
said_signed sig (Message.Rvc x) = (refl, refl)
said_signed sig (Message.ReplyNote x) = (refl, refl)
said_signed sig (Message.Share x) = (refl, refl)
said_signed sig (Message.Fetch x) = (refl, refl)

abbrev said_by : ReplicaId → Option Who → Message → List Message
said_by me signer x = cond (is_own me signer) (x ∷ []) []

same_said : (me : ReplicaId) (sig : List ℕ) (x : Message) → statements_by me (with_sig sig x) ≡ statements_by me x
same_said me sig x =
    let s = said_signed sig x in
    ap (λ (w : Option Who). said_by me w (unsigned (with_sig sig x))) s.0 ∙ ap (said_by me (signer_of x)) s.1

sent_says : (me : ReplicaId) (sig : List ℕ) (x : Item) → statements_by me (sent_item me sig x).message ≡ statements_by me x.message
sent_says me sig x = go (is_own me (signer_of x.message))
  where
    go : (b : Bool) → statements_by me (cond b (with_sig sig x.message) x.message) ≡ statements_by me x.message
    go true = same_said me sig x.message
    go false = refl

-- ---- what is sent is the first item that waits

sent_diary : (m : Maker) (k : ℕ) (outbox : List Item) (s : Replica) (past : List diaries.Entry)
    → makes_entry (emit_step m.id s [] outbox).answer ≡ true
    → after_saying past (statements_by m.id (item_by m k (first_of outbox)).message) ≡ diary_sent m.id outbox past
sent_diary m k [] s past h = absurd cc
sent_diary m k (x ∷ rest) s past h = ap (after_saying past) (sent_says m.id (m.signature k (draft_of m.id x)) x)

pub emits : (m : Maker) (journal : List Entry) → moves m journal Mover.Emit ≡ true
    → machine.moves m.roster m.id (state m journal) (Event.Emit []) ≡ true
unfolding moves
emits m journal h = and_left (machine.moves m.roster m.id (state m journal) (Event.Emit [])) (not (is_blocked m journal)) h

same_sent : (m : Maker) (earlier : List Entry) (past : List diaries.Entry) → moves m earlier Mover.Emit ≡ true
    → after_saying past (statements_by m.id (next_item m earlier).message) ≡ diary_sent m.id (state m earlier).outbox past
unfolding next_item
same_sent m earlier past h = sent_diary m (length (signed_of m earlier)) (state m earlier).outbox (state m earlier) past (emits m earlier h)

-- where Emit would make no entry, nothing waits or no leaf is left
none_waits : (me : ReplicaId) (s : Replica) (outbox : List Item) → makes_entry (emit_step me s [] outbox).answer ≡ false → length outbox ≡ 0
none_waits me s [] h = refl
none_waits me s (x ∷ rest) h = absurd cc

either_false : (a b : Bool) → (a && not b) ≡ false → (a ≡ false) ⊎ (b ≡ true)
either_false false b h = inl refl
either_false true true h = inr refl
either_false true false h = absurd cc

pub sent_or_blocked : (m : Maker) (journal : List Entry) → moves m journal Mover.Emit ≡ false
    → (waits m journal ≡ 0) ⊎ (is_blocked m journal ≡ true)
unfolding moves waits
sent_or_blocked m journal h =
    elim (either_false (machine.moves m.roster m.id (state m journal) (Event.Emit [])) (is_blocked m journal) h) [
      | inl e ↦ inl (none_waits m.id (state m journal) (state m journal).outbox e)
      | inr b ↦ inr b
    ]

-- ---- one entry

same_entry : (m : Maker) (earlier : List Entry) (e : Entry) (now : Replica) (past : List diaries.Entry) → IsNext m earlier e
    → diary_by m.id (state m earlier) e now past ≡ diary_after m.id (state m earlier) (event_of e) now past
same_entry m earlier (Entry.Heard origin x) now past h = refl
same_entry m earlier Entry.Proposed now past h = refl
same_entry m earlier Entry.Nudged now past h = refl
same_entry m earlier (Entry.Sent sent) now past h = ap (λ (i : Item). after_saying past (statements_by m.id i.message)) h.1
    ∙ same_sent m earlier past h.0
same_entry m earlier Entry.Executed now past h = refl
same_entry m earlier Entry.Marked now past h = refl
same_entry m earlier Entry.TimedOut now past h = refl

-- ---- the whole

same_from : (m : Maker) (earlier rest : List Entry) (past : List diaries.Entry) → IsMadeFrom m earlier rest
    → diary_from m (state m earlier) past rest ≡ events.diary_from m.roster m.id (state m earlier) past (map event_of rest)
same_from m earlier [] past h = refl
same_from m earlier (e ∷ rest) past h =
    let now = (step m.roster m.id (state m earlier) (event_of e)).state in
    let grown = diary_by m.id (state m earlier) e now past in
    let later : diary_from m now grown rest ≡ events.diary_from m.roster m.id now grown (map event_of rest) =
    subst (λ (s : Replica). diary_from m s grown rest ≡ events.diary_from m.roster m.id s grown (map event_of rest)) (state_more m earlier e)
    (same_from m (earlier ++ e ∷ []) rest grown h.1) in
    later ∙ ap (λ (d : List diaries.Entry). events.diary_from m.roster m.id now d (map event_of rest)) (same_entry m earlier e now past h.0)

pub fresh_is : (m : Maker) → state m [] ≡ fresh m.roster m.id
unfolding state
fresh_is m = refl

-- the diary of a journal that replays is that of its events
pub same_diary : (m : Maker) (journal : List Entry) → IsMade m journal → diary m journal ≡ diary_of m.roster m.id (map event_of journal)
unfolding diary
same_diary m journal h =
    subst (λ (s : Replica). diary_from m s [] journal ≡ events.diary_from m.roster m.id s [] (map event_of journal)) (fresh_is m)
    (same_from m [] journal [] h)

-- ---- it is honest

pub may_come : (m : Maker) (journal : List Entry) → AreSound m journal → (e : Event) → In e (map event_of journal) → MayCome m.roster e
may_come m [] h e i = absurd i
may_come m (Entry.Heard origin x ∷ rest) h e (inl q) = subst (MayCome m.roster) q (shaped_from_sound m.roster m.ring x h.0)
may_come m (Entry.Proposed ∷ rest) h e (inl q) = subst (MayCome m.roster) q tt
may_come m (Entry.Nudged ∷ rest) h e (inl q) = subst (MayCome m.roster) q tt
may_come m (Entry.Sent sent ∷ rest) h e (inl q) = subst (MayCome m.roster) q tt
may_come m (Entry.Executed ∷ rest) h e (inl q) = subst (MayCome m.roster) q tt
may_come m (Entry.Marked ∷ rest) h e (inl q) = subst (MayCome m.roster) q tt
may_come m (Entry.TimedOut ∷ rest) h e (inl q) = subst (MayCome m.roster) q tt
may_come m (x ∷ rest) h e (inr i) = may_come m rest h.1 e i

pub honest_journal : (m : Maker) (journal : List Entry) → IsWithinLimits m.roster → IsTrue (is_replica m.roster m.id) → IsMade m journal
    → AreSound m journal
    → IsHonest m.roster m.id (diary m journal)
honest_journal m journal limits member made sound =
    subst (IsHonest m.roster m.id) (sym (same_diary m journal made))
    (events_honest m.roster m.id (map event_of journal) limits member (may_come m journal sound))

pub honest : HonestLaw
honest m t limits member kept = honest_journal m t.journal limits member kept.replays kept.sound
