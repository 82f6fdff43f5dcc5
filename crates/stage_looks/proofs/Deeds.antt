-- What one act of each kind of worker does.
use Rattle.std.proofs.Common.{◌≡◌, ◌≢◌, ℕ, Bool, true, false, cond, List, [], ◌∷◌, ◌++◌, length, Option, Some, None, true≢false, refl, sym, ap, ◌∙◌, append-nil}
use Rattle.turn_lock.specs.Numbers.{has, least}
use Rattle.turn_lock.specs.Histories.{entries, with_entry, with_mine}
use Rattle.turn_lock.specs.Views.{own, Knows}
use Rattle.turn_lock.specs.declared.known.Known.{Known}
use Rattle.turn_lock.proofs.SeatRows.{has_least}
use Rattle.fab_base.specs.declared.answers.Answer.{Answer}
use Rattle.run_words.specs.Journal.{Maker, walk, added, signed_of, is_blocked, moves, entry_of as entry_by}
use Rattle.run_words.specs.Acts.{would, made_by, act_of, told_of, told_of_emit, told_entry, told_parcels}
use Rattle.run_words.specs.Acts as acts
use Rattle.run_words.specs.declared.logs.Entry.{Entry}
use Rattle.run_words.specs.declared.movers.Mover.{Mover}
use Rattle.run_words.specs.declared.party.Act.{Act}
use Rattle.run_words.specs.declared.party.Told.{Told}
use Rattle.run_words.proofs.Tellings.{tells}
use Rattle.party_turn.specs.Playing.{Plays}
use Rattle.party_turn.specs.Turns.{Acts}
use Rattle.party_turn.proofs.Entering.{does_next, not_same}
use Rattle.party_turn.specs.declared.answered.Answered.{Answered}
use Rattle.turn_laws.specs.Workers.{Kind, kind_of}
use Rattle.turn_laws.specs.Doings.{hearings, heard_by, is_refused, put_of}
use Rattle.turn_laws.proofs.Seats.{kinds, hears, emits, still}
use Rattle.stage_looks.specs.Items.{entry_of}
use Rattle.stage_looks.specs.Acts.{KeepsKind, IsStill, Hears, heard_of, Sends, sent_of, Does, did_of}
use Rattle.stage_looks.specs.declared.doing.Did.{Did}
use Rattle.stage_looks.specs.declared.items.Item.{Item}

-- ---- Emit that puts nothing has nothing to do

abbrev is_out : Told → Bool
is_out (Told.Out parcels) = true
is_out told = false

-- what Emit tells that puts nothing
abbrev silent : Maker → List Entry → Told
silent m journal = cond (is_blocked m journal) (Told.KeySpent (length (signed_of m journal))) (Told.Core Answer.Nothing)

nothing_by : (m : Maker) (journal : List Entry) (answer : Answer) (b : Bool) → moves m journal Mover.Emit ≡ b
    → Told.Core answer ≡ told_of m journal Act.Emit
    → told_entry (Told.Core answer) ≡ false
nothing_by m journal answer false b e = ap told_entry e ∙ tells m journal Act.Emit ∙ b
nothing_by m journal answer true b e =
    let out : false ≡ true = ap is_out e ∙ ap (λ x. is_out (cond x (Told.Out (added m (walk m journal) (entry_by m journal Mover.Emit))) (silent m journal))) b in
    absurd (true≢false (sym out))

nothing_sent : (m : Maker) (journal : List Entry) (answer : Answer) (now : List Entry) → acts.Acted m journal Act.Emit (Told.Core answer) now
    → told_entry (Told.Core answer) ≡ false
nothing_sent m journal answer now h = nothing_by m journal answer (moves m journal Mover.Emit) refl h.tells

-- ---- what an act enters

made_is : (m : Maker) (journal : List Entry) (mover : Mover) → made_by m journal (act_of mover) ≡ entry_by m journal mover
made_is m journal Mover.Batch = refl
made_is m journal Mover.Nudge = refl
made_is m journal Mover.Emit = refl
made_is m journal Mover.Execute = refl
made_is m journal Mover.Checkpoint = refl
made_is m journal Mover.Timeout = refl

abbrev entry_if : Bool → Entry → Option Entry
entry_if b x = cond b (Some x) None

-- an act enters nothing where what is told is of no entry
none_by : (m : Maker) (journal : List Entry) (act : Act) (told : Told) (b : Bool) → would m journal act ≡ b → told_entry told ≡ b
    → journal ≡ cond b (journal ++ made_by m journal act ∷ []) journal → None ≡ entry_if (told_entry told) (made_by m journal act)
none_by m journal act told true w t g = not_same journal (made_by m journal act) (sym g)
none_by m journal act told false w t g = sym (ap (λ b. entry_if b (made_by m journal act)) t)

-- and its entry where it is
some_by : (m : Maker) (journal : List Entry) (act : Act) (told : Told) (x : Entry) (b : Bool) → would m journal act ≡ b → told_entry told ≡ b
    → journal ++ x ∷ [] ≡ cond b (journal ++ made_by m journal act ∷ []) journal → x ≡ made_by m journal act
    → Some x ≡ entry_if (told_entry told) (made_by m journal act)
some_by m journal act told x true w t g e = ap (λ y. Some y) e ∙ sym (ap (λ b. entry_if b (made_by m journal act)) t)
some_by m journal act told x false w t g e = not_same journal x g

done_by : (m : Maker) (journal : List Entry) (act : Act) (told : Told) (e : Option Entry) → acts.Does m journal act told (with_entry journal e)
    → e ≡ entry_if (told_entry told) (made_by m journal act)
done_by m journal act told None d =
    none_by m journal act told (would m journal act) refl (ap told_entry d.tells ∙ tells m journal act) d.grows
done_by m journal act told (Some x) d =
    some_by m journal act told x (would m journal act) refl (ap told_entry d.tells ∙ tells m journal act) d.grows (does_next m journal act told x d).1

acted_by : (m : Maker) (journal : List Entry) (act : Act) (told : Told) (e : Option Entry) → acts.Acted m journal act told (with_entry journal e)
    → e ≡ entry_if (told_entry told) (made_by m journal act)
acted_by m journal act Told.NoMemory None h = refl
acted_by m journal act Told.NoMemory (Some x) h = not_same journal x h
acted_by m journal act (Told.Core answer) e h = done_by m journal act (Told.Core answer) e h
acted_by m journal act (Told.Out parcels) e h = done_by m journal act (Told.Out parcels) e h
acted_by m journal act (Told.KeySpent used) e h = done_by m journal act (Told.KeySpent used) e h

grown : (m : Maker) (journal : List Entry) (mover : Mover) (told : Told) (e : Option Entry) → acts.Acted m journal (act_of mover) told (with_entry journal e)
    → e ≡ entry_if (told_entry told) (entry_by m journal mover)
grown m journal mover told e h =
    acted_by m journal (act_of mover) told e h ∙ ap (λ x. entry_if (told_entry told) x) (made_is m journal mover)

module _ {P : Type 0} (made : P → Maker) (first : P) where
  -- ---- hearing

  heard_told : (told : Told) (item : Item) (v w : Known Entry P) → hearings (own w) ≡ hearings (own v) ++ heard_by told (entry_of item)
      → Hears (heard_of told) item v w
  heard_told Told.NoMemory item v w h = h ∙ append-nil (hearings (own v))
  heard_told (Told.Core answer) item v w h = h
  heard_told (Told.Out parcels) item v w h = h
  heard_told (Told.KeySpent used) item v w h = h

  pub hears_item : (item : Item) (v w : Known Entry P) (answer : Answered) → Acts made first v (Act.Hear item.origin item.heard) answer w
      → Hears (heard_of answer.told) item v w
  hears_item item v w answer h = heard_told answer.told item v w (hears made first v w item.origin item.heard answer h)

  -- ---- sending

  sent_told : (told : Told) (count : ℕ) (v w : Known Entry P)
      → put_of (made first) w.numbers w.seen ≡ put_of (made first) v.numbers v.seen ++ told_parcels told
      → (told_entry told ≡ false → is_refused told ≡ false → IsStill (made first) Mover.Emit count w)
      → ((answer : Answer) → told ≡ Told.Core answer → told_entry told ≡ false)
      → Sends (made first) (sent_of told count) v w
  sent_told (Told.Out parcels) count v w h s n = h
  sent_told Told.NoMemory count v w h s n = h ∙ append-nil (put_of (made first) v.numbers v.seen)
  sent_told (Told.KeySpent used) count v w h s n = (h ∙ append-nil (put_of (made first) v.numbers v.seen), s refl refl)
  sent_told (Told.Core answer) count v w h s n = (h ∙ append-nil (put_of (made first) v.numbers v.seen), s (n answer refl) refl)

  core_by : (m : Maker) (journal : List Entry) (told : Told) (now : List Entry) → acts.Acted m journal Act.Emit told now
      → (answer : Answer) → told ≡ Told.Core answer → told_entry told ≡ false
  core_by m journal (Told.Core a) now h answer e = nothing_sent m journal a now h
  core_by m journal (Told.Out parcels) now h answer e = absurd cc
  core_by m journal (Told.KeySpent used) now h answer e = refl
  core_by m journal Told.NoMemory now h answer e = refl

  pub sends_first : (seats : ℕ) (ns ms : List Bool) (v w : Known Entry P) (answer : Answered)
      → Knows (λ p. Plays (made p)) first seats ns v → w.numbers ≡ ms → ms ≡ ns
      → Acts made first v Act.Emit answer w
      → Sends (made first) (sent_of answer.told answer.entries) v w
  sends_first seats ns ms v w answer k e f h =
      let mine : has v.numbers (least v.numbers) ≡ true =
      has_least v.numbers k.some_number.0 (ap (λ l. has l k.some_number.0) k.numbers_are ∙ k.some_number.1) in
      sent_told answer.told answer.entries v w (emits made first v w answer h (e ∙ f ∙ sym k.numbers_are) mine)
      (λ none whole log s c. still made first v w Mover.Emit answer log h none whole s c)
      (core_by (made first) (entries h.0) answer.told _ h.3.acted)

  -- ---- what is done of its own accord

  own_grown : (mover : Mover) (answer : Answered) (v w : Known Entry P) (moved : Bool) → told_entry answer.told ≡ moved → (h : Acts made first v (act_of mover) answer w)
      → own w ≡ with_mine (own v) (least v.numbers) (cond moved (Some (entry_by (made first) (entries h.0) mover)) None)
  own_grown mover answer v w moved m h =
      let e = grown (made first) (entries h.0) mover answer.told h.1 h.3.acted in
      h.5 ∙ ap (with_mine (own v) (least v.numbers)) (e ∙ ap (λ b. cond b (Some (entry_by (made first) (entries h.0) mover)) None) m)

  did_told : (mover : Mover) (answer : Answered) (v w : Known Entry P) → Acts made first v (act_of mover) answer w
      → (moved refused : Bool) → told_entry answer.told ≡ moved → is_refused answer.told ≡ refused
      → Does (made first) mover (cond moved Did.Moved (cond refused Did.Lost (Did.Nothing answer.entries))) v w
  did_told mover answer v w h true refused m r = (entries h.0, own_grown mover answer v w true m h)
  did_told mover answer v w h false true m r = own_grown mover answer v w false m h
  did_told mover answer v w h false false m r = (own_grown mover answer v w false m h, λ log s c. still made first v w mover answer log h m r s c)

  pub does_own : (mover : Mover) (answer : Answered) (v w : Known Entry P) → Acts made first v (act_of mover) answer w
      → Does (made first) mover (did_of answer.told answer.entries) v w
  does_own mover answer v w h = did_told mover answer v w h (told_entry answer.told) (is_refused answer.told) refl refl

  -- ---- kinds

  pub keeps_kind : (act : Act) (answer : Answered) (v w : Known Entry P) → Acts made first v act answer w → KeepsKind (kind_of act) v w
  keeps_kind act answer v w h a = kinds made first v w act answer h a

  pub keeps_doing : (mover : Mover) (answer : Answered) (v w : Known Entry P) → mover ≢ Mover.Emit → Acts made first v (act_of mover) answer w
      → KeepsKind Kind.Doing v w
  keeps_doing Mover.Batch answer v w n h a = kinds made first v w Act.Batch answer h a
  keeps_doing Mover.Nudge answer v w n h a = kinds made first v w Act.Nudge answer h a
  keeps_doing Mover.Emit answer v w n h a = absurd (n refl)
  keeps_doing Mover.Execute answer v w n h a = kinds made first v w Act.Execute answer h a
  keeps_doing Mover.Checkpoint answer v w n h a = kinds made first v w Act.Checkpoint answer h a
  keeps_doing Mover.Timeout answer v w n h a = kinds made first v w Act.Timeout answer h a
