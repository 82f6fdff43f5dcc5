-- In a run of one cluster in which nobody timed out nobody hears of views, of pleas, or of another cluster. By time: what a replica put before
-- it heard of such things is of the kinds that a cluster needs in view 0.
use Rattle.std.proofs.Common.{◌≡◌, ℕ, zero, suc, ◌<◌, ◌≤◌, Bool, true, false, cond, List, [], ◌∷◌, ◌++◌, length, inl, inr, refl, sym, ap, subst, ◌∙◌, append_assoc, append-nil, arith}
use Rattle.std.specs.Prelude.{IsTrue}
use Rattle.fab_base.specs.Limits.{IsWithinLimits}
use Rattle.fab_base.specs.Roster.{is_replica}
use Rattle.fab_base.specs.declared.messages.Message.{Message}
use Rattle.fab_base.specs.declared.answers.Item.{Item}
use Rattle.fab_rules.specs.Lists.{In, first_of}
use Rattle.fab_rules.specs.Spelling.{spelling_of}
use Rattle.fab_rules.specs.Statements.{signer_of}
use Rattle.fab_rules.proofs.Lengths.{request_is_spelled}
use Rattle.fab_rules.proofs.Lists.{in_append_cases, in_append_left}
use Rattle.fab_machine.specs.State.{Replica}
use Rattle.fab_machine.specs.Items.{is_own, with_sig, draft_of}
use Rattle.fab_machine.specs.Step.{makes_entry, emit_step}
use Rattle.fab_machine.proofs.Members.{is_member}
use Rattle.bft_verify.specs.Sound.{IsSound}
use Rattle.heed_laws.specs.Heeding.{IsPlainMessage, IsPlain}
use Rattle.run_words.specs.declared.movers.Mover.{Mover}
use Rattle.run_words.specs.declared.logs.Entry.{Entry}
use Rattle.run_words.specs.declared.logs.Origin.{Origin}
use Rattle.run_words.specs.declared.logs.Parcel.{Parcel}
use Rattle.run_words.specs.declared.logs.Trace.{Trace}
use Rattle.run_words.specs.declared.logs.Transcript.{Transcript}
use Rattle.run_words.specs.Journal.{Maker, event_of, state, diary, walk, clock, added, parcels_of, signed_of, moves, item_by, next_item, IsNext, IsMadeFrom, IsMade, AreSound}
use Rattle.run_words.specs.Lawful.{AreEach, Kept, IsDelivered}
use Rattle.run_words.proofs.Clocks.{above}
use Rattle.run_words.proofs.Walks.{parcels_more}
use Rattle.run_words.proofs.Replays.{emits}
use Rattle.run_words.proofs.Sending as sending
use Rattle.run_words.proofs.Sending.{next_sound}
use Rattle.run_words.proofs.Twisting.{added_bytes, copies_are_sent, put_is}
use Rattle.script_keys.specs.Requests.{request_of}
use Rattle.script_keys.proofs.Sounds.{keyed}
use Rattle.script_keys.proofs.Wishes.{asked_in, request_has_fields}
use Rattle.run_worlds.specs.Scripts.{roster_of, maker_of, makers_of, script_rules}
use Rattle.run_worlds.specs.Endings.{IsOfLogs, IsRunOf}
use Rattle.run_worlds.proofs.RunLogs.{logs_of}
use Rattle.run_worlds.proofs.ScriptLimits.{within_limits}
use Rattle.run_worlds.proofs.Untroubled.{none_faulty}
use Rattle.audit_laws.proofs.Members.{takes_part}
use Rattle.audit_laws.proofs.Sanity.{is_of_script}
use Rattle.audit_laws.proofs.Journals.{was_heard}
use Rattle.audit_laws.proofs.Premises.{sound_entry}
use Rattle.audit_laws.proofs.Traces.{trace_is}
use Rattle.run_laws.proofs.Quotes.{IsBefore, before_still}
use Rattle.run_laws.proofs.Copies.{from_client, from_replica, posted_is, same_message}
use Rattle.run_laws.proofs.Unforged.{each_at}
use Rattle.script_keys.specs.Keys.{replicas_of}
use Rattle.plain_laws.specs.Plain.{HasTimedOut}
use Rattle.plain_laws.proofs.Members.{journal_related, journal_heedful}

-- ---- the front of a journal

made_front : (m : Maker) (earlier front back : List Entry) → IsMadeFrom m earlier (front ++ back) → IsMadeFrom m earlier front
made_front m earlier [] back h = tt
made_front m earlier (e ∷ front) back h = (h.0, made_front m (earlier ++ e ∷ []) front back h.1)

sound_front : (m : Maker) (front back : List Entry) → AreSound m (front ++ back) → AreSound m front
sound_front m [] back h = tt
sound_front m (e ∷ front) back h = (h.0, sound_front m front back h.1)

-- what was heard is of a time below the clock
record IsSplit (e : Entry) (l : List Entry) : Type 0 where
  front : List Entry
  back : List Entry
  same : front ++ e ∷ back ≡ l

split_at : (e : Entry) (l : List Entry) → In e l → IsSplit e l
split_at e [] h = absurd h
split_at e (x ∷ l) (inl q) = record { front = []; back = l; same = ap (λ y. y ∷ l) (sym q) }
split_at e (x ∷ l) (inr h) =
    let s = split_at e l h in
    record { front = x ∷ s.front; back = s.back; same = ap (λ t. x ∷ t) s.same }

heard_below : (m : Maker) (journal : List Entry) (origin : Origin) (x : Message) → In (Entry.Heard origin x) journal → IsBefore origin (clock m journal)
heard_below m journal (Origin.Client k) x h = tt
heard_below m journal (Origin.Replica from sent) x h =
    let s = split_at (Entry.Heard (Origin.Replica from sent) x) journal h in
    subst (λ (j : List Entry). sent < clock m j) s.same (above m s.front s.back from sent x)

-- ---- a parcel is of an item that was sent after a front of the journal

record IsOfItem (m : Maker) (journal : List Entry) (q : Parcel) : Type 0 where
  earlier : List Entry
  back : List Entry
  item : Item
  same : earlier ++ Entry.Sent item ∷ back ≡ journal
  next : IsNext m earlier (Entry.Sent item)
  inside : In q (added m (walk m earlier) (Entry.Sent item))

of_item_from : (m : Maker) (whole earlier rest : List Entry) → earlier ++ rest ≡ whole → IsMadeFrom m earlier rest
    → ((q : Parcel) → In q (parcels_of m earlier) → IsOfItem m whole q) → (q : Parcel) → In q (parcels_of m (earlier ++ rest)) → IsOfItem m whole q
of_item_from m whole earlier [] e made old q i = old q (subst (λ (j : List Entry). In q (parcels_of m j)) (append-nil earlier) i)
of_item_from m whole earlier (x ∷ rest) e made old q i =
    of_item_from m whole (earlier ++ x ∷ []) rest (append_assoc earlier (x ∷ []) rest ∙ e) made.1
    (λ p j. (elim (in_append_cases p (parcels_of m earlier) (added m (walk m earlier) x) (subst (In p) (parcels_more m earlier x) j)) [
      | inl k ↦ old p k
      | inr k ↦ new p k
    ]))
    q (subst (λ (j : List Entry). In q (parcels_of m j)) (sym (append_assoc earlier (x ∷ []) rest)) i)
  where
    new : (p : Parcel) → In p (added m (walk m earlier) x) → IsOfItem m whole p
    new p k =
        let of = added_bytes m (walk m earlier) x p k in
        let sent = copies_are_sent m (walk m earlier) x of.copy of.is_in in
        record {
          earlier = earlier;
          back = rest;
          item = sent.0;
          same = ap (λ (y : Entry). earlier ++ y ∷ rest) (sym sent.1) ∙ e;
          next = subst (IsNext m earlier) sent.1 made.0;
          inside = subst (λ (y : Entry). In p (added m (walk m earlier) y)) sent.1 k;
        }

none_put : (m : Maker) (whole : List Entry) (q : Parcel) → In q (parcels_of m []) → IsOfItem m whole q
unfolding walk
none_put m whole q i = absurd i

of_item : (m : Maker) (journal : List Entry) → IsMade m journal → (q : Parcel) → In q (parcels_of m journal) → IsOfItem m journal q
of_item m journal made q i = of_item_from m journal [] journal refl made (none_put m journal) q i

-- ---- what it carries is plain, where all before it was

plain_signed : (sig : List ℕ) (x : Message) → IsPlainMessage x → IsPlainMessage (with_sig sig x)
plain_signed sig (Message.Request x) h = tt
plain_signed sig (Message.PrePrepare x) h = tt
plain_signed sig (Message.Prepare x) h = tt
plain_signed sig (Message.Commit x) h = tt
plain_signed sig (Message.Checkpoint x) h = tt
plain_signed sig (Message.ReplyNote x) h = tt
plain_signed sig (Message.ViewChange x) h = h
plain_signed sig (Message.NewView x) h = h
plain_signed sig (Message.Drvc x) h = h
plain_signed sig (Message.Rvc x) h = h
plain_signed sig (Message.Share x) h = h
plain_signed sig (Message.Fetch x) h = h

plain_item : (m : Maker) (s : Replica) (k : ℕ) (o : List Item) → ((i : Item) → In i o → IsPlainMessage i.message) → makes_entry (emit_step m.id s [] o).answer ≡ true
    → IsPlainMessage (item_by m k (first_of o)).message
plain_item m s k [] each h = absurd cc
plain_item m s k (x ∷ rest) each h = go (is_own m.id (signer_of x.message))
  where
    go : (b : Bool) → IsPlainMessage (cond b (with_sig (m.signature k (draft_of m.id x)) x.message) x.message)
    go true = plain_signed (m.signature k (draft_of m.id x)) x.message (each x (inl refl))
    go false = each x (inl refl)

abbrev pub ArePlainEntries : List Entry → Type 0
ArePlainEntries journal = (e : Entry) → In e journal → IsPlain (event_of e)

next_plain : (m : Maker) (earlier : List Entry) → IsWithinLimits m.roster → length m.roster.sizes ≡ 1 → IsTrue (is_replica m.roster m.id)
    → IsMade m earlier → AreSound m earlier → ArePlainEntries earlier → moves m earlier Mover.Emit ≡ true → IsPlainMessage (next_item m earlier).message
unfolding next_item
next_plain m earlier limits one known made sound plain h =
    let heeds = journal_heedful m earlier limits one known made sound plain in
    plain_item m (state m earlier) (length (signed_of m earlier)) (state m earlier).outbox (λ i k. (heeds.are.outgoing i k).plain) (emits m earlier h)

-- ---- a run

module _ (t : Transcript) (run : IsOfLogs t) (delivered : AreEach (IsDelivered (script_rules t.script) t.traces) (makers_of t.script) t.traces)
    (untimed : HasTimedOut t → ⊥) (one : length t.script.sizes ≡ 1) where
  abbrev maker : Trace → Maker
  maker trace = maker_of t.script trace.id

  delivered_at : (trace : Trace) → In trace t.traces → IsDelivered (script_rules t.script) t.traces (maker trace) trace
  delivered_at trace i = each_at (IsDelivered (script_rules t.script) t.traces) t.script (replicas_of t.script) t.traces run.kept delivered trace i

  untimed_at : (trace : Trace) → In trace t.traces → In Entry.TimedOut trace.journal → ⊥
  untimed_at trace i h = untimed (record { trace = trace; inside = i; timed = h })

  kept_at : (trace : Trace) → In trace t.traces → Kept (maker trace) trace
  kept_at trace i = (trace_is t run trace i).kept

  known_at : (trace : Trace) → In trace t.traces → IsTrue (is_replica (roster_of t.script) trace.id)
  known_at trace i = takes_part t.script trace.id (trace_is t run trace i).listed

  sound_at : (trace : Trace) → In trace t.traces → (origin : Origin) (x : Message) → In (Entry.Heard origin x) trace.journal
      → IsSound (maker trace).roster (maker trace).ring x
  sound_at trace i origin x h = sound_entry (maker trace) trace.journal (Entry.Heard origin x) (kept_at trace i).sound h

  abbrev ArePlainBefore : ℕ → Type 0
  ArePlainBefore n = (trace : Trace) → In trace t.traces → (origin : Origin) (x : Message) → In (Entry.Heard origin x) trace.journal → IsBefore origin n
      → IsPlainMessage x

  -- the entries of a front, whose clock is no more
  front_plain : (n : ℕ) → ArePlainBefore n → (trace : Trace) → In trace t.traces → (earlier back : List Entry) → earlier ++ back ≡ trace.journal
      → clock (maker trace) earlier ≤ n → ArePlainEntries earlier
  front_plain n before trace i earlier back same less e h = go e h
    where
      there : (y : Entry) → In y earlier → In y trace.journal
      there y k = subst (In y) same (in_append_left y earlier back k)

      go : (y : Entry) → In y earlier → IsPlain (event_of y)
      go (Entry.Heard origin x) k =
          before trace i origin x (there (Entry.Heard origin x) k)
          (before_still origin (clock (maker trace) earlier) n less (heard_below (maker trace) earlier origin x k))
      go Entry.Proposed k = tt
      go Entry.Nudged k = tt
      go (Entry.Sent item) k = tt
      go Entry.Executed k = tt
      go Entry.Marked k = tt
      go Entry.TimedOut k = untimed_at trace i (there Entry.TimedOut k)

  -- what a parcel of a time spells
  parcel_plain : (n : ℕ) → ArePlainBefore n → (trace : Trace) → In trace t.traces → (q : Parcel) → In q trace.parcels → q.time ≤ n → (x : Message)
      → IsSound (maker trace).roster (maker trace).ring x → q.bytes ≡ spelling_of x → IsPlainMessage x
  parcel_plain n before trace i q inside time x sound spelled =
      let m = maker trace in
      let kept = kept_at trace i in
      let known = known_at trace i in
      let limits = within_limits t.script run.limits in
      let of = of_item m trace.journal kept.replays q (subst (In q) kept.parcels inside) in
      let back = Entry.Sent of.item ∷ of.back in
      let made = made_front m [] of.earlier back (subst (IsMade m) (sym of.same) kept.replays) in
      let heard = sound_front m of.earlier back (subst (AreSound m) (sym of.same) kept.sound) in
      let put = put_is m (walk m of.earlier) of.item q (none_faulty t.script trace.id) of.inside in
      let plain = front_plain n before trace i of.earlier back of.same (omega (arith, put.0, time)) in
      let stays : sending.Stays m (state m of.earlier) (diary m of.earlier) = record {
        member = is_member m.roster m.id limits known;
        related = journal_related m of.earlier limits known made heard;
        heard = λ y h. (let by = was_heard m of.earlier y h in sound_entry m of.earlier (Entry.Heard by.origin y) heard by.is_in);
      } in
      let keys = keyed t.script m (is_of_script t.script trace.id (trace_is t run trace i).listed) in
      let fine = next_sound m of.earlier (diary m of.earlier) keys stays of.next.0 in
      let is_plain = next_plain m of.earlier limits one known made heard plain of.next.0 in
      let same_item : spelling_of (next_item m of.earlier).message ≡ spelling_of x =
      ap (λ (y : Item). spelling_of y.message) (sym of.next.1) ∙ (sym put.1 ∙ spelled) in
      subst IsPlainMessage (same_message (next_item m of.earlier).message x fine.spelled sound.spelled same_item) is_plain

  plain_before : (n : ℕ) → ArePlainBefore n
  plain_before n trace i (Origin.Client k) x h before =
      let from = from_client t.script (script_rules t.script) t.traces (maker trace) trace k x refl (delivered_at trace i) h in
      let r = request_of t.script from.0 in
      subst IsPlainMessage
      (same_message (Message.Request r) x (request_is_spelled r (request_has_fields t.script from.0 (asked_in t.script from.0 run.limits from.1)))
      (sound_at trace i (Origin.Client k) x h).spelled from.2) tt
  plain_before zero trace i (Origin.Replica from sent) x h before = absurd (omega (arith, before))
  plain_before (suc n) trace i (Origin.Replica from sent) x h before =
      let post = from_replica t.script (script_rules t.script) t.traces (maker trace) trace from sent x refl (delivered_at trace i) h in
      let is = posted_is sent (spelling_of x) t.traces post in
      parcel_plain n (plain_before n) post.trace post.is_in post.parcel post.posted (omega (arith, is.0, before)) x
      (sound_at trace i (Origin.Replica from sent) x h) is.1

  -- all that any replica of the run does is plain
  pub all_plain : (trace : Trace) → In trace t.traces → ArePlainEntries trace.journal
  all_plain trace i =
      front_plain (clock (maker trace) trace.journal) (plain_before (clock (maker trace) trace.journal)) trace i trace.journal [] (append-nil trace.journal) (omega arith)

-- ---- a lawful run of a script

pub run_plain : (t : Transcript) → IsRunOf t.script t → (HasTimedOut t → ⊥) → length t.script.sizes ≡ 1 → (trace : Trace) → In trace t.traces
    → ArePlainEntries trace.journal
run_plain t run untimed one trace i = all_plain t (logs_of t run) run.lawful.delivered untimed one trace i
