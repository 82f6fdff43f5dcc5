-- What a parcel of a correct replica carries: a message in which each statement is the sender's own, or stands in a message that the sender
-- heard at an earlier time.
use Rattle.std.proofs.Common.{◌≡◌, ℕ, ◌<◌, ◌≤◌, Bool, true, false, cond, ◌&&◌, ◌⊎◌, List, [], ◌∷◌, ◌++◌, drop, length, None, inl, inr, refl, sym, ap, subst, ◌∙◌, append_assoc, append-nil, arith}
use Rattle.std.specs.Prelude.{IsTrue}
use Rattle.std.specs.Option.{is_some}
use Rattle.fab_base.specs.Limits.{IsWithinLimits}
use Rattle.fab_base.specs.Roster.{is_replica}
use Rattle.fab_base.specs.declared.answers.Item.{Item}
use Rattle.fab_base.specs.declared.messages.Message.{Message}
use Rattle.fab_rules.specs.Diary as diaries
use Rattle.fab_rules.specs.Diary.{Heard, Said, StatementHeard}
use Rattle.fab_base.specs.Fields.{op_fits}
use Rattle.fab_rules.specs.Format.{is_u8, is_u32, is_u64, id_fits, digest_fits, signature_fits, batch_fits, proof_fits, certificates_fit, view_changes_fit, lines_fit, fields_fit, fits}
use Rattle.fab_rules.specs.Lists.{In, first_of}
use Rattle.fab_rules.specs.Spelling.{spelling_of, content_of}
use Rattle.fab_rules.specs.Statements.{signer_of, unsigned, parts_of, statements_of}
use Rattle.fab_rules.proofs.Lists.{in_append_left, in_append_right, in_append_cases, of_filter}
use Rattle.fab_rules.proofs.Saying.{same_heard, heard_before}
use Rattle.fab_machine.specs.State.{Replica}
use Rattle.fab_machine.specs.Items.{is_own, with_sig, sent_item, draft_of, statements_in}
use Rattle.fab_machine.specs.Step.{step, makes_entry, emit_step}
use Rattle.fab_machine.specs.Diaries.{diary_after}
use Rattle.fab_machine.specs.Relation.{full_of, AreFactsOf}
use Rattle.fab_machine.proofs.Blocks.{heard_before_blocks}
use Rattle.fab_machine.proofs.Members.{is_member}
use Rattle.fab_machine.proofs.Steps.{starts_related}
use Rattle.bft_verify.specs.Sound.{IsSound}
use Rattle.run_words.specs.declared.movers.Mover.{Mover}
use Rattle.run_words.specs.declared.logs.Entry.{Entry}
use Rattle.run_words.specs.declared.logs.Origin.{Origin}
use Rattle.run_words.specs.declared.logs.Parcel.{Parcel}
use Rattle.run_words.specs.declared.logs.Trace.{Trace}
use Rattle.run_words.specs.Journal.{Maker, Walk, event_of, state, walk, stated_by, signed_beside, clock, added, parcels_of, signed_by, signed_of, moves, item_by, next_item, IsNext, IsMadeFrom, IsHeardSound, AreSound}
use Rattle.run_words.specs.Lawful.{IsKeyed, Kept}
use Rattle.run_words.proofs.Clocks.{rises, above}
use Rattle.run_words.proofs.Walks.{walk_more, parcels_more}
use Rattle.run_words.proofs.Replays.{state_more, said_signed, fresh_is, emits}
use Rattle.run_words.proofs.Sending as sending
use Rattle.run_words.proofs.Sending.{waiting_said, sent_heard, signed_statements, next_sound}
use Rattle.run_words.proofs.Twisting.{added_bytes, copies_are_sent, put_is}

-- ---- what is claimed

-- a client's copy has no time
abbrev pub IsBefore : Origin → ℕ → Type 0
IsBefore (Origin.Client k) time = Unit {0}
IsBefore (Origin.Replica from sent) time = sent < time

-- the journal heard it, from a client or as a parcel of an earlier time
pub record IsEarlier (journal : List Entry) (time : ℕ) (x : Message) : Type 0 where
  pub origin : Origin
  pub is_in : In (Entry.Heard origin x) journal
  pub early : IsBefore origin time

-- the part stands in such a message
pub record IsQuoted (journal : List Entry) (time : ℕ) (part : Message) : Type 0 where
  pub message : Message
  pub heard : IsEarlier journal time message
  pub inside : In part (parts_of message)

-- it is signed by the replica itself and was so along the journal, or it is quoted
abbrev pub IsOwnOrQuoted : Maker → List Entry → ℕ → Message → Type 0
IsOwnOrQuoted m journal time part =
    ((is_own m.id (signer_of part) ≡ true) × In (content_of part) (signed_of m journal)) ⊎ IsQuoted journal time part

-- what the bytes of a parcel spell
pub record IsCarried (m : Maker) (journal : List Entry) (q : Parcel) : Type 0 where
  pub message : Message
  pub has_spelling : fits message ≡ true
  pub spelled : q.bytes ≡ spelling_of message
  pub each : (part : Message) → In part (statements_of message) → IsOwnOrQuoted m journal q.time part

-- ---- a signed statement has a spelling as the unsigned one does

keep : (a x y : Bool) → (x ≡ true → y ≡ true) → (a && x) ≡ true → (a && y) ≡ true
keep true x y f h = f h
keep false x y f h = absurd cc

pub signed_fits : (sig : List ℕ) (m : Message) → signature_fits sig ≡ true → fields_fit (unsigned m) ≡ true → fields_fit (with_sig sig m) ≡ true
signed_fits sig (Message.Request x) f h = keep (is_u8 x.client.number) _ _ (keep (is_u32 x.stamp) _ _ (keep (op_fits x.op) _ _ (λ z. f))) h
signed_fits sig (Message.PrePrepare x) f h = keep (id_fits x.signer) _ _ (keep (is_u64 x.view) _ _ (keep (is_u64 x.slot) _ _ (keep (batch_fits x.batch) _ _ (λ z. f)))) h
signed_fits sig (Message.Prepare x) f h = keep (id_fits x.signer) _ _ (keep (is_u64 x.view) _ _ (keep (is_u64 x.slot) _ _ (keep (digest_fits x.digest) _ _ (λ z. f)))) h
signed_fits sig (Message.Commit x) f h = keep (id_fits x.signer) _ _ (keep (is_u64 x.view) _ _ (keep (is_u64 x.slot) _ _ (keep (digest_fits x.digest) _ _ (λ z. f)))) h
signed_fits sig (Message.Checkpoint x) f h = keep (id_fits x.signer) _ _ (keep (is_u64 x.round) _ _ (keep (digest_fits x.digest) _ _ (λ z. f))) h
signed_fits sig (Message.ViewChange x) f h =
    keep (id_fits x.signer) _ _ (keep (is_u64 x.view) _ _ (keep (is_u64 x.low) _ _ (keep (proof_fits x.proof) _ _ (keep (certificates_fit x.prepared) _ _ (λ z. f))))) h
signed_fits sig (Message.NewView x) f h = keep (id_fits x.signer) _ _ (keep (is_u64 x.view) _ _ (keep (view_changes_fit x.changes) _ _ (λ z. f))) h
signed_fits sig (Message.Drvc x) f h = keep (id_fits x.signer) _ _ (keep (is_u8 x.target) _ _ (keep (is_u64 x.round) _ _ (keep (is_u32 x.count) _ _ (λ z. f)))) h
signed_fits sig (Message.Rvc x) f h = keep (id_fits x.signer) _ _ (keep (is_u8 x.target) _ _ (keep (is_u64 x.round) _ _ (keep (is_u32 x.count) _ _ (λ z. f)))) h
signed_fits sig (Message.ReplyNote x) f h = keep (id_fits x.signer) _ _ (keep (is_u64 x.round) _ _ (keep (digest_fits x.digest) _ _ (keep (lines_fit x.lines) _ _ (λ z. f)))) h
signed_fits sig (Message.Share x) f h = h
signed_fits sig (Message.Fetch x) f h = h

-- ---- what was heard before stays so

pub before_still : (origin : Origin) (a b : ℕ) → a ≤ b → IsBefore origin a → IsBefore origin b
before_still (Origin.Client k) a b le h = tt
before_still (Origin.Replica from sent) a b le h = omega (arith, le, h)

earlier_still : (journal more : List Entry) (a b : ℕ) (x : Message) → a ≤ b → IsEarlier journal a x → IsEarlier (journal ++ more) b x
earlier_still journal more a b x le h = record {
  origin = h.origin;
  is_in = in_append_left (Entry.Heard h.origin x) journal more h.is_in;
  early = before_still h.origin a b le h.early;
}

-- ---- what stays along a journal

record Stays (m : Maker) (earlier : List Entry) (s : Replica) (past : List diaries.Entry) : Type 0 where
  sound : sending.Stays m s past
  heard : (x : Message) → In (Heard x) past → IsEarlier earlier (clock m earlier) x

-- a message as it is sent: each statement in it is this one, which the replica signs, or was heard before
abbrev IsReady : Maker → List Entry → Message → Type 0
IsReady m earlier x =
    (part : Message) → In part (statements_of x) → ((x ≡ part) × (is_own m.id (signer_of x) ≡ true)) ⊎ IsQuoted earlier (clock m earlier) part

item_ready : (m : Maker) (earlier : List Entry) (s : Replica) (past : List diaries.Entry) (k : ℕ) (o : List Item)
    → Stays m earlier s past → s.outbox ≡ o → makes_entry (emit_step m.id s [] o).answer ≡ true → IsReady m earlier (item_by m k (first_of o)).message
item_ready m earlier s past k [] st e h = absurd cc
item_ready m earlier s past k (x ∷ rest) st e h =
    elim (facts.waits x here).from as (λ _. IsReady m earlier (sent_item m.id sig x).message) [
      | inl own ↦ subst (IsReady m earlier) (sym (sent_as true own)) (λ part i.
          (elim (signed_statements sig x.message full
          (facts.local.quoted (unsigned x.message) (waiting_said m.id past s.outbox x here own)) part i) [
            | inl same ↦ inl (same, ap (is_own m.id) (said_signed sig x.message).0 ∙ own)
            | inr heard ↦ inr (quoted part heard)
          ]))
      | inr passed ↦ subst (IsReady m earlier) (sym (sent_as false passed.0)) (λ part i. inr (quoted part (passed.1.heard part i)))
    ]
  where
    here : In x s.outbox
    here = subst (In x) (sym e) (inl refl)

    sig : List ℕ
    sig = m.signature k (draft_of m.id x)

    full : List diaries.Entry
    full = full_of m.id s past

    facts : AreFactsOf m.roster m.id s past
    facts = st.sound.related.facts

    quoted : (part : Message) → StatementHeard full part → IsQuoted earlier (clock m earlier) part
    quoted part heard = record {
      message = heard.message;
      heard = st.heard heard.message (heard_before past (statements_in m.id s.outbox) heard.message heard.heard);
      inside = (of_filter (λ y. is_some (signer_of y)) part (parts_of heard.message) heard.inside).0;
    }

    sent_as : (b : Bool) → is_own m.id (signer_of x.message) ≡ b → (sent_item m.id sig x).message ≡ cond b (with_sig sig x.message) x.message
    sent_as b q = ap (λ (b : Bool). cond b (with_sig sig x.message) x.message) q

next_ready : (m : Maker) (earlier : List Entry) (past : List diaries.Entry) → Stays m earlier (state m earlier) past
    → moves m earlier Mover.Emit ≡ true → IsReady m earlier (next_item m earlier).message
unfolding next_item
next_ready m earlier past st h =
    item_ready m earlier (state m earlier) past (length (signed_of m earlier)) (state m earlier).outbox st refl (emits m earlier h)

-- ---- an entry more

now_before : (m : Maker) (earlier : List Entry) (origin : Origin) (x : Message)
    → IsBefore origin (clock m (earlier ++ Entry.Heard origin x ∷ []))
now_before m earlier (Origin.Client k) x = tt
now_before m earlier (Origin.Replica from sent) x = above m earlier [] from sent x

heard_more : (m : Maker) (earlier : List Entry) (s : Replica) (e : Entry) (now : Replica) (past : List diaries.Entry)
    → ((x : Message) → In (Heard x) past → IsEarlier earlier (clock m earlier) x) → (x : Message)
    → In (Heard x) (diary_after m.id s (event_of e) now past) → IsEarlier (earlier ++ e ∷ []) (clock m (earlier ++ e ∷ [])) x
heard_more m earlier s e now past old x h = go e h
  where
    still : (y : Entry) → In (Heard x) past → IsEarlier (earlier ++ y ∷ []) (clock m (earlier ++ y ∷ [])) x
    still y i = earlier_still earlier (y ∷ []) (clock m earlier) (clock m (earlier ++ y ∷ [])) x (rises m earlier (y ∷ [])) (old x i)

    go : (y : Entry) → In (Heard x) (diary_after m.id s (event_of y) now past)
        → IsEarlier (earlier ++ y ∷ []) (clock m (earlier ++ y ∷ [])) x
    go (Entry.Heard origin z) (inl q) = record {
      origin = origin;
      is_in = in_append_right (Entry.Heard origin x) earlier (Entry.Heard origin z ∷ []) (inl (ap (Entry.Heard origin) (same_heard z x q)));
      early = now_before m earlier origin z;
    }
    go (Entry.Heard origin z) (inr i) = still (Entry.Heard origin z) i
    go Entry.Proposed i = still Entry.Proposed i
    go Entry.Nudged i = still Entry.Nudged i
    go (Entry.Sent item) i = still (Entry.Sent item) (sent_heard m.id s.outbox past x i)
    go Entry.Marked i = still Entry.Marked i
    go Entry.TimedOut i = still Entry.TimedOut i
    go Entry.Executed i = still Entry.Executed (heard_before_blocks past (drop (length s.rounds.blocks) now.rounds.blocks) x i)

stays_more : (m : Maker) (earlier : List Entry) (s : Replica) (past : List diaries.Entry) (e : Entry) → IsWithinLimits m.roster
    → IsTrue (is_replica m.roster m.id) → IsHeardSound m e → Stays m earlier s past
    → Stays m (earlier ++ e ∷ []) (step m.roster m.id s (event_of e)).state
    (diary_after m.id s (event_of e) (step m.roster m.id s (event_of e)).state past)
stays_more m earlier s past e limits member h st = record {
  sound = sending.stays_more m s past e limits member h st.sound;
  heard = heard_more m earlier s e (step m.roster m.id s (event_of e)).state past st.heard;
}

-- ---- a parcel more

-- the content of a sent item that the replica signs is among those that it signed
signed_still : (m : Maker) (journal more : List Entry) (content : List ℕ) → In content (signed_of m journal)
    → In content (signed_of m (journal ++ more))
signed_still m journal [] content h = subst (λ (l : List Entry). In content (signed_of m l)) (sym (append-nil journal)) h
signed_still m journal (e ∷ more) content h =
    let one : In content (signed_of m (journal ++ e ∷ [])) =
    subst (In content) (sym (ap (λ (w : Walk). w.signed) (walk_more m journal e))) (in_append_left content (signed_of m journal) (signed_by m (walk m journal) e) h) in
    subst (λ (l : List Entry). In content (signed_of m l)) (append_assoc journal (e ∷ []) more) (signed_still m (journal ++ e ∷ []) more content one)

signed_here : (m : Maker) (w : Walk) (item : Item) → is_own m.id (signer_of item.message) ≡ true
    → In (content_of item.message) (signed_by m w (Entry.Sent item))
unfolding signed_by stated_by
signed_here m w item h =
    let content = content_of item.message in
    in_append_left content (cond (is_own m.id (signer_of item.message)) (content ∷ []) []) (signed_beside m (length w.signed) (Entry.Sent item))
    (subst (λ (b : Bool). In content (cond b (content ∷ []) [])) (sym h) (inl refl))

signed_now : (m : Maker) (earlier : List Entry) (item : Item) → is_own m.id (signer_of item.message) ≡ true
    → In (content_of item.message) (signed_of m (earlier ++ Entry.Sent item ∷ []))
signed_now m earlier item h =
    let w = walk m earlier in
    subst (In (content_of item.message)) (sym (ap (λ (w : Walk). w.signed) (walk_more m earlier (Entry.Sent item))))
    (in_append_right (content_of item.message) (signed_of m earlier) (signed_by m w (Entry.Sent item)) (signed_here m w item h))

own_or_still : (m : Maker) (journal more : List Entry) (time : ℕ) (part : Message) → IsOwnOrQuoted m journal time part
    → IsOwnOrQuoted m (journal ++ more) time part
own_or_still m journal more time part (inl h) = inl (h.0, signed_still m journal more (content_of part) h.1)
own_or_still m journal more time part (inr h) =
    inr (record {
      message = h.message;
      heard = earlier_still journal more time time h.message (omega arith) h.heard;
      inside = h.inside;
    })

carried_still : (m : Maker) (journal more : List Entry) (q : Parcel) → IsCarried m journal q → IsCarried m (journal ++ more) q
carried_still m journal more q h = record {
  message = h.message;
  has_spelling = h.has_spelling;
  spelled = h.spelled;
  each = λ part i. own_or_still m journal more q.time part (h.each part i);
}

carried_by : (m : Maker) (earlier : List Entry) (item : Item) (q : Parcel) → fits item.message ≡ true → IsReady m earlier item.message
    → q.time ≡ clock m earlier → q.bytes ≡ spelling_of item.message → IsCarried m (earlier ++ Entry.Sent item ∷ []) q
carried_by m earlier item q spells ready time bytes = record {
  message = item.message;
  has_spelling = spells;
  spelled = bytes;
  each = λ part i. go part (ready part i);
}
  where
    go : (part : Message) → ((item.message ≡ part) × (is_own m.id (signer_of item.message) ≡ true)) ⊎ IsQuoted earlier (clock m earlier) part
        → IsOwnOrQuoted m (earlier ++ Entry.Sent item ∷ []) q.time part
    go part (inl e) =
        inl (subst (λ (p : Message). (is_own m.id (signer_of p) ≡ true) × In (content_of p) (signed_of m (earlier ++ Entry.Sent item ∷ []))) e.0
        (e.1, signed_now m earlier item e.1))
    go part (inr h) =
        inr (record {
          message = h.message;
          heard = earlier_still earlier (Entry.Sent item ∷ []) (clock m earlier) q.time h.message (omega (arith, time)) h.heard;
          inside = h.inside;
        })

new_carried : (m : Maker) (earlier : List Entry) (past : List diaries.Entry) (e : Entry) → m.fault ≡ None → IsKeyed m
    → Stays m earlier (state m earlier) past → IsNext m earlier e → (q : Parcel) → In q (added m (walk m earlier) e) → IsCarried m (earlier ++ e ∷ []) q
new_carried m earlier past e plain keyed st n q i =
    let of = added_bytes m (walk m earlier) e q i in
    let sent = copies_are_sent m (walk m earlier) e of.copy of.is_in in
    subst (λ (x : Entry). IsCarried m (earlier ++ x ∷ []) q) (sym sent.1)
    (go sent.0 (subst (λ (x : Entry). In q (added m (walk m earlier) x)) sent.1 i) (subst (IsNext m earlier) sent.1 n))
  where
    go : (item : Item) → In q (added m (walk m earlier) (Entry.Sent item)) → IsNext m earlier (Entry.Sent item) → IsCarried m (earlier ++ Entry.Sent item ∷ []) q
    go item j next =
        let p = put_is m (walk m earlier) item q plain j in
        let whole = subst (λ (x : Item). IsSound m.roster m.ring x.message) (sym next.1) (next_sound m earlier past keyed st.sound next.0) in
        carried_by m earlier item q whole.spelled
        (subst (λ (x : Item). IsReady m earlier x.message) (sym next.1) (next_ready m earlier past st next.0)) p.0 p.1

-- ---- the whole

abbrev AreCarried : Maker → List Entry → Type 0
AreCarried m journal = (q : Parcel) → In q (parcels_of m journal) → IsCarried m journal q

carried_from : (m : Maker) (earlier rest : List Entry) (past : List diaries.Entry) → m.fault ≡ None → IsWithinLimits m.roster
    → IsTrue (is_replica m.roster m.id) → IsKeyed m → IsMadeFrom m earlier rest → AreSound m rest → Stays m earlier (state m earlier) past
    → AreCarried m earlier → AreCarried m (earlier ++ rest)
carried_from m earlier [] past plain limits member keyed made sound st old = subst (AreCarried m) (sym (append-nil earlier)) old
carried_from m earlier (e ∷ rest) past plain limits member keyed made sound st old =
    let now = (step m.roster m.id (state m earlier) (event_of e)).state in
    let grown = diary_after m.id (state m earlier) (event_of e) now past in
    let st_now : Stays m (earlier ++ e ∷ []) (state m (earlier ++ e ∷ [])) grown =
    subst (λ (s : Replica). Stays m (earlier ++ e ∷ []) s grown) (sym (state_more m earlier e))
    (stays_more m earlier (state m earlier) past e limits member sound.0 st) in
    let all : AreCarried m (earlier ++ e ∷ []) =
    λ q i. (elim (in_append_cases q (parcels_of m earlier) (added m (walk m earlier) e) (subst (In q) (parcels_more m earlier e) i)) [
      | inl k ↦ carried_still m earlier (e ∷ []) q (old q k)
      | inr k ↦ new_carried m earlier past e plain keyed st made.0 q k
    ]) in
    subst (AreCarried m) (append_assoc earlier (e ∷ []) rest)
    (carried_from m (earlier ++ e ∷ []) rest grown plain limits member keyed made.1 sound.1 st_now all)

none_put : (m : Maker) → AreCarried m []
unfolding walk
none_put m q i = absurd i

-- whatever a kept trace of a correct replica put carries what its replica signed or heard before
pub carried : (m : Maker) (t : Trace) → m.fault ≡ None → IsWithinLimits m.roster → IsTrue (is_replica m.roster m.id) → IsKeyed m → Kept m t
    → (q : Parcel) → In q t.parcels → IsCarried m t.journal q
carried m t plain limits member keyed kept q i =
    let first : Stays m [] (state m []) [] =
    subst (λ (s : Replica). Stays m [] s []) (sym (fresh_is m)) (record {
      sound = record { member = is_member m.roster m.id limits member; related = starts_related m.roster m.id limits member; heard = λ x h. absurd h };
      heard = λ x h. absurd h;
    }) in
    carried_from m [] t.journal [] plain limits member keyed kept.replays kept.sound first (none_put m) q (subst (In q) kept.parcels i)
