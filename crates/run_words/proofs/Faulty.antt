-- Whatever a replica puts, faulty or not, spells a sound message, but for a last byte that is spoiled.
use Rattle.std.proofs.Common.{◌≡◌, ℕ, ◌+◌, ◌<◌, nat_lt, Bool, true, false, cond, ◌&&◌, ◌⊎◌, List, [], ◌∷◌, ◌++◌, length, Option, Some, None, inl, inr, refl, sym, ap, subst, ◌∙◌, append_assoc, append-nil}
use Rattle.std.specs.Prelude.{IsTrue, ◌==◌}
use Rattle.fab_base.specs.Limits.{Roster, IsWithinLimits}
use Rattle.fab_base.specs.Roster.{is_replica}
use Rattle.fab_base.proofs.Tests.{and_left, and_right, and_both, below}
use Rattle.fab_base.specs.declared.ids.ReplicaId.{ReplicaId}
use Rattle.fab_base.specs.declared.messages.PrePrepare.{PrePrepare}
use Rattle.fab_base.specs.declared.messages.Message.{Message}
use Rattle.fab_base.specs.declared.answers.Item.{Item}
use Rattle.fab_rules.specs.Diary as diaries
use Rattle.fab_rules.specs.Lists.{In, first_of}
use Rattle.fab_rules.specs.Format.{is_u64, id_fits, signature_fits, batch_fits}
use Rattle.fab_rules.specs.Shape.{is_view, is_slot, is_batch_of, is_primary, IsShaped}
use Rattle.fab_rules.specs.Spelling.{spelling_of, content_of}
use Rattle.fab_rules.specs.Statements.{signer_of, unsigned}
use Rattle.fab_rules.proofs.Fitting.{fields_are}
use Rattle.fab_rules.proofs.Lengths.{proposal_is_spelled}
use Rattle.fab_rules.proofs.Lists.{in_append_cases}
use Rattle.fab_rules.proofs.Saying.{heard_before}
use Rattle.fab_machine.specs.State.{Replica}
use Rattle.fab_machine.specs.Items.{is_own, with_sig, sent_item, draft_of, statements_in}
use Rattle.fab_machine.specs.Step.{step, makes_entry, emit_step}
use Rattle.fab_machine.specs.Diaries.{diary_after}
use Rattle.fab_machine.specs.Relation.{full_of}
use Rattle.fab_machine.proofs.Members.{IsMember, is_member}
use Rattle.fab_machine.proofs.Shaped.{part_known, part_keeps, IsPlainPart, nothing_wrong}
use Rattle.fab_machine.proofs.Steps.{starts_related}
use Rattle.bft_verify.specs.Sound.{IsSound}
use Rattle.run_words.specs.declared.movers.Mover.{Mover}
use Rattle.fault_script.specs.declared.twists.Fault.{Fault}
use Rattle.run_words.specs.declared.logs.Entry.{Entry}
use Rattle.run_words.specs.declared.logs.Parcel.{Parcel}
use Rattle.run_words.specs.Twists.{Copy, is_equivocate, is_proposal, null_of, is_beside, is_share, copy_as, is_odd, copies_by, copies_from, spoiled}
use Rattle.run_words.specs.Journal.{Maker, Walk, event_of, state, null_beside, copies, walk, added, parcels_of, signed_of, moves, item_by, next_item, IsNext, IsMadeFrom, AreSound}
use Rattle.run_words.specs.Lawful.{IsKeyed, IsTwistedParcel, TwistedLaw}
use Rattle.run_words.proofs.Walks.{parcels_more}
use Rattle.run_words.proofs.Twisting.{added_bytes, copies_are_sent}
use Rattle.run_words.proofs.Replays.{state_more, fresh_is, emits}
use Rattle.run_words.proofs.Sending.{keep, AreHeardSound, message_sound, said_shaped, waiting_said, Stays, next_sound, stays_more}

-- ---- the null proposal beside a proposal is shaped

null_shaped : (r : Roster) (p : PrePrepare) → IsShaped r (unsigned (Message.PrePrepare p)) → IsShaped r (null_of (Message.PrePrepare p))
null_shaped r p h =
    let bare : Message = unsigned (Message.PrePrepare p) in
    let known = part_known r bare bare h (inl refl) in
    let front : Bool = is_view p.view && is_slot p.slot in
    let primary : Bool = is_primary r p.signer.cluster p.view p.signer.index in
    let keeps = part_keeps r bare bare h (inl refl) in
    let part : IsPlainPart r (null_of (Message.PrePrepare p)) = record {
      known = known;
      keeps = and_both (front && true) primary
          (and_both front true (and_left front (is_batch_of r p.signer.cluster p.batch) (and_left (front && is_batch_of r p.signer.cluster p.batch) primary keeps)) refl)
          (and_right (front && is_batch_of r p.signer.cluster p.batch) primary keeps);
      plain = λ j. refl;
    } in
    record {
      spelled = proposal_is_spelled (record p { batch = []; sig = [] })
          (keep (id_fits p.signer) _ _ (keep (is_u64 p.view) _ _ (keep (is_u64 p.slot) _ _
          (λ z. and_both (batch_fits []) (signature_fits []) refl (and_right (batch_fits p.batch) (signature_fits []) z))))
          (fields_are bare h.spelled));
      fitting = nothing_wrong r (null_of (Message.PrePrepare p)) (λ q i. (elim i [
        | inl e ↦ subst (IsPlainPart r) e part
        | inr none ↦ absurd none
      ]));
    }

-- ---- and sound

proposes : (me : ReplicaId) (leaves : ℕ) (fault : Option Fault) (k : ℕ) (x : Message) → is_beside me leaves fault k x ≡ true → is_proposal me x ≡ true
unfolding is_beside
proposes me leaves fault k x h = and_right (is_equivocate fault) (is_proposal me x) (and_left (is_equivocate fault && is_proposal me x) (nat_lt (k + 1) leaves) h)

leaf_left : (me : ReplicaId) (leaves : ℕ) (fault : Option Fault) (k : ℕ) (x : Message) → is_beside me leaves fault k x ≡ true → k + 1 < leaves
unfolding is_beside
leaf_left me leaves fault k x h = below (k + 1) leaves (and_right (is_equivocate fault && is_proposal me x) (nat_lt (k + 1) leaves) h)

abbrev null_signed : Maker → ℕ → Message → Message
null_signed m k x = with_sig (m.signature (k + 1) (content_of (null_of x))) (null_of x)

null_sound : (m : Maker) (k : ℕ) (sig : List ℕ) (x : Message) (full : List diaries.Entry) → IsKeyed m → k + 1 < m.leaves → is_proposal m.id (with_sig sig x) ≡ true
    → IsMember m.roster m.id → is_own m.id (signer_of x) ≡ true → IsShaped m.roster (unsigned x) → AreHeardSound m full → IsSound m.roster m.ring (null_signed m k (with_sig sig x))
null_sound m k sig (Message.PrePrepare p) full keyed left h member own shaped sound =
    message_sound m (k + 1) (null_of (Message.PrePrepare p)) full member keyed left own (null_shaped m.roster p shaped)
    (λ y i. (elim i [ inl e ↦ inl e | inr none ↦ absurd none ])) sound
null_sound m k sig (Message.Prepare p) full keyed left h member own shaped sound = absurd cc
null_sound m k sig (Message.Commit p) full keyed left h member own shaped sound = absurd cc
null_sound m k sig (Message.Checkpoint p) full keyed left h member own shaped sound = absurd cc
null_sound m k sig (Message.ReplyNote p) full keyed left h member own shaped sound = absurd cc
null_sound m k sig (Message.Request p) full keyed left h member own shaped sound = absurd cc
null_sound m k sig (Message.ViewChange p) full keyed left h member own shaped sound = absurd cc
null_sound m k sig (Message.NewView p) full keyed left h member own shaped sound = absurd cc
null_sound m k sig (Message.Drvc p) full keyed left h member own shaped sound = absurd cc
null_sound m k sig (Message.Rvc p) full keyed left h member own shaped sound = absurd cc
null_sound m k sig (Message.Share p) full keyed left h member own shaped sound = absurd cc
null_sound m k sig (Message.Fetch p) full keyed left h member own shaped sound = absurd cc

-- what another signed is no proposal of this replica
proposal_is_own : (me : ReplicaId) (x : Message) → is_proposal me x ≡ true → is_own me (signer_of x) ≡ true
proposal_is_own me (Message.PrePrepare x) h = and_left (is_own me (signer_of (Message.PrePrepare x))) _ h
proposal_is_own me (Message.Prepare x) h = absurd cc
proposal_is_own me (Message.Commit x) h = absurd cc
proposal_is_own me (Message.Checkpoint x) h = absurd cc
proposal_is_own me (Message.ReplyNote x) h = absurd cc
proposal_is_own me (Message.Request x) h = absurd cc
proposal_is_own me (Message.ViewChange x) h = absurd cc
proposal_is_own me (Message.NewView x) h = absurd cc
proposal_is_own me (Message.Drvc x) h = absurd cc
proposal_is_own me (Message.Rvc x) h = absurd cc
proposal_is_own me (Message.Share x) h = absurd cc
proposal_is_own me (Message.Fetch x) h = absurd cc

some_beside : (m : Maker) (k : ℕ) (x null : Message) → null_beside m k x ≡ Some null → (is_beside m.id m.leaves m.fault k x ≡ true) × (null_signed m k x ≡ null)
unfolding null_beside
some_beside m k x null h = go (is_beside m.id m.leaves m.fault k x) refl h
  where
    go : (b : Bool) → is_beside m.id m.leaves m.fault k x ≡ b → cond b (Some (null_signed m k x)) None ≡ Some null
        → (is_beside m.id m.leaves m.fault k x ≡ true) × (null_signed m k x ≡ null)
    go true e q = (e, cc)
    go false e q = absurd cc

null_of_item : (m : Maker) (s : Replica) (past : List diaries.Entry) (k : ℕ) (o : List Item) (null : Message) → IsKeyed m → Stays m s past → s.outbox ≡ o
    → makes_entry (emit_step m.id s [] o).answer ≡ true → null_beside m k (item_by m k (first_of o)).message ≡ Some null
    → IsSound m.roster m.ring null
null_of_item m s past k [] null keyed st e h b = absurd cc
null_of_item m s past k (x ∷ rest) null keyed st e h b = go (is_own m.id (signer_of x.message)) refl
  where
    here : In x s.outbox
    here = subst (In x) (sym e) (inl refl)

    full : List diaries.Entry
    full = full_of m.id s past

    sig : List ℕ
    sig = m.signature k (draft_of m.id x)

    sound : AreHeardSound m full
    sound y i = st.heard y (heard_before past (statements_in m.id s.outbox) y i)

    apart : (t : Bool) → t ≡ true → t ≡ false → ⊥
    apart true p q = absurd cc
    apart false p q = absurd cc

    go : (own : Bool) → is_own m.id (signer_of x.message) ≡ own → IsSound m.roster m.ring null
    go false other =
        let sent : (sent_item m.id sig x).message ≡ x.message = ap (λ (t : Bool). cond t (with_sig sig x.message) x.message) other in
        let beside = some_beside m k x.message null (ap (null_beside m k) (sym sent) ∙ b) in
        absurd (apart (is_own m.id (signer_of x.message)) (proposal_is_own m.id x.message (proposes m.id m.leaves m.fault k x.message beside.0)) other)
    go true own =
        let said = waiting_said m.id past s.outbox x here own in
        let sent : (sent_item m.id sig x).message ≡ with_sig sig x.message = ap (λ (t : Bool). cond t (with_sig sig x.message) x.message) own in
        let beside = some_beside m k (with_sig sig x.message) null (ap (null_beside m k) (sym sent) ∙ b) in
        subst (IsSound m.roster m.ring) beside.1
        (null_sound m k sig x.message full keyed (leaf_left m.id m.leaves m.fault k (with_sig sig x.message) beside.0)
        (proposes m.id m.leaves m.fault k (with_sig sig x.message) beside.0) st.member own
        (said_shaped m.roster m.id full (unsigned x.message) st.related.facts.rules said) sound)

null_of_next : (m : Maker) (earlier : List Entry) (past : List diaries.Entry) (null : Message) → IsKeyed m → Stays m (state m earlier) past
    → moves m earlier Mover.Emit ≡ true → null_beside m (length (signed_of m earlier)) (next_item m earlier).message ≡ Some null
    → IsSound m.roster m.ring null
unfolding next_item
null_of_next m earlier past null keyed st h b =
    null_of_item m (state m earlier) past (length (signed_of m earlier)) (state m earlier).outbox null keyed st refl (emits m earlier h) b

-- ---- a copy is of the message, or of the null one beside it

abbrev IsCopyOf : Option Message → Message → Copy → Type 0
IsCopyOf beside x c = (c.bytes ≡ spelling_of x) ⊎ ((null : Message) × (beside ≡ Some null) × (c.bytes ≡ spelling_of null))

one_copy : (beside : Option Message) (x : Message) (c d : Copy) → d.bytes ≡ spelling_of x → In c (d ∷ []) → IsCopyOf beside x c
one_copy beside x c d e (inl q) = inl (ap (λ (y : Copy). y.bytes) (sym q) ∙ e)
one_copy beside x c d e (inr none) = absurd none

null_copy : (null x : Message) (c d : Copy) → d.bytes ≡ spelling_of null → In c (d ∷ []) → IsCopyOf (Some null) x c
null_copy null x c d e (inl q) = inr (null, refl, ap (λ (y : Copy). y.bytes) (sym q) ∙ e)
null_copy null x c d e (inr none) = absurd none

if_copy : (beside : Option Message) (x : Message) (c : Copy) (b : Bool) (l k : List Copy) → (In c l → IsCopyOf beside x c) → (In c k → IsCopyOf beside x c)
    → In c (cond b l k) → IsCopyOf beside x c
if_copy beside x c true l k f g i = f i
if_copy beside x c false l k f g i = g i

copy_by : (fault : Option Fault) (proposal : Bool) (beside : Option Message) (x : Message) (to : ReplicaId) (c : Copy)
    → In c (copies_by fault proposal beside x to) → IsCopyOf beside x c
copy_by None proposal beside x to c i = one_copy beside x c (copy_as x to x) refl i
copy_by (Some Fault.Silent) proposal beside x to c i = absurd i
copy_by (Some Fault.Equivocate) true (Some null) x to c i =
    if_copy (Some null) x c (is_odd to.index) (copy_as x to null ∷ []) (copy_as x to x ∷ []) (λ j. null_copy null x c (copy_as x to null) refl j)
    (λ j. one_copy (Some null) x c (copy_as x to x) refl j) i
copy_by (Some Fault.Equivocate) true None x to c i =
    if_copy None x c (is_odd to.index) [] (copy_as x to x ∷ []) (λ j. absurd j) (λ j. one_copy None x c (copy_as x to x) refl j) i
copy_by (Some Fault.Equivocate) false beside x to c i = one_copy beside x c (copy_as x to x) refl i
copy_by (Some (Fault.Withhold cluster)) proposal beside x to c i =
    if_copy beside x c (is_share x && to.cluster == cluster) [] (copy_as x to x ∷ []) (λ j. absurd j) (λ j. one_copy beside x c (copy_as x to x) refl j) i
copy_by (Some (Fault.Garble every)) proposal beside x to c i = one_copy beside x c (copy_as x to x) refl i
copy_by (Some Fault.Replay) proposal beside x to c (inl q) = inl (ap (λ (y : Copy). y.bytes) (sym q))
copy_by (Some Fault.Replay) proposal beside x to c (inr i) = one_copy beside x c (copy_as x to x) refl i

copy_from : (fault : Option Fault) (proposal : Bool) (beside : Option Message) (x : Message) (to : List ReplicaId) (c : Copy)
    → In c (copies_from fault proposal beside x to) → IsCopyOf beside x c
copy_from fault proposal beside x [] c i = absurd i
copy_from fault proposal beside x (j ∷ to) c i =
    elim (in_append_cases c (copies_by fault proposal beside x j) (copies_from fault proposal beside x to) i) [
      | inl k ↦ copy_by fault proposal beside x j c k
      | inr k ↦ copy_from fault proposal beside x to c k
    ]

copy_of_sent : (m : Maker) (w : Walk) (item : Item) (c : Copy) → In c (copies m w (Entry.Sent item))
    → IsCopyOf (null_beside m (length w.signed) item.message) item.message c
unfolding copies
copy_of_sent m w item c i = copy_from m.fault (is_proposal m.id item.message) (null_beside m (length w.signed) item.message) item.message item.to c i

-- ---- an entry more

new_twisted : (m : Maker) (earlier : List Entry) (past : List diaries.Entry) (e : Entry) → IsKeyed m → Stays m (state m earlier) past → IsNext m earlier e
    → (q : Parcel) → In q (added m (walk m earlier) e) → IsTwistedParcel m q
new_twisted m earlier past e keyed st n q i =
    let of = added_bytes m (walk m earlier) e q i in
    let sent = copies_are_sent m (walk m earlier) e of.copy of.is_in in
    go sent.0 of.copy of.place of.bytes_are (subst (λ (x : Entry). In of.copy (copies m (walk m earlier) x)) sent.1 of.is_in) (subst (IsNext m earlier) sent.1 n)
  where
    go : (item : Item) (c : Copy) (place : ℕ) → q.bytes ≡ spoiled m.fault place c.bytes → In c (copies m (walk m earlier) (Entry.Sent item))
        → IsNext m earlier (Entry.Sent item) → IsTwistedParcel m q
    go item c place bytes inside next = elim (copy_of_sent m (walk m earlier) item c inside) [
      | inl e ↦ record {
        message = item.message;
        sound = subst (λ (x : Item). IsSound m.roster m.ring x.message) (sym next.1) (next_sound m earlier past keyed st next.0);
        place = place;
        spelled = bytes ∙ ap (spoiled m.fault place) e;
      }
      | inr e ↦ record {
        message = e.0;
        sound = null_of_next m earlier past e.0 keyed st next.0
            (ap (λ (x : Item). null_beside m (length (signed_of m earlier)) x.message) (sym next.1) ∙ e.1);
        place = place;
        spelled = bytes ∙ ap (spoiled m.fault place) e.2;
      }
    ]

-- ---- the whole

abbrev AreTwisted : Maker → List Entry → Type 0
AreTwisted m journal = (q : Parcel) → In q (parcels_of m journal) → IsTwistedParcel m q

twisted_from : (m : Maker) (earlier rest : List Entry) (past : List diaries.Entry) → IsWithinLimits m.roster → IsTrue (is_replica m.roster m.id) → IsKeyed m
    → IsMadeFrom m earlier rest → AreSound m rest → Stays m (state m earlier) past → AreTwisted m earlier → AreTwisted m (earlier ++ rest)
twisted_from m earlier [] past limits member keyed made sound st old = subst (AreTwisted m) (sym (append-nil earlier)) old
twisted_from m earlier (e ∷ rest) past limits member keyed made sound st old =
    let now = (step m.roster m.id (state m earlier) (event_of e)).state in
    let grown = diary_after m.id (state m earlier) (event_of e) now past in
    let st_now : Stays m (state m (earlier ++ e ∷ [])) grown =
    subst (λ (s : Replica). Stays m s grown) (sym (state_more m earlier e)) (stays_more m (state m earlier) past e limits member sound.0 st) in
    let all : AreTwisted m (earlier ++ e ∷ []) =
    λ q i. (elim (in_append_cases q (parcels_of m earlier) (added m (walk m earlier) e) (subst (In q) (parcels_more m earlier e) i)) [
      | inl k ↦ old q k
      | inr k ↦ new_twisted m earlier past e keyed st made.0 q k
    ]) in
    subst (AreTwisted m) (append_assoc earlier (e ∷ []) rest)
    (twisted_from m (earlier ++ e ∷ []) rest grown limits member keyed made.1 sound.1 st_now all)

none_put : (m : Maker) → AreTwisted m []
unfolding walk
none_put m q i = absurd i

pub twisted_parcels : TwistedLaw
twisted_parcels m t limits member keyed kept q i =
    let first : Stays m (state m []) [] =
    subst (λ (s : Replica). Stays m s []) (sym (fresh_is m))
    (record { member = is_member m.roster m.id limits member; related = starts_related m.roster m.id limits member; heard = λ x h. absurd h }) in
    twisted_from m [] t.journal [] limits member keyed kept.replays kept.sound first (none_put m) q (subst (In q) kept.parcels i)
