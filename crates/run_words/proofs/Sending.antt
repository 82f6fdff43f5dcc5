-- The parcels of a kept trace are sound.
use Rattle.std.proofs.Common.{◌≡◌, ℕ, ◌<◌, ◌≤◌, nat_eq, nat_le, arith, map, Bool, true, false, cond, ◌&&◌, ◌⊎◌, List, [], ◌∷◌, ◌++◌, drop, length, Option, Some, None, inl, inr, refl, sym, ap, subst, ◌∙◌, append_assoc, append-nil}
use Rattle.std.specs.Prelude.{IsTrue}
use Rattle.std.specs.Option.{is_some}
use Rattle.std.specs.List.{flat_map}
use Rattle.std.proofs.lemmas.Bool.Decides.{nat_tests}
use Rattle.fab_base.specs.Limits.{Roster, IsWithinLimits}
use Rattle.fab_base.specs.Roster.{is_replica, size_of}
use Rattle.fab_base.specs.declared.ids.ReplicaId.{ReplicaId}
use Rattle.fab_base.specs.declared.ids.Who.{Who}
use Rattle.fab_base.specs.declared.limits.TheConstants.{MOST_MEMBERS, MOST_STATEMENTS}
use Rattle.fab_base.specs.Quorums.{quorum_size}
use Rattle.fab_base.specs.declared.requests.Request.{Request}
use Rattle.fab_base.specs.declared.messages.PreparedCert.{PreparedCert}
use Rattle.fab_base.specs.declared.messages.CommitCert.{CommitCert}
use Rattle.fab_base.specs.declared.messages.ViewChange.{ViewChange}
use Rattle.fab_base.specs.declared.messages.NewView.{NewView}
use Rattle.fab_base.proofs.Tests.{and_left, and_right}
use Rattle.fab_base.specs.declared.messages.Message.{Message}
use Rattle.fab_base.specs.declared.answers.Item.{Item}
use Rattle.fab_rules.specs.Diary as diaries
use Rattle.fab_rules.specs.Diary.{Heard, Said, StatementHeard}
use Rattle.fab_rules.specs.Growth.{after_saying}
use Rattle.fab_rules.specs.Lists.{In, first_of}
use Rattle.fab_rules.specs.Format.{is_u8, is_u32, is_u64, id_fits, digest_fits, signature_fits, batch_fits, proof_fits, certificates_fit, view_changes_fit, lines_fit}
use Rattle.fab_rules.specs.Rules.{May, KeepsRules}
use Rattle.fab_rules.specs.Shape.{is_view, is_primary, is_new_view, IsShaped}
use Rattle.fab_rules.specs.Spelling.{content_of}
use Rattle.fab_rules.specs.Statements.{signer_of, unsigned, parts_of_certificate, parts_of_change, parts_of, statements_of}
use Rattle.fab_rules.proofs.Fitting.{fields_are}
use Rattle.fab_rules.proofs.Lengths.{proposal_is_spelled, prepare_is_spelled, commit_is_spelled, checkpoint_is_spelled, view_change_is_spelled, new_view_is_spelled, drvc_is_spelled, rvc_is_spelled, note_is_spelled}
use Rattle.fab_rules.proofs.Lists.{in_append_cases, of_map, of_flat_map, in_flat_map, of_filter}
use Rattle.fab_rules.proofs.Parts.{part_is_statement}
use Rattle.fab_rules.proofs.Saying.{same_heard, heard_before, now_said}
use Rattle.fab_machine.specs.State.{Replica}
use Rattle.fab_machine.specs.Items.{same_id, is_own, with_sig, sent_item, draft_of, statements_by, statements_in}
use Rattle.fab_machine.specs.Step.{step, makes_entry, emit_step}
use Rattle.fab_machine.specs.Diaries.{MayCome, diary_sent, diary_after}
use Rattle.fab_machine.specs.Relation.{IsQuoting, IsRelay, full_of, AreRelated}
use Rattle.fab_machine.proofs.Members.{IsMember, is_member}
use Rattle.fab_machine.proofs.Shaped.{part_keeps}
use Rattle.fab_machine.proofs.Blocks.{heard_before_blocks}
use Rattle.fab_machine.proofs.Steps.{step_keeps, starts_related}
use Rattle.lms_tree.specs.Verdict.{Valid}
use Rattle.bft_verify.specs.Sound.{signature_of, IsSound, IsSignedBy, AreSigned}
use Rattle.bft_verify.proofs.Soundness.{shaped_from_sound, signed_from_sound, sound_from_both}
use Rattle.run_words.specs.declared.movers.Mover.{Mover}
use Rattle.run_words.specs.declared.logs.Entry.{Entry}
use Rattle.run_words.specs.declared.logs.Parcel.{Parcel}
use Rattle.run_words.specs.Journal.{Maker, Walk, event_of, state, walk, copies, added, parcels_of, signed_of, needs_leaf, moves, item_by, next_item, IsNext, IsMadeFrom, IsHeardSound, AreSound}
use Rattle.run_words.specs.Lawful.{IsKeyed, IsSoundParcel, ParcelLaw}
use Rattle.fault_script.specs.declared.twists.Fault.{Fault}
use Rattle.run_words.specs.Twists.{spoiled}
use Rattle.run_words.proofs.Walks.{parcels_more}
use Rattle.run_words.proofs.Twisting.{added_bytes, plain_copy, copies_are_sent}
use Rattle.run_words.proofs.Replays.{state_more, fresh_is, emits}
use Rattle.run_words.proofs.Placing.{content_signed, leaf_left}

-- ---- a signed statement is shaped as the unsigned one is

pub keep : (a x y : Bool) → (x ≡ true → y ≡ true) → (a && x) ≡ true → (a && y) ≡ true
keep true x y f h = f h
keep false x y f h = absurd cc

-- its signer is this replica
same_number : (a b : ℕ) → nat_eq a b ≡ true → a ≡ b
same_number a b h = grind (arith, nat_tests)

signer_is : (i me : ReplicaId) → same_id i me ≡ true → i ≡ me
signer_is i me h =
    let c = same_number i.cluster me.cluster (and_left (nat_eq i.cluster me.cluster) _ h) in
    let k = same_number i.index me.index (and_right (nat_eq i.cluster me.cluster) _ h) in
    ap (λ n. let x : ReplicaId = record { cluster = n; index = i.index } in x) c ∙ ap (λ n. let x : ReplicaId = record { cluster = me.cluster; index = n } in x) k

-- a quorum of few members is few
few_make_quorum : (n : ℕ) → n ≤ MOST_MEMBERS → quorum_size n < MOST_STATEMENTS
few_make_quorum n h = omega (arith, h)

few_changes : (r : Roster) (me : ReplicaId) (x : NewView) → IsMember r me → same_id x.signer me ≡ true → IsShaped r (unsigned (Message.NewView x))
    → length x.changes < MOST_STATEMENTS
few_changes r me x member own h =
    let bare : Message = unsigned (Message.NewView x) in
    let n = size_of r x.signer.cluster in
    let keeps : is_new_view r x ≡ true = part_keeps r bare bare h (inl refl) in
    let count = and_right (nat_le 1 x.view && is_view x.view && is_primary r x.signer.cluster x.view x.signer.index) _
    (and_left (nat_le 1 x.view && is_view x.view && is_primary r x.signer.cluster x.view x.signer.index && nat_eq (length x.changes) (quorum_size n)) _ keeps) in
    let few : n ≤ MOST_MEMBERS = subst (λ (i : ReplicaId). size_of r i.cluster ≤ MOST_MEMBERS) (sym (signer_is x.signer me own)) member.few in
    omega (arith, same_number (length x.changes) (quorum_size n) count, few_make_quorum n few)

shaped_again : (r : Roster) (me : ReplicaId) (sig : List ℕ) (x : Message) → IsMember r me → is_own me (signer_of x) ≡ true → signature_fits sig ≡ true
    → IsShaped r (unsigned x) → IsShaped r (with_sig sig x)
shaped_again r me sig (Message.PrePrepare x) member own f h = record {
  spelled = proposal_is_spelled (record x { sig = sig })
      (keep (id_fits x.signer) _ _ (keep (is_u64 x.view) _ _ (keep (is_u64 x.slot) _ _ (keep (batch_fits x.batch) _ _ (λ z. f))))
      (fields_are (unsigned (Message.PrePrepare x)) h.spelled));
  fitting = h.fitting;
}
shaped_again r me sig (Message.Prepare x) member own f h = record {
  spelled = prepare_is_spelled (record x { sig = sig })
      (keep (id_fits x.signer) _ _ (keep (is_u64 x.view) _ _ (keep (is_u64 x.slot) _ _ (keep (digest_fits x.digest) _ _ (λ z. f))))
      (fields_are (unsigned (Message.Prepare x)) h.spelled));
  fitting = h.fitting;
}
shaped_again r me sig (Message.Commit x) member own f h = record {
  spelled = commit_is_spelled (record x { sig = sig })
      (keep (id_fits x.signer) _ _ (keep (is_u64 x.view) _ _ (keep (is_u64 x.slot) _ _ (keep (digest_fits x.digest) _ _ (λ z. f))))
      (fields_are (unsigned (Message.Commit x)) h.spelled));
  fitting = h.fitting;
}
shaped_again r me sig (Message.Checkpoint x) member own f h = record {
  spelled = checkpoint_is_spelled (record x { sig = sig })
      (keep (id_fits x.signer) _ _ (keep (is_u64 x.round) _ _ (keep (digest_fits x.digest) _ _ (λ z. f)))
      (fields_are (unsigned (Message.Checkpoint x)) h.spelled));
  fitting = h.fitting;
}
shaped_again r me sig (Message.ReplyNote x) member own f h = record {
  spelled = note_is_spelled (record x { sig = sig })
      (keep (id_fits x.signer) _ _ (keep (is_u64 x.round) _ _ (keep (digest_fits x.digest) _ _ (keep (lines_fit x.lines) _ _ (λ z. f))))
      (fields_are (unsigned (Message.ReplyNote x)) h.spelled));
  fitting = h.fitting;
}
shaped_again r me sig (Message.ViewChange x) member own f h = record {
  spelled = view_change_is_spelled (record x { sig = sig })
      (keep (id_fits x.signer) _ _ (keep (is_u64 x.view) _ _ (keep (is_u64 x.low) _ _ (keep (proof_fits x.proof) _ _ (keep (certificates_fit x.prepared) _ _ (λ z. f)))))
      (fields_are (unsigned (Message.ViewChange x)) h.spelled));
  fitting = h.fitting;
}
shaped_again r me sig (Message.NewView x) member own f h = record {
  spelled = new_view_is_spelled (record x { sig = sig })
      (keep (id_fits x.signer) _ _ (keep (is_u64 x.view) _ _ (keep (view_changes_fit x.changes) _ _ (λ z. f)))
      (fields_are (unsigned (Message.NewView x)) h.spelled)) (few_changes r me x member own h);
  fitting = h.fitting;
}
shaped_again r me sig (Message.Drvc x) member own f h = record {
  spelled = drvc_is_spelled (record x { sig = sig })
      (keep (id_fits x.signer) _ _ (keep (is_u8 x.target) _ _ (keep (is_u64 x.round) _ _ (keep (is_u32 x.count) _ _ (λ z. f))))
      (fields_are (unsigned (Message.Drvc x)) h.spelled));
  fitting = h.fitting;
}
shaped_again r me sig (Message.Rvc x) member own f h = record {
  spelled = rvc_is_spelled (record x { sig = sig })
      (keep (id_fits x.signer) _ _ (keep (is_u8 x.target) _ _ (keep (is_u64 x.round) _ _ (keep (is_u32 x.count) _ _ (λ z. f))))
      (fields_are (unsigned (Message.Rvc x)) h.spelled));
  fitting = h.fitting;
}
shaped_again r me sig (Message.Request x) member own f h = absurd cc
shaped_again r me sig (Message.Share x) member own f h = absurd cc
shaped_again r me sig (Message.Fetch x) member own f h = absurd cc

-- ---- what stands inside a message

abbrev inside_of : Message → List Message
inside_of (Message.PrePrepare x) = map Message.Request x.batch
inside_of (Message.ViewChange x) = map Message.Checkpoint x.proof ++ flat_map parts_of_certificate x.prepared
inside_of (Message.NewView x) = flat_map parts_of_change x.changes
inside_of (Message.Share x) = map Message.Request x.batch ++ map Message.Commit x.votes
inside_of x = []

-- a message and what stands inside it
parts_are : (x : Message) → parts_of x ≡ x ∷ inside_of x
parts_are (Message.Request x) = refl
parts_are (Message.PrePrepare x) = refl
parts_are (Message.Prepare x) = refl
parts_are (Message.Commit x) = refl
parts_are (Message.Checkpoint x) = refl
parts_are (Message.ViewChange x) = refl
parts_are (Message.NewView x) = refl
parts_are (Message.Drvc x) = refl
parts_are (Message.Rvc x) = refl
parts_are (Message.ReplyNote x) = refl
parts_are (Message.Share x) = refl
parts_are (Message.Fetch x) = refl

inside_signed : (sig : List ℕ) (x : Message) → inside_of (with_sig sig x) ≡ inside_of (unsigned x)
inside_signed sig (Message.Request x) = refl
inside_signed sig (Message.PrePrepare x) = refl
inside_signed sig (Message.Prepare x) = refl
inside_signed sig (Message.Commit x) = refl
inside_signed sig (Message.Checkpoint x) = refl
inside_signed sig (Message.ViewChange x) = refl
inside_signed sig (Message.NewView x) = refl
inside_signed sig (Message.Drvc x) = refl
inside_signed sig (Message.Rvc x) = refl
inside_signed sig (Message.ReplyNote x) = refl
inside_signed sig (Message.Share x) = refl
inside_signed sig (Message.Fetch x) = refl

-- how deep messages may stand inside one
abbrev depth : Message → ℕ
depth (Message.PrePrepare x) = 1
depth (Message.ViewChange x) = 1
depth (Message.Share x) = 1
depth (Message.NewView x) = 2
depth x = 0

request_depth : (batch : List Request) (p : Message) → In p (map Message.Request batch) → depth p ≡ 0
request_depth batch p h = let from = of_map Message.Request p batch h in sym (ap depth from.same)

certificate_depth : (k : PreparedCert) (p : Message) → In p (parts_of_certificate k) → depth p ≡ 0
certificate_depth k p h =
    elim (in_append_cases p (map Message.Request k.batch) (map Message.Prepare k.votes) h) as (λ _. depth p ≡ 0) [
      | inl i ↦ request_depth k.batch p i
      | inr i ↦ (let from = of_map Message.Prepare p k.votes i in sym (ap depth from.same))
    ]

change_depth : (c : ViewChange) (p : Message) → In p (inside_of (Message.ViewChange c)) → depth p ≡ 0
change_depth c p h =
    elim (in_append_cases p (map Message.Checkpoint c.proof) (flat_map parts_of_certificate c.prepared) h) as (λ _. depth p ≡ 0) [
      | inl i ↦ (let from = of_map Message.Checkpoint p c.proof i in sym (ap depth from.same))
      | inr i ↦ (let from = of_flat_map parts_of_certificate p c.prepared i in certificate_depth from.from p from.inside)
    ]

share_depth : (k : CommitCert) (p : Message) → In p (inside_of (Message.Share k)) → depth p ≡ 0
share_depth k p h =
    elim (in_append_cases p (map Message.Request k.batch) (map Message.Commit k.votes) h) as (λ _. depth p ≡ 0) [
      | inl i ↦ request_depth k.batch p i
      | inr i ↦ (let from = of_map Message.Commit p k.votes i in sym (ap depth from.same))
    ]

inside_depth : (x p : Message) → In p (inside_of x) → depth p < depth x
inside_depth (Message.PrePrepare x) p h = omega (arith, request_depth x.batch p h)
inside_depth (Message.ViewChange x) p h = omega (arith, change_depth x p h)
inside_depth (Message.Share x) p h = omega (arith, share_depth x p h)
inside_depth (Message.NewView x) p h =
    let from = of_flat_map parts_of_change p x.changes h in
    go from.from from.inside
  where
    go : (c : ViewChange) → In p (parts_of_change c) → depth p < 2
    go c (inl e) = omega (arith, ap depth e)
    go c (inr i) = omega (arith, change_depth c p i)
inside_depth (Message.Request x) p h = absurd h
inside_depth (Message.Prepare x) p h = absurd h
inside_depth (Message.Commit x) p h = absurd h
inside_depth (Message.Checkpoint x) p h = absurd h
inside_depth (Message.Drvc x) p h = absurd h
inside_depth (Message.Rvc x) p h = absurd h
inside_depth (Message.ReplyNote x) p h = absurd h
inside_depth (Message.Fetch x) p h = absurd h

-- ---- each of its parts is signed

-- by the replica's own key
record IsKeyOver (m : Maker) (y : Message) : Type 0 where
  signer : signer_of y ≡ Some (Who.Replica m.id)
  signed : IsSignedBy m.ring (Who.Replica m.id) y

same_who : (a b : Who) (o : Option Who) → o ≡ Some a → o ≡ Some b → a ≡ b
same_who a b o p q = cc

own_part : (m : Maker) (y p : Message) (who : Who) → IsKeyOver m y → y ≡ p → signer_of p ≡ Some who → IsSignedBy m.ring who p
own_part m y p who k e q =
    subst (λ (x : Message). IsSignedBy m.ring who x) e
    (subst (λ (w : Who). IsSignedBy m.ring w y) (same_who (Who.Replica m.id) who (signer_of y) k.signer (ap signer_of e ∙ q)) k.signed)

abbrev pub AreHeardSound : Maker → List diaries.Entry → Type 0
AreHeardSound m full = (x : Message) → In (Heard x) full → IsSound m.roster m.ring x

heard_part : (m : Maker) (full : List diaries.Entry) (p : Message) (who : Who) → AreHeardSound m full → StatementHeard full p
    → signer_of p ≡ Some who
    → IsSignedBy m.ring who p
heard_part m full p who sound h q =
    signed_from_sound m.roster m.ring h.message (sound h.message h.heard) p who
    (of_filter (λ x. is_some (signer_of x)) p (parts_of h.message) h.inside).0 q

parts_signed : (m : Maker) (sig : List ℕ) (x : Message) (full : List diaries.Entry) → IsKeyOver m (with_sig sig x) → IsQuoting full (unsigned x)
    → AreHeardSound m full → AreSigned m.ring (with_sig sig x)
parts_signed m sig x full k quoting sound p who i q =
    elim (subst (In p) (parts_are (with_sig sig x)) i) as (λ _. IsSignedBy m.ring who p) [
      | inl e ↦ own_part m (with_sig sig x) p who k e q
      | inr j ↦ (let inside = subst (In p) (inside_signed sig x) j in
          let part = subst (In p) (sym (parts_are (unsigned x))) (inr inside) in
          quoted inside (quoting p (part_is_statement (unsigned x) p part (ap is_some q))))
    ]
  where
    quoted : In p (inside_of (unsigned x)) → (unsigned x ≡ p) ⊎ StatementHeard full p → IsSignedBy m.ring who p
    quoted inside (inl e) = absurd (omega (arith, inside_depth (unsigned x) p inside, ap depth e))
    quoted inside (inr h) = heard_part m full p who sound h q

-- each statement in a signed one is that one, or was heard
pub signed_statements : (sig : List ℕ) (x : Message) (full : List diaries.Entry) → IsQuoting full (unsigned x) → (p : Message)
    → In p (statements_of (with_sig sig x)) → (with_sig sig x ≡ p) ⊎ StatementHeard full p
signed_statements sig x full quoting p h =
    let part = of_filter (λ y. is_some (signer_of y)) p (parts_of (with_sig sig x)) h in
    elim (subst (In p) (parts_are (with_sig sig x)) part.0) as (λ _. (with_sig sig x ≡ p) ⊎ StatementHeard full p) [
      | inl e ↦ inl e
      | inr j ↦ (let inside = subst (In p) (inside_signed sig x) j in
          let there = subst (In p) (sym (parts_are (unsigned x))) (inr inside) in
          quoted inside (quoting p (part_is_statement (unsigned x) p there part.1)))
    ]
  where
    quoted : In p (inside_of (unsigned x)) → (unsigned x ≡ p) ⊎ StatementHeard full p → (with_sig sig x ≡ p) ⊎ StatementHeard full p
    quoted inside (inl e) = absurd (omega (arith, inside_depth (unsigned x) p inside, ap depth e))
    quoted inside (inr h) = inr h

signer_signed : (me : ReplicaId) (sig : List ℕ) (x : Message) → is_own me (signer_of x) ≡ true
    → (signer_of (with_sig sig x) ≡ Some (Who.Replica me)) × (signature_of (with_sig sig x) ≡ sig)
signer_signed me sig (Message.PrePrepare x) own = (ap (λ i. Some (Who.Replica i)) (signer_is x.signer me own), refl)
signer_signed me sig (Message.Prepare x) own = (ap (λ i. Some (Who.Replica i)) (signer_is x.signer me own), refl)
signer_signed me sig (Message.Commit x) own = (ap (λ i. Some (Who.Replica i)) (signer_is x.signer me own), refl)
signer_signed me sig (Message.Checkpoint x) own = (ap (λ i. Some (Who.Replica i)) (signer_is x.signer me own), refl)
signer_signed me sig (Message.ViewChange x) own = (ap (λ i. Some (Who.Replica i)) (signer_is x.signer me own), refl)
signer_signed me sig (Message.NewView x) own = (ap (λ i. Some (Who.Replica i)) (signer_is x.signer me own), refl)
signer_signed me sig (Message.Drvc x) own = (ap (λ i. Some (Who.Replica i)) (signer_is x.signer me own), refl)
signer_signed me sig (Message.Rvc x) own = (ap (λ i. Some (Who.Replica i)) (signer_is x.signer me own), refl)
signer_signed me sig (Message.ReplyNote x) own = (ap (λ i. Some (Who.Replica i)) (signer_is x.signer me own), refl)
signer_signed me sig (Message.Request x) own = absurd cc
signer_signed me sig (Message.Share x) own = absurd cc
signer_signed me sig (Message.Fetch x) own = absurd cc

key_over : (m : Maker) (k : ℕ) (x : Message) → IsKeyed m → k < m.leaves → is_own m.id (signer_of x) ≡ true
    → IsKeyOver m (with_sig (m.signature k (content_of x)) x)
key_over m k x keyed left own =
    let sig = m.signature k (content_of x) in
    let s = signer_signed m.id sig x own in
    record {
      signer = s.0;
      signed = record {
        key = keyed.key;
        is_key = keyed.is_key;
        valid = subst (λ (c : List ℕ). Valid keyed.key c (signature_of (with_sig sig x))) (sym (content_signed sig x))
            (subst (λ (g : List ℕ). Valid keyed.key (content_of x) g) (sym s.1) (keyed.valid k (content_of x) left));
      };
    }

pub message_sound : (m : Maker) (k : ℕ) (x : Message) (full : List diaries.Entry) → IsMember m.roster m.id → IsKeyed m → k < m.leaves
    → is_own m.id (signer_of x) ≡ true → IsShaped m.roster (unsigned x) → IsQuoting full (unsigned x) → AreHeardSound m full
    → IsSound m.roster m.ring (with_sig (m.signature k (content_of x)) x)
message_sound m k x full member keyed left own shaped quoting sound =
    let sig = m.signature k (content_of x) in
    sound_from_both m.roster m.ring (with_sig sig x) (shaped_again m.roster m.id sig x member own (keyed.fits k (content_of x) left) shaped)
    (parts_signed m sig x full (key_over m k x keyed left own) quoting sound)

-- ---- what is passed on is sound as it stands

pub relay_sound : (m : Maker) (x : Message) (full : List diaries.Entry) → IsRelay m.roster full x → AreHeardSound m full → IsSound m.roster m.ring x
relay_sound m x full relay sound =
    sound_from_both m.roster m.ring x relay.shaped
    (λ p who i q. heard_part m full p who sound (relay.heard p (part_is_statement x p i (ap is_some q))) q)

-- ---- what waits was said in the full diary

pub said_shaped : (r : Roster) (me : ReplicaId) (full : List diaries.Entry) (x : Message) → KeepsRules r me full → In (Said x) full
    → IsShaped r x
said_shaped r me [] x h i = absurd i
said_shaped r me (e ∷ past) x h (inl q) = (subst (May r me past) q h.0).shaped_speech
said_shaped r me (e ∷ past) x h (inr i) = said_shaped r me past x h.1 i

pub in_said : (me : ReplicaId) (x : Message) → is_own me (signer_of x) ≡ true → In (unsigned x) (statements_by me x)
in_said me x h = subst (λ (b : Bool). In (unsigned x) (cond b (unsigned x ∷ []) [])) (sym h) (inl refl)

pub waiting_said : (me : ReplicaId) (past : List diaries.Entry) (items : List Item) (item : Item) → In item items
    → is_own me (signer_of item.message) ≡ true
    → In (Said (unsigned item.message)) (after_saying past (statements_in me items))
waiting_said me past items item i h =
    now_said past (statements_in me items) (unsigned item.message)
    (in_flat_map (λ (x : Item). statements_by me x.message) item (unsigned item.message) items i (in_said me item.message h))

-- ---- what stays along a journal

pub record Stays (m : Maker) (s : Replica) (past : List diaries.Entry) : Type 0 where
  pub member : IsMember m.roster m.id
  pub related : AreRelated m.roster m.id s past
  pub heard : AreHeardSound m past

item_sound : (m : Maker) (s : Replica) (past : List diaries.Entry) (k : ℕ) (o : List Item) → IsKeyed m → Stays m s past → s.outbox ≡ o
    → makes_entry (emit_step m.id s [] o).answer ≡ true → (needs_leaf m.id (first_of o) ≡ true → k < m.leaves)
    → IsSound m.roster m.ring (item_by m k (first_of o)).message
item_sound m s past k [] keyed st e h left = absurd cc
item_sound m s past k (x ∷ rest) keyed st e h left =
    let here : In x s.outbox = subst (In x) (sym e) (inl refl) in
    let full = full_of m.id s past in
    let sound : AreHeardSound m full = λ y i. st.heard y (heard_before past (statements_in m.id s.outbox) y i) in
    elim (st.related.facts.waits x here).from as (λ _. IsSound m.roster m.ring (sent_item m.id (m.signature k (draft_of m.id x)) x).message) [
      | inl own ↦ signed here own
      | inr passed ↦ subst (IsSound m.roster m.ring)
          (sym (ap (λ (b : Bool). cond b (with_sig (m.signature k (draft_of m.id x)) x.message) x.message) passed.0)) (relay_sound m x.message full passed.1 sound)
    ]
  where
    signed : In x s.outbox → is_own m.id (signer_of x.message) ≡ true
        → IsSound m.roster m.ring (sent_item m.id (m.signature k (draft_of m.id x)) x).message
    signed here own =
        let all = full_of m.id s past in
        let said = waiting_said m.id past s.outbox x here own in
        let whole = message_sound m k x.message all st.member keyed (left own) own (said_shaped m.roster m.id all (unsigned x.message) st.related.facts.rules said)
        (st.related.facts.local.quoted (unsigned x.message) said) (λ y i. st.heard y (heard_before past (statements_in m.id s.outbox) y i)) in
        let draft : draft_of m.id x ≡ content_of x.message = ap (λ (b : Bool). cond b (content_of x.message) []) own in
        let sent : (sent_item m.id (m.signature k (draft_of m.id x)) x).message ≡ with_sig (m.signature k (content_of x.message)) x.message =
        ap (λ (b : Bool). cond b (with_sig (m.signature k (draft_of m.id x)) x.message) x.message) own
        ∙ ap (λ (c : List ℕ). with_sig (m.signature k c) x.message) draft in
        subst (IsSound m.roster m.ring) (sym sent) whole

pub next_sound : (m : Maker) (earlier : List Entry) (past : List diaries.Entry) → IsKeyed m → Stays m (state m earlier) past
    → moves m earlier Mover.Emit ≡ true
    → IsSound m.roster m.ring (next_item m earlier).message
unfolding next_item
next_sound m earlier past keyed st h =
    item_sound m (state m earlier) past (length (signed_of m earlier)) (state m earlier).outbox keyed st refl
    (emits m earlier h) (leaf_left m earlier h)

-- ---- an entry more

pub sent_heard : (me : ReplicaId) (o : List Item) (past : List diaries.Entry) (x : Message) → In (Heard x) (diary_sent me o past)
    → In (Heard x) past
sent_heard me [] past x h = h
sent_heard me (i ∷ rest) past x h = heard_before past (statements_by me i.message) x h

heard_more : (m : Maker) (s : Replica) (e : Entry) (now : Replica) (past : List diaries.Entry) → IsHeardSound m e → AreHeardSound m past
    → AreHeardSound m (diary_after m.id s (event_of e) now past)
heard_more m s (Entry.Heard origin y) now past h old x (inl q) = subst (IsSound m.roster m.ring) (same_heard y x q) h
heard_more m s (Entry.Heard origin y) now past h old x (inr i) = old x i
heard_more m s Entry.Proposed now past h old x i = old x i
heard_more m s Entry.Nudged now past h old x i = old x i
heard_more m s (Entry.Sent item) now past h old x i = old x (sent_heard m.id s.outbox past x i)
heard_more m s Entry.Marked now past h old x i = old x i
heard_more m s Entry.TimedOut now past h old x i = old x i
heard_more m s Entry.Executed now past h old x i = old x (heard_before_blocks past (drop (length s.rounds.blocks) now.rounds.blocks) x i)

pub may_be : (m : Maker) (e : Entry) → IsHeardSound m e → MayCome m.roster (event_of e)
may_be m (Entry.Heard origin x) h = shaped_from_sound m.roster m.ring x h
may_be m Entry.Proposed h = tt
may_be m Entry.Nudged h = tt
may_be m (Entry.Sent item) h = tt
may_be m Entry.Executed h = tt
may_be m Entry.Marked h = tt
may_be m Entry.TimedOut h = tt

pub stays_more : (m : Maker) (s : Replica) (past : List diaries.Entry) (e : Entry) → IsWithinLimits m.roster → IsTrue (is_replica m.roster m.id)
    → IsHeardSound m e
    → Stays m s past
    → Stays m (step m.roster m.id s (event_of e)).state
    (diary_after m.id s (event_of e) (step m.roster m.id s (event_of e)).state past)
stays_more m s past e limits member h st = record {
  member = st.member;
  related = step_keeps m.roster m.id s past (event_of e) limits member (may_be m e h) st.related;
  heard = heard_more m s e (step m.roster m.id s (event_of e)).state past h st.heard;
}

new_sound : (m : Maker) (earlier : List Entry) (past : List diaries.Entry) (w : Walk) (e : Entry) → m.fault ≡ None → IsKeyed m
    → Stays m (state m earlier) past → IsNext m earlier e
    → (q : Parcel) → In q (added m w e) → IsSoundParcel m q
new_sound m earlier past w e plain keyed st n q i =
    let of = added_bytes m w e q i in
    let sent = copies_are_sent m w e of.copy of.is_in in
    go sent.0 sent.1 (of.bytes_are ∙ ap (λ (f : Option Fault). spoiled f of.place of.copy.bytes) plain)
    (subst (λ (x : Entry). In of.copy (copies m w x)) sent.1 of.is_in) (subst (IsNext m earlier) sent.1 n)
  where
    go : (item : Item) → e ≡ Entry.Sent item → q.bytes ≡ (added_bytes m w e q i).copy.bytes
        → In (added_bytes m w e q i).copy (copies m w (Entry.Sent item)) → IsNext m earlier (Entry.Sent item) → IsSoundParcel m q
    go item same bytes inside next = record {
      message = item.message;
      sound = subst (λ (x : Item). IsSound m.roster m.ring x.message) (sym next.1) (next_sound m earlier past keyed st next.0);
      spelled = bytes ∙ plain_copy m w item (added_bytes m w e q i).copy plain inside;
    }

-- ---- the whole

abbrev AreSoundParcels : Maker → List Entry → Type 0
AreSoundParcels m journal = (q : Parcel) → In q (parcels_of m journal) → IsSoundParcel m q

parcels_from : (m : Maker) (earlier rest : List Entry) (past : List diaries.Entry) → m.fault ≡ None → IsWithinLimits m.roster
    → IsTrue (is_replica m.roster m.id) → IsKeyed m
    → IsMadeFrom m earlier rest → AreSound m rest → Stays m (state m earlier) past → AreSoundParcels m earlier → AreSoundParcels m (earlier ++ rest)
parcels_from m earlier [] past plain limits member keyed made sound st old = subst (AreSoundParcels m) (sym (append-nil earlier)) old
parcels_from m earlier (e ∷ rest) past plain limits member keyed made sound st old =
    let now = (step m.roster m.id (state m earlier) (event_of e)).state in
    let grown = diary_after m.id (state m earlier) (event_of e) now past in
    let st_now : Stays m (state m (earlier ++ e ∷ [])) grown =
    subst (λ (s : Replica). Stays m s grown) (sym (state_more m earlier e)) (stays_more m (state m earlier) past e limits member sound.0 st) in
    let all : AreSoundParcels m (earlier ++ e ∷ []) =
    λ q i. (elim (in_append_cases q (parcels_of m earlier) (added m (walk m earlier) e) (subst (In q) (parcels_more m earlier e) i)) [
      | inl k ↦ old q k
      | inr k ↦ new_sound m earlier past (walk m earlier) e plain keyed st made.0 q k
    ]) in
    subst (AreSoundParcels m) (append_assoc earlier (e ∷ []) rest)
    (parcels_from m (earlier ++ e ∷ []) rest grown plain limits member keyed made.1 sound.1 st_now all)

none_put : (m : Maker) → AreSoundParcels m []
unfolding walk
none_put m q i = absurd i

pub sound_parcels : ParcelLaw
sound_parcels m t plain limits member keyed kept q i =
    let first : Stays m (state m []) [] =
    subst (λ (s : Replica). Stays m s []) (sym (fresh_is m))
    (record { member = is_member m.roster m.id limits member; related = starts_related m.roster m.id limits member; heard = λ x h. absurd h }) in
    parcels_from m [] t.journal [] plain limits member keyed kept.replays kept.sound first (none_put m) q (subst (In q) kept.parcels i)
