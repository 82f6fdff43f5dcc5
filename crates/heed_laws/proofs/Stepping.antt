-- A replica stays heedful by each event.
use Rattle.std.proofs.Common.{◌≡◌, ℕ, zero, suc, false, if◌then◌else◌, ◌≤◌, ◌<◌, ◌+◌, ◌-◌, Bool, true, cond, List, [], ◌∷◌, ◌++◌, length, append-nil, ◌&&◌, nat_lt, Option, Some, None, is_some, Result, Ok, Err, ◌⊎◌, inl, inr, refl, sym, ap, subst, ◌∙◌, arith}
use Rattle.std.specs.Prelude.{slice_index, drop, replicate}
use Rattle.std.specs.Bool.{IsTrue}
use Rattle.std.specs.List.{slice_get}
use Rattle.std.specs.Option.{IsSome, option_and_then}
use Rattle.std.proofs.lemmas.Bool.{cases_lt, cases_eq}
use Rattle.std.proofs.Math.Seq.{drop-length}
use Rattle.fab_base.specs.Limits.{Roster, IsWithinLimits}
use Rattle.fab_base.specs.Roster.{is_replica, size_of, home_of}
use Rattle.fab_base.specs.Table.{last_of}
use Rattle.fab_base.specs.declared.ids.ReplicaId.{ReplicaId}
use Rattle.fab_base.specs.declared.ids.ClientId.{ClientId}
use Rattle.fab_base.specs.declared.messages.Vote.{Vote}
use Rattle.fab_base.specs.declared.messages.CommitCert.{CommitCert}
use Rattle.fab_base.specs.declared.messages.Message.{Message}
use Rattle.fab_base.specs.declared.answers.Item.{Item}
use Rattle.fab_base.specs.declared.answers.Take.{Take}
use Rattle.fab_rules.specs.declared.blocks.Block.{Block}
use Rattle.fab_rules.specs.Lists.{In}
use Rattle.fab_rules.specs.Shape.{is_primary, IsShaped}
use Rattle.fab_rules.specs.Diary.{Entry, Heard, Said, Did}
use Rattle.fab_rules.specs.Ledger.{RunBlock, start_of, state_after_blocks}
use Rattle.fab_rules.specs.Growth.{after_saying}
use Rattle.fab_rules.proofs.Lists.{in_append_cases}
use Rattle.fab_rules.proofs.Chains.{state_after_blocks-append}
use Rattle.fab_rules.proofs.Growing.{grown_by_heard, waiting_has_grown}
use Rattle.fab_rules.proofs.Saying.{same_heard, heard_before, still_heard, still_said, now_said, said_cases, after_saying-both}
use Rattle.pbft_slots.specs.declared.slot.Slot.{Slot}
use Rattle.pbft_slots.specs.declared.slot.Proposal.{Proposal}
use Rattle.pbft_slots.specs.Slots.{empty_slot}
use Rattle.pbft_slots.specs.Window.{Window, empty_window, place_in, slot_by, proposal_at}
use Rattle.fab_machine.specs.State.{Rounds, Replica, Stepped, fresh}
use Rattle.fab_machine.specs.Items.{is_own, statements_by, statements_in}
use Rattle.fab_rules.specs.Statements.{signer_of, unsigned}
use Rattle.fab_machine.specs.Voting.{Told}
use Rattle.fab_machine.specs.Hearing.{hear}
use Rattle.fab_machine.specs.Proposing.{propose}
use Rattle.fab_machine.specs.Checkpointing.{checkpoint}
use Rattle.fab_machine.specs.Serving.{stamps_after}
use Rattle.fab_machine.specs.Rounds.{round_of, certificate_for, keep, knows_others, next_round, with_round, chain}
use Rattle.fab_machine.specs.Step.{Event, hear_step, emit_step, note_item, own_block, after_noting, execute_step, step}
use Rattle.fab_machine.specs.Joining.{after_out, after_outs, after_told}
use Rattle.fab_machine.specs.Sharing.{with_certificate, share_item, all_recipients, shared}
use Rattle.fab_machine.specs.Diaries.{MayCome, diary_sent, diary_did, diary_after, state_from, diary_from, state_of, diary_of}
use Rattle.fab_machine.specs.Relation.{full_of, AreRelated, after_puts}
use Rattle.fab_machine.specs.declared.outs.Out.{Out}
use Rattle.fab_machine.proofs.Members.{IsMember, is_member}
use Rattle.fab_machine.proofs.Blocks.{grown_by_blocks}
use Rattle.fab_machine.proofs.Quorums.{prepared_slot, committed_slot}
use Rattle.fab_machine.proofs.Keeping.{first_stays, is_kept, is_whole}
use Rattle.fab_machine.proofs.Starting.{starts_state}
use Rattle.fab_machine.proofs.Stepping as machine
use Rattle.fab_machine.proofs.Stepping.{full_put}
use Rattle.fab_machine.proofs.Telling.{own}
use Rattle.fab_machine.proofs.Steps.{step_keeps, starts_related}
use Rattle.heed_laws.specs.Heeding.{IsHeeded, AreHeeded, formed_by, IsOutgoing, number_said, IsPlainMessage, IsPlain, AreHeedful, IsHeedful, IsAskedFor}
use Rattle.heed_laws.proofs.Alike.{SaysAll, AreAlike, voted_alike, proposed_alike, marked_alike, heeded_alike}
use Rattle.heed_laws.proofs.Counting.{IsFine, IsHeededOf, asked_more, fine_more}
use Rattle.heed_laws.proofs.Hearing.{hear_heeded}
use Rattle.heed_laws.proofs.Moving.{checkpoint_heeded}
use Rattle.heed_laws.proofs.Serving.{propose_heeded, rises_blocks, served_heeded}

-- ---- how much is said

pub said_saying : (diary : List Entry) (items : List Message) → number_said (after_saying diary items) ≡ number_said diary + length items
said_saying diary [] = omega arith
said_saying diary (m ∷ rest) = omega (arith, said_saying (Said m ∷ diary) rest)

pub said_did : (diary : List Entry) (blocks : List Block) → number_said (diary_did diary blocks) ≡ number_said diary
said_did diary [] = refl
said_did diary (b ∷ rest) = said_did (Did b ∷ diary) rest

-- ---- certificates are kept

some_stays : (t : Rounds) (k : CommitCert) (round cluster : ℕ) → IsSome (certificate_for t.certificates round cluster)
    → IsSome (certificate_for (keep t k).certificates round cluster)
some_stays t k round cluster h = go (certificate_for t.certificates round cluster) refl h
  where
    go : (o : Option CommitCert) → certificate_for t.certificates round cluster ≡ o → IsSome o → IsSome (certificate_for (keep t k).certificates round cluster)
    go None e q = cc
    go (Some first) e q = ap is_some (first_stays t k first round cluster e)

now_kept : (t : Rounds) (k : CommitCert) → (round_of k ≤ t.executed → IsSome (certificate_for t.certificates (round_of k) k.cluster))
    → IsSome (certificate_for (keep t k).certificates (round_of k) k.cluster)
now_kept t k past = elim (cases_lt t.executed (round_of k)) [
  | inr over ↦ some_stays t k (round_of k) k.cluster (past over)
  | inl above ↦ go above (certificate_for t.certificates (round_of k) k.cluster) refl
]
  where
    go : t.executed < round_of k → (o : Option CommitCert) → certificate_for t.certificates (round_of k) k.cluster ≡ o
        → IsSome (certificate_for (keep t k).certificates (round_of k) k.cluster)
    go above None e = ap is_some (is_kept t k above e)
    go above (Some first) e = ap is_some (first_stays t k first (round_of k) k.cluster e)

-- ---- what local ordering brings about

-- with one cluster nothing is shared
none_shared : (r : Roster) (me : ReplicaId) (view : ℕ) (k : CommitCert) → length r.sizes ≡ 1 → shared r me view k ≡ []
none_shared r me view k one =
    ap (λ n. cond (is_primary r me.cluster view me.index && nat_lt 1 n) (share_item k (all_recipients r me (round_of k)) ∷ []) []) one
    ∙ none (is_primary r me.cluster view me.index)
  where
    none : (b : Bool) → cond (b && false) (share_item k (all_recipients r me (round_of k)) ∷ []) [] ≡ []
    none true = refl
    none false = refl

certified_is : (r : Roster) (me : ReplicaId) (s : Replica) (k : CommitCert) → length r.sizes ≡ 1 → after_out r me s (Out.Certified k) ≡ with_certificate s k
certified_is r me s k one =
    ap (λ items. record (with_certificate s k) { outbox = s.outbox ++ items }) (none_shared r me s.local.view k one)
    ∙ ap (λ items. record (with_certificate s k) { outbox = items }) (append-nil s.outbox)

-- all but local ordering
record IsBeside (r : Roster) (me : ReplicaId) (s : Replica) (formed : List CommitCert) : Type 0 where
  kept : (k : CommitCert) → In k formed → IsSome (certificate_for s.rounds.certificates (round_of k) k.cluster)
  executed : (round : ℕ) → 1 ≤ round → round ≤ s.rounds.executed → IsSome (certificate_for s.rounds.certificates round me.cluster)
  outgoing : (item : Item) → In item s.outbox → IsOutgoing r me item

-- what is said of a message that was asked was asked
said_asked : (me : ReplicaId) (full : List Entry) (y m : Message) → In m (statements_by me y) → IsAskedFor full y → IsAskedFor full m
said_asked me full y m h asked = go (is_own me (signer_of y)) h
  where
    bare : (y : Message) → IsAskedFor full y → IsAskedFor full (unsigned y)
    bare (Message.PrePrepare p) a = a
    bare (Message.Request p) a = tt
    bare (Message.Prepare p) a = tt
    bare (Message.Commit p) a = tt
    bare (Message.Checkpoint p) a = tt
    bare (Message.ViewChange p) a = tt
    bare (Message.NewView p) a = tt
    bare (Message.Drvc p) a = tt
    bare (Message.Rvc p) a = tt
    bare (Message.ReplyNote p) a = tt
    bare (Message.Share p) a = tt
    bare (Message.Fetch p) a = tt

    go : (b : Bool) → In m (cond b (unsigned y ∷ []) []) → IsAskedFor full m
    go true (inl e) = subst (IsAskedFor full) e (bare y asked)
    go true (inr none) = absurd none
    go false none = absurd none

outs_heed : (r : Roster) (me : ReplicaId) (s : Replica) (diary : List Entry) (outs : List Out) (formed : List CommitCert) → length r.sizes ≡ 1
    → ((o : Out) → In o outs → IsFine r me (full_of me s diary) o) → IsBeside r me s formed → s.rounds.executed ≤ number_said (full_of me s diary)
    → ((m : Message) → In (Said m) (full_of me s diary) → IsAskedFor (full_of me s diary) m)
    → AreHeeded r me s.local (formed_by formed outs) (after_puts me (full_of me s diary) outs) []
    → AreHeedful r me (after_outs r me s outs) (formed_by formed outs) (full_of me (after_outs r me s outs) diary)
outs_heed r me s diary [] formed one fine beside noted asked are =
    record { local = are; kept = beside.kept; executed = beside.executed; outgoing = beside.outgoing; noted = noted; asked = asked }
outs_heed r me s diary (Out.Put item ∷ rest) formed one fine beside noted asked are =
    let now = after_out r me s (Out.Put item) in
    let e = full_put me s diary item in
    let full = full_of me s diary in
    let grown = after_saying full (statements_by me item.message) in
    let hears : (x : Message) → In (Heard x) full → In (Heard x) (full_of me now diary) = λ x h. subst (In (Heard x)) (sym e) (still_heard full (statements_by me item.message) x h) in
    let first = fine (Out.Put item) (inl refl) in
    let still : (m : Message) → In (Said m) (full_of me now diary) → IsAskedFor (full_of me now diary) m = λ m h.
    (elim (said_cases full (statements_by me item.message) m (subst (In (Said m)) e h)) [
      | inl old ↦ asked_more full (full_of me now diary) m hears (asked m old)
      | inr new ↦ asked_more full (full_of me now diary) m hears (said_asked me full item.message m new first.1)
    ]) in
    outs_heed r me now diary rest formed one (λ o h. fine_more r me full (full_of me now diary) o hears (fine o (inr h))) (record {
      kept = beside.kept;
      executed = beside.executed;
      outgoing = λ x h. (elim (in_append_cases x s.outbox (item ∷ []) h) [
        | inl old ↦ beside.outgoing x old
        | inr (inl same) ↦ subst (IsOutgoing r me) same first.0
        | inr (inr none) ↦ absurd none
      ]);
    })
    (omega (arith, noted, ap number_said e, said_saying (full_of me s diary) (statements_by me item.message))) still
    (subst (λ f. AreHeeded r me s.local (formed_by formed rest) (after_puts me f rest) []) (sym e) are)
outs_heed r me s diary (Out.Clear ∷ rest) formed one fine beside noted asked are = absurd (fine Out.Clear (inl refl))
outs_heed r me s diary (Out.Entered base ∷ rest) formed one fine beside noted asked are = absurd (fine (Out.Entered base) (inl refl))
outs_heed r me s diary (Out.Certified k ∷ rest) formed one fine beside noted asked are =
    let here = fine (Out.Certified k) (inl refl) in
    let now = with_certificate s k in
    subst (λ (x : Replica). AreHeedful r me (after_outs r me x rest) (formed_by (k ∷ formed) rest) (full_of me (after_outs r me x rest) diary)) (sym (certified_is r me s k one))
    (outs_heed r me now diary rest (k ∷ formed) one (λ o h. fine o (inr h)) (record {
      kept = λ c h. (elim h as (λ _. IsSome (certificate_for now.rounds.certificates (round_of c) c.cluster)) [
        | inl same ↦ subst (λ x. IsSome (certificate_for now.rounds.certificates (round_of x) x.cluster)) same
            (now_kept s.rounds k (λ past. subst (λ j. IsSome (certificate_for s.rounds.certificates (round_of k) j)) (sym here.0) (beside.executed (round_of k) here.1 past)))
        | inr old ↦ some_stays s.rounds k (round_of c) c.cluster (beside.kept c old)
      ]);
      executed = λ round from upto. some_stays s.rounds k round me.cluster (beside.executed round from upto);
      outgoing = beside.outgoing;
    }) noted asked are)

told_heedful : (r : Roster) (me : ReplicaId) (s : Replica) (diary : List Entry) (t : Told) (formed : List CommitCert) → length r.sizes ≡ 1 → IsBeside r me s formed
    → s.rounds.executed ≤ number_said (full_of me s diary) → ((m : Message) → In (Said m) (full_of me s diary) → IsAskedFor (full_of me s diary) m)
    → IsHeededOf r me t.local t.outs formed (full_of me s diary) []
    → IsHeedful r me (after_told r me s t).state diary
told_heedful r me s diary t formed one beside noted asked of =
    record {
      formed = formed_by formed t.outs;
      are = outs_heed r me (record s { local = t.local }) diary t.outs formed one of.fine
          (record { kept = beside.kept; executed = beside.executed; outgoing = beside.outgoing }) noted asked of.are;
    }

beside_of : (r : Roster) (me : ReplicaId) (s : Replica) (formed : List CommitCert) (full : List Entry) → AreHeedful r me s formed full → IsBeside r me s formed
beside_of r me s formed full h = record { kept = h.kept; executed = h.executed; outgoing = h.outgoing }

-- ---- Hear

hear_heedful : (r : Roster) (me : ReplicaId) (s : Replica) (diary : List Entry) (m : Message) → length r.sizes ≡ 1 → IsMember r me → IsShaped r m → AreRelated r me s diary
    → IsHeedful r me s diary → IsHeedful r me (after_told r me s (hear r me s.local m)).state (Heard m ∷ diary)
hear_heedful r me s diary m one member fine rel h =
    let items = statements_in me s.outbox in
    let next = Heard m ∷ diary in
    let full = after_saying diary items in
    let now = after_saying next items in
    let g = waiting_has_grown diary next items (grown_by_heard diary m) in
    let local = (machine.hears r me s diary m fine rel.facts).local in
    let says : SaysAll full now = λ x q. (elim (said_cases diary items x q) [
      | inl old ↦ still_said next items x (inr old)
      | inr waits ↦ now_said next items x waits
    ]) in
    let all = h.are.local in
    let before : AreHeeded r me s.local h.formed now (m ∷ []) = record {
      calm = all.calm;
      heeded = λ x q. (elim (heard_before next items x q) as (λ _. IsHeeded r me s.local.slots s.local.kept s.local.waiting s.local.last s.local.checkpoints x ⊎ In x (m ∷ [])) [
        | inl e ↦ inr (inl (same_heard m x e))
        | inr k ↦ elim (all.heeded x (still_heard diary items x k)) [ inl old ↦ inl old | inr none ↦ absurd none ]
      ]);
      voted = voted_alike me s.local.slots h.formed full now says all.voted;
      proposed = proposed_alike me s.local.slots.low s.local.next s.local.proposed full now says all.proposed;
      marked = marked_alike r me s.local.executed s.local.due full now says all.marked;
    } in
    told_heedful r me s next (hear r me s.local m) h.formed one (beside_of r me s h.formed full h.are)
    (omega (arith, h.are.noted, said_saying diary items, said_saying next items))
    (λ x q. asked_more full now x g.heard (h.are.asked x (g.said x q)))
    (hear_heeded r me s.local m h.formed now [] member local (still_heard next items m (inl refl)) before)

-- a plain message goes to local ordering, which hears it as it is
pub hear_plain : (r : Roster) (me : ReplicaId) (s : Replica) (m : Message) → IsPlainMessage m → hear_step r me s m ≡ after_told r me s (hear r me s.local m)
hear_plain r me s (Message.Request x) plain = refl
hear_plain r me s (Message.PrePrepare x) plain = refl
hear_plain r me s (Message.Prepare x) plain = refl
hear_plain r me s (Message.Commit x) plain = refl
hear_plain r me s (Message.Checkpoint x) plain = refl
hear_plain r me s (Message.ReplyNote x) plain = refl
hear_plain r me s (Message.ViewChange x) plain = absurd plain
hear_plain r me s (Message.NewView x) plain = absurd plain
hear_plain r me s (Message.Drvc x) plain = absurd plain
hear_plain r me s (Message.Rvc x) plain = absurd plain
hear_plain r me s (Message.Share x) plain = absurd plain
hear_plain r me s (Message.Fetch x) plain = absurd plain

-- ---- Emit

emit_heedful : (r : Roster) (me : ReplicaId) (s : Replica) (diary : List Entry) (sig : List ℕ) → IsHeedful r me s diary
    → IsHeedful r me (emit_step me s sig s.outbox).state (diary_sent me s.outbox diary)
emit_heedful r me s diary sig h = go s.outbox refl
  where
    go : (o : List Item) → s.outbox ≡ o → IsHeedful r me (emit_step me s sig o).state (diary_sent me o diary)
    go [] e = h
    go (item ∷ rest) e =
        let same : full_of me s diary ≡ after_saying (after_saying diary (statements_by me item.message)) (statements_in me rest) =
        ap (λ o. after_saying diary (statements_in me o)) e ∙ after_saying-both diary (statements_by me item.message) (statements_in me rest) in
        let now : AreHeedful r me (record s { outbox = rest }) h.formed (full_of me s diary) = record {
          local = h.are.local;
          kept = h.are.kept;
          executed = h.are.executed;
          outgoing = λ x q. h.are.outgoing x (subst (In x) (sym e) (inr q));
          noted = h.are.noted;
          asked = h.are.asked;
        } in
        record { formed = h.formed; are = subst (λ f. AreHeedful r me (record s { outbox = rest }) h.formed f) same now }

-- ---- Execute

-- blocks say nothing, and nothing is heard by them
heard_did : (diary : List Entry) (blocks : List Block) (m : Message) → In (Heard m) (diary_did diary blocks) → In (Heard m) diary
heard_did diary [] m h = h
heard_did diary (b ∷ rest) m h = elim (heard_did (Did b ∷ diary) rest m h) [ inl e ↦ absurd (never b m e) | inr k ↦ k ]
  where
    never : (b : Block) (m : Message) → Did b ≡ Heard m → ⊥
    never b m e = cc

pub said_still_did : (diary : List Entry) (blocks : List Block) (m : Message) → In (Said m) diary → In (Said m) (diary_did diary blocks)
said_still_did diary [] m h = h
said_still_did diary (b ∷ rest) m h = said_still_did (Did b ∷ diary) rest m (inr h)

executed_heedful : (r : Roster) (me : ReplicaId) (s : Replica) (diary : List Entry) (blocks : List Block) (ran : RunBlock) → IsMember r me
    → next_round (length r.sizes) s.rounds ≡ Ok blocks → AreRelated r me s diary
    → AreRelated r me (after_noting r me s (with_round s.rounds blocks) (Some ran)) (diary_did diary blocks) → IsHeedful r me s diary
    → IsHeedful r me (after_noting r me s (with_round s.rounds blocks) (Some ran)) (diary_did diary blocks)
executed_heedful r me s diary blocks ran member found rel after h =
    let next = diary_did diary blocks in
    let items = statements_in me s.outbox in
    let round = s.rounds.executed + 1 in
    let rounds = with_round s.rounds blocks in
    let item = note_item me round ran in
    let now = after_noting r me s rounds (Some ran) in
    let full = full_of me s diary in
    let mid = full_of me s next in
    let e = full_put me s next item in
    let alike : AreAlike full mid = record {
      heard = λ m q. still_heard diary items m (heard_did diary blocks m (heard_before next items m q));
      said = λ m q. (elim (said_cases diary items m q) [
        | inl old ↦ still_said next items m (said_still_did diary blocks m old)
        | inr waits ↦ now_said next items m waits
      ]);
    } in
    let more : AreAlike mid (full_of me now next) = record {
      heard = λ m q. heard_before mid (statements_by me item.message) m (subst (In (Heard m)) e q);
      said = λ m q. subst (In (Said m)) (sym e) (still_said mid (statements_by me item.message) m q);
    } in
    let g = waiting_has_grown diary next items (grown_by_blocks diary blocks) in
    let says_less : (x : Message) → In (Said x) mid → In (Said x) full = λ x q. g.said x q in
    let hears : (x : Message) → In (Heard x) full → In (Heard x) (full_of me now next) = λ x q.
    subst (In (Heard x)) (sym e) (still_heard mid (statements_by me item.message) x (g.heard x q)) in
    let rises : (client : ClientId) → home_of r client ≡ me.cluster
    → slice_index s.local.last client.number ≤ slice_index (stamps_after s.local.last ran.block.batch ran.outcomes) client.number = λ client home.
    omega (
      arith,
      rel.facts.rounds.stamps client home,
      after.facts.rounds.stamps client home,
      ap (λ t. last_of t client.number) (state_after_blocks-append (start_of r) s.rounds.blocks blocks),
      rises_blocks (state_after_blocks (start_of r) s.rounds.blocks) blocks client.number,
    ) in
    let served_now = served_heeded r me s.local round ran.block.batch ran.outcomes (chain rounds) h.formed full (ap (λ n. n + 1) rel.facts.rounds.told) rises h.are.local in
    let first : AreHeeded r me now.local h.formed mid [] = heeded_alike r me now.local h.formed full mid [] alike served_now in
    let whole = is_whole (length r.sizes) s.rounds blocks found in
    let mine : length (statements_by me item.message) ≡ 1 = ap (λ b. length (cond b (item.message ∷ []) [])) (own me) in
    record {
      formed = h.formed;
      are = record {
        local = heeded_alike r me now.local h.formed mid (full_of me now next) [] more first;
        kept = h.are.kept;
        executed = λ n from upto. (elim (cases_eq n round) [
          | inr other ↦ h.are.executed n from (omega (arith, upto, other))
          | inl same ↦ (let k = whole.1 (me.cluster - 1) (omega (arith, member.from, member.upto)) in
              let place : 1 + (me.cluster - 1) ≡ me.cluster = omega (arith, member.from) in
              ap (λ j. is_some (certificate_for s.rounds.certificates j me.cluster)) same
              ∙ (ap (λ c. is_some (certificate_for s.rounds.certificates round c)) (sym place) ∙ ap is_some k.1))
        ]);
        outgoing = λ x q. (elim (in_append_cases x s.outbox (item ∷ []) q) [
          | inl old ↦ h.are.outgoing x old
          | inr (inl same) ↦ subst (IsOutgoing r me) same (record { own = own me; plain = tt; to = inr (tt, refl) })
          | inr (inr none) ↦ absurd none
        ]);
        noted = omega (
          arith,
          h.are.noted,
          said_saying diary items,
          said_saying next items,
          said_did diary blocks,
          ap number_said e,
          said_saying mid (statements_by me item.message),
          mine,
        );
        asked = λ x q. (elim (said_cases mid (statements_by me item.message) x (subst (In (Said x)) e q)) as (λ _. IsAskedFor (full_of me now next) x) [
          | inl old ↦ asked_more full (full_of me now next) x hears (h.are.asked x (says_less x old))
          | inr new ↦ said_asked me (full_of me now next) item.message x new tt
        ]);
      };
    }

-- what the ledger gained are the blocks of the round
pub drop_front : {X : Type 0} (xs ys : List X) → drop (length xs) (xs ++ ys) ≡ ys
drop_front [] ys = refl
drop_front (x ∷ xs) ys = drop_front xs ys

execute_heedful : (r : Roster) (me : ReplicaId) (s : Replica) (diary : List Entry) → IsMember r me → AreRelated r me s diary
    → (let now = (execute_step r me s (next_round (length r.sizes) s.rounds)).state in
    AreRelated r me now (diary_after me s Event.Execute now diary) → IsHeedful r me s diary → IsHeedful r me now (diary_after me s Event.Execute now diary))
execute_heedful r me s diary member rel after h = go (next_round (length r.sizes) s.rounds) refl after
  where
    by : (blocks : List Block) → next_round (length r.sizes) s.rounds ≡ Ok blocks → (o : Option RunBlock) → (let now = after_noting r me s (with_round s.rounds blocks) o in
        AreRelated r me now (diary_did diary (drop (length s.rounds.blocks) now.rounds.blocks)) → IsHeedful r me now (diary_did diary (drop (length s.rounds.blocks) now.rounds.blocks)))
    by blocks e None a = absurd (omega (arith, a.facts.rounds.told, rel.facts.rounds.told))
    by blocks e (Some ran) a =
        let now = after_noting r me s (with_round s.rounds blocks) (Some ran) in
        let gained = drop_front s.rounds.blocks blocks in
        subst (λ l. IsHeedful r me now (diary_did diary l)) (sym gained)
        (executed_heedful r me s diary blocks ran member e rel (subst (λ l. AreRelated r me now (diary_did diary l)) gained a) h)

    go : (o : Result (List Block) ℕ) → next_round (length r.sizes) s.rounds ≡ o → (let now = (execute_step r me s o).state in
        AreRelated r me now (diary_did diary (drop (length s.rounds.blocks) now.rounds.blocks)) → IsHeedful r me now (diary_did diary (drop (length s.rounds.blocks) now.rounds.blocks)))
    go (Err missing) e a = subst (λ l. IsHeedful r me s (diary_did diary l)) (sym (drop-length s.rounds.blocks)) h
    go (Ok blocks) e a = by blocks e (own_block r me (with_round s.rounds blocks)) a

-- ---- any event

proposing_heedful : (r : Roster) (me : ReplicaId) (s : Replica) (diary : List Entry) (nudged : Bool) → length r.sizes ≡ 1 → AreRelated r me s diary → IsHeedful r me s diary
    → IsHeedful r me (step r me s (if nudged then Event.Nudge else Event.Batch)).state diary
proposing_heedful r me s diary true one rel h =
    told_heedful r me s diary (propose r me s.local true (knows_others me.cluster s.rounds.certificates s.local.next)) h.formed one (beside_of r me s h.formed _ h.are) h.are.noted h.are.asked
    (propose_heeded r me s.local true (knows_others me.cluster s.rounds.certificates s.local.next) h.formed (full_of me s diary) rel.facts.local h.are.local)
proposing_heedful r me s diary false one rel h =
    told_heedful r me s diary (propose r me s.local false (knows_others me.cluster s.rounds.certificates s.local.next)) h.formed one (beside_of r me s h.formed _ h.are) h.are.noted h.are.asked
    (propose_heeded r me s.local false (knows_others me.cluster s.rounds.certificates s.local.next) h.formed (full_of me s diary) rel.facts.local h.are.local)

pub step_heedful : (r : Roster) (me : ReplicaId) (s : Replica) (diary : List Entry) (e : Event) → IsWithinLimits r → length r.sizes ≡ 1
    → IsTrue (is_replica r me) → MayCome r e → IsPlain e
    → AreRelated r me s diary → IsHeedful r me s diary → IsHeedful r me (step r me s e).state (diary_after me s e (step r me s e).state diary)
step_heedful r me s diary (Event.Hear m) limits one known may plain rel h =
    subst (λ (t : Stepped). IsHeedful r me t.state (Heard m ∷ diary)) (sym (hear_plain r me s m plain))
    (hear_heedful r me s diary m one (is_member r me limits known) may rel h)
step_heedful r me s diary Event.Batch limits one known may plain rel h = proposing_heedful r me s diary false one rel h
step_heedful r me s diary Event.Nudge limits one known may plain rel h = proposing_heedful r me s diary true one rel h
step_heedful r me s diary (Event.Emit sig) limits one known may plain rel h = emit_heedful r me s diary sig h
step_heedful r me s diary Event.Execute limits one known may plain rel h =
    execute_heedful r me s diary (is_member r me limits known) rel (step_keeps r me s diary Event.Execute limits known tt rel) h
step_heedful r me s diary Event.Checkpoint limits one known may plain rel h =
    told_heedful r me s diary (checkpoint r me s.local) h.formed one (beside_of r me s h.formed _ h.are) h.are.noted h.are.asked
    (checkpoint_heeded r me s.local h.formed (full_of me s diary) (is_member r me limits known) rel.facts.rules rel.facts.local h.are.local)
step_heedful r me s diary Event.Timeout limits one known may plain rel h = absurd plain

-- ---- at the start

empty_there : (n size : ℕ) (place : ℕ) (t : Slot Vote) → slice_get (replicate size (empty_slot n)) place ≡ Some t → t ≡ empty_slot n
empty_there n zero place t h = cc
empty_there n (suc size) zero t h = cc
empty_there n (suc size) (suc place) t h = empty_there n size place t h

none_proposed : (n size slot : ℕ) (p : Proposal) → proposal_at {K = Vote} (empty_window n size) slot ≡ Some p → ⊥
none_proposed n size slot p h = go (place_in {K = Vote} (empty_window n size) slot) h
  where
    at : (o : Option (Slot Vote)) (place : ℕ) → slice_get (replicate size (empty_slot n)) place ≡ o → option_and_then (λ s. s.proposal) o ≡ Some p → ⊥
    at None place e q = cc
    at (Some t) place e q = let none = ap (λ s. s.proposal) (empty_there n size place t e) in cc

    go : (place : Result ℕ Take) → option_and_then (λ s. s.proposal) (slot_by {K = Vote} (replicate size (empty_slot n)) place) ≡ Some p → ⊥
    go (Err refused) q = cc
    go (Ok place) q = at (slice_get (replicate size (empty_slot n)) place) place refl q

pub starts_heedful : (r : Roster) (me : ReplicaId) → IsWithinLimits r → IsTrue (is_replica r me) → IsHeedful r me (fresh r me) []
starts_heedful r me limits known =
    let member = is_member r me limits known in
    let window = (starts_state r me member).opened.window in
    let w : Window Vote = empty_window (size_of r me.cluster) r.window in
    record {
      formed = [];
      are = record {
        local = record {
          calm = record { view_is = refl; calm = refl; low_upto = omega arith };
          heeded = λ m h. absurd h;
          voted = record {
            prepares = λ s p h. absurd (none_proposed (size_of r me.cluster) r.window s p h);
            commits = λ s d h. (let a = prepared_slot w s d window h in
                absurd (none_proposed (size_of r me.cluster) r.window s a.agreed.proposal (ap (option_and_then (λ t. t.proposal)) a.at_is ∙ a.agreed.is_given)));
            certified = λ s d h. (let a = committed_slot w s d window h in
                absurd (none_proposed (size_of r me.cluster) r.window s a.agreed.proposal (ap (option_and_then (λ t. t.proposal)) a.at_is ∙ a.agreed.is_given)));
          };
          proposed = record { each = λ s from upto. absurd (omega (arith, from, upto)); below = λ p h. absurd h };
          marked = λ round from upto met. absurd (omega (arith, from, upto));
        };
        kept = λ k h. absurd h;
        executed = λ round from upto. absurd (omega (arith, from, upto));
        outgoing = λ item h. absurd h;
        noted = omega arith;
        asked = λ m h. absurd h;
      };
    }

-- ---- many events

record AreBoth (r : Roster) (me : ReplicaId) (s : Replica) (diary : List Entry) : Type 0 where
  related : AreRelated r me s diary
  heedful : IsHeedful r me s diary

related_from : (r : Roster) (me : ReplicaId) (s : Replica) (diary : List Entry) (events : List Event) → IsWithinLimits r → IsTrue (is_replica r me)
    → ((e : Event) → In e events → MayCome r e) → AreRelated r me s diary → AreRelated r me (state_from r me s events) (diary_from r me s diary events)
related_from r me s diary [] limits known may rel = rel
related_from r me s diary (e ∷ rest) limits known may rel =
    let now = (step r me s e).state in
    related_from r me now (diary_after me s e now diary) rest limits known (λ x h. may x (inr h)) (step_keeps r me s diary e limits known (may e (inl refl)) rel)

pub events_related : (r : Roster) (me : ReplicaId) (events : List Event) → IsWithinLimits r → IsTrue (is_replica r me) → ((e : Event) → In e events → MayCome r e)
    → AreRelated r me (state_of r me events) (diary_of r me events)
events_related r me events limits known may = related_from r me (fresh r me) [] events limits known may (starts_related r me limits known)

abbrev pub ArePlain : List Event → Type 0
ArePlain events = (e : Event) → In e events → IsPlain e

events_keep : (r : Roster) (me : ReplicaId) (s : Replica) (diary : List Entry) (events : List Event) → IsWithinLimits r → length r.sizes ≡ 1
    → IsTrue (is_replica r me) → ((e : Event) → In e events → MayCome r e) → ArePlain events → AreBoth r me s diary
    → AreBoth r me (state_from r me s events) (diary_from r me s diary events)
events_keep r me s diary [] limits one known may plain both = both
events_keep r me s diary (e ∷ rest) limits one known may plain both =
    let now = (step r me s e).state in
    events_keep r me now (diary_after me s e now diary) rest limits one known (λ x h. may x (inr h)) (λ x h. plain x (inr h)) (record {
      related = step_keeps r me s diary e limits known (may e (inl refl)) both.related;
      heedful = step_heedful r me s diary e limits one known (may e (inl refl)) (plain e (inl refl)) both.related both.heedful;
    })

pub events_heedful : (r : Roster) (me : ReplicaId) (events : List Event) → IsWithinLimits r → length r.sizes ≡ 1 → IsTrue (is_replica r me)
    → ((e : Event) → In e events → MayCome r e) → ArePlain events → IsHeedful r me (state_of r me events) (diary_of r me events)
events_heedful r me events limits one known may plain =
    (events_keep r me (fresh r me) [] events limits one known may plain (record { related = starts_related r me limits known; heedful = starts_heedful r me limits known })).heedful
