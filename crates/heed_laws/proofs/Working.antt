-- Each move puts a statement or raises the low mark.
use Rattle.std.proofs.Common.{◌≡◌, ℕ, zero, suc, ◌≤◌, ◌+◌, ◌%◌, Bool, true, false, not, cond, ◌||◌, nat_eq, nat_lt, List, [], ◌∷◌, ◌++◌, take, drop, length, length-append, Option, Some, None, inl, inr, refl, sym, ap, subst, ◌∙◌, arith}
use Rattle.std.specs.Prelude.{Result, Ok, Err}
use Rattle.std.proofs.lemmas.Grind.{flat_map-append}
use Rattle.fab_base.specs.Limits.{Roster}
use Rattle.fab_base.specs.Roster.{size_of}
use Rattle.fab_base.specs.declared.limits.TheConstants.{GREATEST_NUMBER}
use Rattle.fab_base.specs.declared.ids.ReplicaId.{ReplicaId}
use Rattle.fab_base.specs.declared.ids.Hash32.{Hash32}
use Rattle.fab_base.specs.declared.messages.Vote.{Vote}
use Rattle.fab_base.specs.declared.messages.PrePrepare.{PrePrepare}
use Rattle.fab_base.specs.declared.messages.Message.{Message}
use Rattle.fab_base.specs.declared.answers.Answer.{Answer}
use Rattle.fab_base.specs.declared.answers.Item.{Item}
use Rattle.fab_base.specs.declared.answers.Take.{Take}
use Rattle.fab_rules.specs.Digests.{batch_digest}
use Rattle.fab_rules.specs.declared.blocks.Block.{Block}
use Rattle.fab_rules.specs.Diary.{Entry, Heard}
use Rattle.fab_rules.specs.Ledger.{RunBlock}
use Rattle.fab_rules.specs.Shape.{is_primary, IsShaped}
use Rattle.fab_rules.specs.Lists.{In, greatest}
use Rattle.fab_rules.specs.Statements.{signer_of, unsigned}
use Rattle.fab_rules.specs.Growth.{after_saying}
use Rattle.fab_rules.proofs.Saying.{still_heard, after_saying-both}
use Rattle.pbft_slots.specs.Window.{Window, high, after_pre_prepare, after_prepare, after_commit, pre_prepare_answer, prepare_answer, commit_answer}
use Rattle.checkpoint_core.specs.Checkpoints.{vote_answer, after_vote}
use Rattle.fab_machine.specs.State.{Due, Local, Replica, Stepped}
use Rattle.fab_machine.specs.Items.{is_own, statements_by, statements_in, proposal_of, cluster_of}
use Rattle.fab_machine.specs.Voting.{Told, unmoved, newly_prepared, keep_prepared, after_count, vote_refusal, proposal_told, prepare_told, commit_told, proposal_by, prepare_by, commit_by}
use Rattle.fab_machine.specs.Hearing.{hear}
use Rattle.fab_machine.specs.Proposing.{eligible, proposed, is_due, propose_in, propose}
use Rattle.fab_machine.specs.Checkpointing.{after_move, move_to, checkpoint, checkpoint_by, voted, moved, stable_rounds, checkpoint_of}
use Rattle.fab_machine.specs.Rounds.{knows_others, next_round, with_round}
use Rattle.fab_machine.specs.Step.{Event, emit_step, makes_entry, note_item, own_block, after_noting, execute_step}
use Rattle.fab_machine.specs.Joining.{after_out, after_outs, after_told}
use Rattle.fab_machine.specs.Sharing.{shared, shares_owed}
use Rattle.fab_machine.specs.Diaries.{diary_sent, diary_did, diary_after}
use Rattle.fab_machine.specs.Relation.{AreRelated, full_of}
use Rattle.fab_machine.specs.declared.outs.Out.{Out}
use Rattle.fab_machine.proofs.CheckpointStates.{again_keeps}
use Rattle.fab_machine.proofs.Marking.{is_move_to}
use Rattle.fab_machine.proofs.Telling.{own}
use Rattle.fab_machine.proofs.Stepping as machine
use Rattle.fab_machine.proofs.Stepping.{full_put}
use Rattle.fab_machine.proofs.Hearing.{hear_keeps}
use Rattle.fab_machine.proofs.Checkpointing.{checkpoint_keeps}
use Rattle.fab_machine.proofs.Members.{IsMember, is_member}
use Rattle.fab_machine.proofs.Steps.{step_keeps}
use Rattle.heed_laws.specs.Heeding.{number_said}
use Rattle.heed_laws.specs.Working.{work, WorkLaw}
use Rattle.heed_laws.proofs.Stepping.{said_saying, said_did, hear_plain}

-- ---- hearing keeps the low mark

module _ (r : Roster) (me : ReplicaId) (l : Local) where
  count_low : (now : Window Vote) (slot : ℕ) → now.low ≡ l.slots.low → (after_count l now slot).slots.low ≡ l.slots.low
  count_low now slot e = go (newly_prepared l now slot)
    where
      go : (o : Option Hash32) → (keep_prepared (record l { slots = now }) slot o).slots.low ≡ l.slots.low
      go None = e
      go (Some d) = e

  proposal_low : (p : PrePrepare) (how : Take) → (proposal_told r me l p how).local.slots.low ≡ l.slots.low
  proposal_low p Take.Taken = count_low (after_pre_prepare l.slots p.slot (record { digest = batch_digest p.batch; batch = p.batch })) p.slot refl
  proposal_low p Take.Stray = refl
  proposal_low p (Take.Old low) = refl
  proposal_low p (Take.Far high) = refl
  proposal_low p (Take.Ahead view) = refl
  proposal_low p (Take.OtherView view) = refl
  proposal_low p Take.Twice = refl
  proposal_low p (Take.Conflict d) = refl
  proposal_low p (Take.Past stamp) = refl

  prepare_low : (v : Vote) (how : Take) → (prepare_told r me l v how).local.slots.low ≡ l.slots.low
  prepare_low v Take.Taken = count_low (after_prepare l.slots v.signer.index v.slot (record { digest = v.digest; kept = v })) v.slot refl
  prepare_low v Take.Stray = refl
  prepare_low v (Take.Old low) = refl
  prepare_low v (Take.Far high) = refl
  prepare_low v (Take.Ahead view) = refl
  prepare_low v (Take.OtherView view) = refl
  prepare_low v Take.Twice = refl
  prepare_low v (Take.Conflict d) = refl
  prepare_low v (Take.Past stamp) = refl

  commit_low : (v : Vote) (how : Take) → (commit_told r me l v how).local.slots.low ≡ l.slots.low
  commit_low v Take.Taken = count_low (after_commit l.slots v.signer.index v.slot (record { digest = v.digest; kept = v })) v.slot refl
  commit_low v Take.Stray = refl
  commit_low v (Take.Old low) = refl
  commit_low v (Take.Far high) = refl
  commit_low v (Take.Ahead view) = refl
  commit_low v (Take.OtherView view) = refl
  commit_low v Take.Twice = refl
  commit_low v (Take.Conflict d) = refl
  commit_low v (Take.Past stamp) = refl

  hear_low : (m : Message) → (hear r me l m).local.slots.low ≡ l.slots.low
  hear_low (Message.Request x) = refl
  hear_low (Message.PrePrepare p) = go (vote_refusal me l p.signer.cluster p.view p.slot)
    where
      go : (o : Option Take) → (proposal_by r me l p o).local.slots.low ≡ l.slots.low
      go (Some how) = refl
      go None = proposal_low p (pre_prepare_answer l.slots p.slot (batch_digest p.batch))
  hear_low (Message.Prepare v) = go (vote_refusal me l v.signer.cluster v.view v.slot)
    where
      go : (o : Option Take) → (prepare_by r me l v o).local.slots.low ≡ l.slots.low
      go (Some how) = refl
      go None = prepare_low v (prepare_answer l.slots v.signer.index v.slot v.digest)
  hear_low (Message.Commit v) = go (vote_refusal me l v.signer.cluster v.view v.slot)
    where
      go : (o : Option Take) → (commit_by r me l v o).local.slots.low ≡ l.slots.low
      go (Some how) = refl
      go None = commit_low v (commit_answer l.slots v.signer.index v.slot v.digest)
  hear_low (Message.Checkpoint v) = go (nat_eq v.signer.cluster me.cluster)
    where
      go : (b : Bool) → (cond (not b) (unmoved l (Answer.Heard Take.Stray))
          (record { answer = Answer.Heard (vote_answer l.checkpoints v); local = record l { checkpoints = after_vote l.checkpoints v }; outs = [] })).local.slots.low ≡ l.slots.low
      go true = refl
      go false = refl
  hear_low (Message.ViewChange x) = refl
  hear_low (Message.NewView x) = refl
  hear_low (Message.Drvc x) = refl
  hear_low (Message.Rvc x) = refl
  hear_low (Message.ReplyNote x) = refl
  hear_low (Message.Share x) = refl
  hear_low (Message.Fetch x) = refl

-- ---- what is put is said

pub one_said : (me : ReplicaId) (m : Message) → is_own me (signer_of m) ≡ true → length (statements_by me m) ≡ 1
one_said me m e = ap (λ b. length (cond b (unsigned m ∷ []) [])) e

pub outs_local : (r : Roster) (me : ReplicaId) (s : Replica) (outs : List Out) → (after_outs r me s outs).local ≡ s.local
outs_local r me s [] = refl
outs_local r me s (Out.Put item ∷ rest) = outs_local r me (after_out r me s (Out.Put item)) rest
outs_local r me s (Out.Clear ∷ rest) = outs_local r me (after_out r me s Out.Clear) rest
outs_local r me s (Out.Certified k ∷ rest) = outs_local r me (after_out r me s (Out.Certified k)) rest
outs_local r me s (Out.Entered base ∷ rest) = outs_local r me (after_out r me s (Out.Entered base)) rest

-- with more that waits no less is said
put_more : (me : ReplicaId) (diary : List Entry) (items more : List Item)
    → number_said (after_saying diary (statements_in me items)) ≤ number_said (after_saying diary (statements_in me (items ++ more)))
put_more me diary items more =
    omega (
      arith,
      said_saying diary (statements_in me items),
      said_saying diary (statements_in me (items ++ more)),
      ap length (flat_map-append (λ i. statements_by me i.message) items more),
      length-append (statements_in me items) (statements_in me more),
    )

-- as long as no view is left
outs_more : (r : Roster) (me : ReplicaId) (s : Replica) (diary : List Entry) (outs : List Out) → (In Out.Clear outs → ⊥)
    → number_said (full_of me s diary) ≤ number_said (full_of me (after_outs r me s outs) diary)
outs_more r me s diary [] plain = omega arith
outs_more r me s diary (Out.Put item ∷ rest) plain =
    omega (
      arith,
      outs_more r me (after_out r me s (Out.Put item)) diary rest (λ h. plain (inr h)),
      put_more me diary s.outbox (item ∷ []),
    )
outs_more r me s diary (Out.Clear ∷ rest) plain = absurd (plain (inl refl))
outs_more r me s diary (Out.Certified k ∷ rest) plain =
    omega (
      arith,
      outs_more r me (after_out r me s (Out.Certified k)) diary rest (λ h. plain (inr h)),
      put_more me diary s.outbox (shared r me s.local.view k),
    )
outs_more r me s diary (Out.Entered base ∷ rest) plain =
    omega (
      arith,
      outs_more r me (after_out r me s (Out.Entered base)) diary rest (λ h. plain (inr h)),
      put_more me diary s.outbox (shares_owed r me s base),
    )

-- a statement of its own, and nothing else, is put
one_put : (r : Roster) (me : ReplicaId) (s : Replica) (diary : List Entry) (item : Item) → is_own me (signer_of item.message) ≡ true
    → number_said (full_of me (after_outs r me s (Out.Put item ∷ [])) diary) ≡ number_said (full_of me s diary) + 1
one_put r me s diary item e =
    omega (arith, ap number_said (full_put me s diary item), said_saying (full_of me s diary) (statements_by me item.message), one_said me item.message e)

-- ---- the moves

propose_work : (r : Roster) (me : ReplicaId) (s : Replica) (diary : List Entry) (nudged known : Bool)
    → work me s diary + cond (makes_entry (propose r me s.local nudged known).answer) 1 0 ≤ work me (after_told r me s (propose r me s.local nudged known)).state diary
propose_work r me s diary nudged known = by s.local.changing
  where
    l : Local
    l = s.local

    IsFine : Told → Type 0
    IsFine t = work me s diary + cond (makes_entry t.answer) 1 0 ≤ work me (after_told r me s t).state diary

    open_for : (a b c : Bool) → work me s diary + cond (makes_entry (cond (not a) (unmoved s.local (Answer.NotPrimary (s.local.view % size_of r me.cluster))) (cond b (unmoved s.local (Answer.WindowFull s.local.slots.low))
        (cond c (proposed r me s.local (take r.batch (eligible s.local))) (unmoved s.local (Answer.Waiting (length (eligible s.local))))))).answer) 1 0
        ≤ work me (after_told r me s (cond (not a) (unmoved s.local (Answer.NotPrimary (s.local.view % size_of r me.cluster))) (cond b (unmoved s.local (Answer.WindowFull s.local.slots.low))
        (cond c (proposed r me s.local (take r.batch (eligible s.local))) (unmoved s.local (Answer.Waiting (length (eligible s.local)))))))).state diary
    open_for false b c = omega arith
    open_for true true c = omega arith
    open_for true false false = omega arith
    open_for true false true =
        omega (
          arith,
          one_put r me (record s { local = (proposed r me s.local (take r.batch (eligible s.local))).local }) diary
              (record { message = Message.PrePrepare (proposal_of me s.local.view s.local.next (take r.batch (eligible s.local))); to = cluster_of r me }) (own me),
        )

    by : (o : Option ℕ) → work me s diary + cond (makes_entry (propose_in r me s.local nudged known o).answer) 1 0 ≤ work me (after_told r me s (propose_in r me s.local nudged known o)).state diary
    by (Some asked) = omega arith
    by None = open_for (is_primary r me.cluster s.local.view me.index) (nat_lt (high s.local.slots) s.local.next || nat_lt GREATEST_NUMBER s.local.next) (is_due r s.local nudged known)

hear_work : (r : Roster) (me : ReplicaId) (s : Replica) (diary : List Entry) (m : Message) → IsMember r me → IsShaped r m → AreRelated r me s diary
    → work me s diary ≤ work me (after_told r me s (hear r me s.local m)).state (Heard m ∷ diary)
hear_work r me s diary m member fine rel =
    let t = hear r me s.local m in
    let start : Replica = record s { local = t.local } in
    let items = statements_in me s.outbox in
    let facts = machine.hears r me s diary m fine rel.facts in
    let told = (hear_keeps r me s.local m (full_of me s (Heard m ∷ diary)) member facts.rules facts.local (still_heard (Heard m ∷ diary) items m (inl refl))).told in
    omega (
      arith,
      outs_more r me start (Heard m ∷ diary) t.outs told.plain,
      said_saying diary items,
      said_saying (Heard m ∷ diary) items,
      ap (λ (x : Local). x.slots.low) (outs_local r me start t.outs),
      hear_low r me s.local m,
    )

emit_work : (me : ReplicaId) (s : Replica) (diary : List Entry) (sig : List ℕ) → work me s diary ≤ work me (emit_step me s sig s.outbox).state (diary_sent me s.outbox diary)
emit_work me s diary sig = go s.outbox refl
  where
    go : (o : List Item) → s.outbox ≡ o → work me s diary ≤ work me (emit_step me s sig o).state (diary_sent me o diary)
    go [] e = omega arith
    go (item ∷ rest) e =
        let same : full_of me s diary ≡ after_saying (after_saying diary (statements_by me item.message)) (statements_in me rest) =
        ap (λ o. after_saying diary (statements_in me o)) e ∙ after_saying-both diary (statements_by me item.message) (statements_in me rest) in
        omega (arith, ap number_said same)

checkpoint_work : (r : Roster) (me : ReplicaId) (s : Replica) (diary : List Entry) → IsMember r me → AreRelated r me s diary
    → work me s diary + cond (makes_entry (checkpoint r me s.local).answer) 1 0 ≤ work me (after_told r me s (checkpoint r me s.local)).state diary
checkpoint_work r me s diary member rel = by s.local.due refl
  where
    full : List Entry
    full = full_of me s diary

    again : (n : ℕ) → greatest (stable_rounds s.local) ≡ suc n → (In Out.Clear (moved r me s.local (suc n)).outs → ⊥)
        → work me s diary + cond (makes_entry (moved r me s.local (suc n)).answer) 1 0 ≤ work me (after_told r me s (moved r me s.local (suc n))).state diary
    again n e plain =
        let t = moved r me s.local (suc n) in
        let start : Told = record { answer = Answer.Moved (suc n); local = after_move s.local (suc n); outs = [] } in
        let low = again_keeps (λ (x : Told). x.local.slots.low ≡ suc n) r me s.local.kept start (λ x m h is. hear_low r me x.local m ∙ is) refl in
        let answer = again_keeps (λ (x : Told). x.answer ≡ Answer.Moved (suc n)) r me s.local.kept start (λ x m h is. is) refl in
        let cost : Answer → ℕ = λ a. cond (makes_entry a) 1 0 in
        let made = ap cost answer in
        let now : Replica = record s { local = t.local } in
        omega (arith, outs_more r me now diary t.outs plain, ap (λ (x : Local). x.slots.low) (outs_local r me now t.outs), low, made, (is_move_to s.local n e).above)

    to : (n : ℕ) → greatest (stable_rounds s.local) ≡ n → (In Out.Clear (move_to r me s.local n).outs → ⊥)
        → work me s diary + cond (makes_entry (move_to r me s.local n).answer) 1 0 ≤ work me (after_told r me s (move_to r me s.local n)).state diary
    to zero e plain = omega arith
    to (suc n) e plain = again n e plain

    by : (due : List Due) → s.local.due ≡ due
        → work me s diary + cond (makes_entry (checkpoint_by r me s.local due).answer) 1 0 ≤ work me (after_told r me s (checkpoint_by r me s.local due)).state diary
    by [] e =
        let told = (checkpoint_keeps r me s.local full member rel.facts.rules rel.facts.local).told in
        let plain : In Out.Clear (checkpoint_by r me s.local []).outs → ⊥ = subst (λ (due : List Due). In Out.Clear (checkpoint_by r me s.local due).outs → ⊥) e told.plain in
        to (greatest (stable_rounds s.local)) refl plain
    by (d ∷ rest) e =
        omega (arith, one_put r me (record s { local = (voted r me s.local d rest).local }) diary (record { message = Message.Checkpoint (checkpoint_of me d); to = cluster_of r me }) (own me))

execute_work : (r : Roster) (me : ReplicaId) (s : Replica) (diary : List Entry) → AreRelated r me s diary
    → (let now = (execute_step r me s (next_round (length r.sizes) s.rounds)).state in AreRelated r me now (diary_after me s Event.Execute now diary))
    → work me s diary + cond (makes_entry (execute_step r me s (next_round (length r.sizes) s.rounds)).answer) 1 0
    ≤ work me (execute_step r me s (next_round (length r.sizes) s.rounds)).state
    (diary_after me s Event.Execute (execute_step r me s (next_round (length r.sizes) s.rounds)).state diary)
execute_work r me s diary rel after = go (next_round (length r.sizes) s.rounds) after
  where
    did : (blocks : List Block) → number_said (full_of me s (diary_did diary blocks)) ≡ number_said (full_of me s diary)
    did blocks =
        let items = statements_in me s.outbox in
        omega (arith, said_saying diary items, said_saying (diary_did diary blocks) items, said_did diary blocks)

    by : (blocks : List Block) (o : Option RunBlock) → (let now = after_noting r me s (with_round s.rounds blocks) o in
        AreRelated r me now (diary_did diary (drop (length s.rounds.blocks) now.rounds.blocks)) → work me s diary + 1 ≤ work me now (diary_did diary (drop (length s.rounds.blocks) now.rounds.blocks)))
    by blocks None a = absurd (omega (arith, a.facts.rounds.told, rel.facts.rounds.told))
    by blocks (Some ran) a =
        let gained = drop (length s.rounds.blocks) (with_round s.rounds blocks).blocks in
        let item = note_item me (s.rounds.executed + 1) ran in
        let next = diary_did diary gained in
        omega (arith, did gained, ap number_said (full_put me s next item), said_saying (full_of me s next) (statements_by me item.message), one_said me item.message (own me))

    go : (o : Result (List Block) ℕ) → (let now = (execute_step r me s o).state in
        AreRelated r me now (diary_did diary (drop (length s.rounds.blocks) now.rounds.blocks))
        → work me s diary + cond (makes_entry (execute_step r me s o).answer) 1 0 ≤ work me now (diary_did diary (drop (length s.rounds.blocks) now.rounds.blocks)))
    go (Err missing) a = omega (arith, did (drop (length s.rounds.blocks) s.rounds.blocks))
    go (Ok blocks) a = by blocks (own_block r me (with_round s.rounds blocks)) a

pub works : WorkLaw
works r me s diary (Event.Hear m) limits known may plain rel =
    subst (λ (t : Stepped). work me s diary + 0 ≤ work me t.state (Heard m ∷ diary)) (sym (hear_plain r me s m plain))
    (omega (arith, hear_work r me s diary m (is_member r me limits known) may rel))
works r me s diary Event.Batch limits known may plain rel = propose_work r me s diary false (knows_others me.cluster s.rounds.certificates s.local.next)
works r me s diary Event.Nudge limits known may plain rel = propose_work r me s diary true (knows_others me.cluster s.rounds.certificates s.local.next)
works r me s diary (Event.Emit sig) limits known may plain rel = omega (arith, emit_work me s diary sig)
works r me s diary Event.Execute limits known may plain rel = execute_work r me s diary rel (step_keeps r me s diary Event.Execute limits known tt rel)
works r me s diary Event.Checkpoint limits known may plain rel = checkpoint_work r me s diary (is_member r me limits known) rel
works r me s diary Event.Timeout limits known may plain rel = absurd plain
